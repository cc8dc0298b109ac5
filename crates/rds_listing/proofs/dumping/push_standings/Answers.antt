use Rattle.std.specs.Prelude.{string_bytes}
use Rattle.rds_listing.specs.Dump.{standing_edits}
use Rattle.rds_listing.proofs.Amounts.{edits_at}
use Rattle.rds_listing.proofs.dumping.push_standings.Goals as goal

pub loop-standing-preserved : goal.loop-standing-preserved
loop-standing-preserved c =
    edits_at standing_edits c.args.all.now c.loop-standing.standing-index c.standing-item.result (string_bytes c.loop-standing.text)
    (string_bytes c.push_standing.new.text) (string_bytes c.args.text.now) c.loop-standing-test.true c.standing-item.is
    c.loop-standing.invariant c.in_ok-push_standing.ensures.text
