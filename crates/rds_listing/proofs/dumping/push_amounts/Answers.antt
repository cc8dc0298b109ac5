use Rattle.std.proofs.Common.{◌+◌, ◌/◌, ◌%◌, ◌++◌}
use Rattle.std.specs.Prelude.{string_bytes}
use Rattle.rds_listing.specs.Dump.{amounts, counts_as_lines, most}
use Rattle.rds_listing.proofs.Amounts.{turn_done}
use Rattle.rds_listing.proofs.dumping.push_amounts.Goals as goal

pub loop-turn-preserved : goal.loop-turn-preserved
loop-turn-preserved c =
    turn_done c.args.word.now c.args.key.now (c.args.below / most) c.loop-turn._turn (c.args.below % most + 1) (string_bytes c.loop-turn.text) (string_bytes c.push_count.new.text)
    (string_bytes c.args.text.now ++ counts_as_lines c.args.word.now c.args.key.now (amounts c.args.below)) c.loop-turn-test.true c.loop-turn.invariant c.in_ok-push_count.ensures.text
