use Rattle.std.proofs.Common.{rules, ℕ, ℤ, List}
use Rattle.std.specs.Prelude.{string_bytes}
use Rattle.rds_listing.specs.Dump.{sum_edits}
use Rattle.rds_listing.proofs.Amounts.{edits_at}
use Rattle.rds_listing.proofs.dumping.push_sums.Goals as goal

pub loop-row-preserved : goal.loop-row-preserved
loop-row-preserved c =
    edits_at (λ (r : List ℕ × ℤ). sum_edits r.0 r.1) c.args.rows.now c.loop-row.row-index c.row-item.result (string_bytes c.loop-row.text)
    (string_bytes c.push_sum.new.text) (string_bytes c.args.text.now) c.loop-row-test.true c.row-item.is
    c.loop-row.invariant (search rules)
