use Rattle.std.proofs.Common.{◌≡◌, ◌++◌, ◌≤◌, length}
use Rattle.rds_bytes.specs.Numbers.{numbered_counts_text}
use Rattle.rds_bytes.proofs.numbered.put_count_rows.Given as goal

abbrev pub invariant-writing : goal.invariant-writing
invariant-writing l =
    (l.out.items ++ numbered_counts_text l.rows l.numbers ≡ l.fn.out.items ++ numbered_counts_text l.fn.rows l.fn.numbers)
    × (length l.rows ≤ length l.numbers)

abbrev pub decreases-writing : goal.decreases-writing
decreases-writing l = length l.rows
