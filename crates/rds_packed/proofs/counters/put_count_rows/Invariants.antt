use Rattle.std.proofs.Common.{◌≡◌, ◌++◌, ◌≤◌, length}
use Rattle.rds_packed.specs.CountTexts.{numbers_counts_text, AreWithin}
use Rattle.rds_packed.proofs.counters.put_count_rows.Given as goal

abbrev pub invariant-writing : goal.invariant-writing
invariant-writing l =
    (l.out.items ++ numbers_counts_text l.rows l.numbers ≡ l.fn.out.items ++ numbers_counts_text l.fn.rows l.fn.numbers)
    × ((length l.rows ≤ length l.numbers) × AreWithin l.rows)

abbrev pub decreases-writing : goal.decreases-writing
decreases-writing l = length l.rows
