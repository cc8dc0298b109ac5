use Rattle.std.proofs.Common.{◌≡◌, ◌+◌, ◌*◌, ◌≤◌, ◌<◌, ◌^◌, length}
use Rattle.rds_packed.specs.CountTexts.{numbers_counts_text, AreWithin}
use Rattle.rds_packed.proofs.counters.rows_length.Given as goal

-- what is still measured ends as all would
abbrev pub invariant-measuring : goal.invariant-measuring
invariant-measuring l =
    (l.total + length (numbers_counts_text l.rows l.numbers) ≡ length (numbers_counts_text l.fn.rows l.fn.numbers))
    × ((l.total + 22 * length l.rows ≤ 22 * length l.fn.rows) × ((length l.fn.rows < 2 ^ 64) × ((length l.rows ≤ length l.numbers) × AreWithin l.rows)))

abbrev pub decreases-measuring : goal.decreases-measuring
decreases-measuring l = length l.rows
