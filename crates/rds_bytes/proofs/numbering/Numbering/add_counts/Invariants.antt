use Rattle.std.proofs.Common.{◌≡◌, ◌++◌, length}
use Rattle.std.specs.Prelude.{fold}
use Rattle.rds_bytes.specs.Numbers.{numbers_from}
use Rattle.rds_bytes.specs.Places.{AreFound}
use Rattle.rds_bytes.specs.Table.{add_key, counter_keys}
use Rattle.rds_bytes.proofs.numbering.Numbering.add_counts.Given as goal

-- what is still numbered ends as all would
abbrev pub invariant-numbering : goal.invariant-numbering
invariant-numbering l =
    (fold add_key l.self.keys.items (counter_keys l.rows) ≡ fold add_key l.fn.self.keys.items (counter_keys l.fn.rows))
    × ((l.self.numbers.items ++ numbers_from l.self.keys.items (counter_keys l.rows) ≡ l.fn.self.numbers.items ++ numbers_from l.fn.self.keys.items (counter_keys l.fn.rows))
    × AreFound l.self.places l.self.keys.items)

abbrev pub decreases-numbering : goal.decreases-numbering
decreases-numbering l = length l.rows
