use Rattle.std.proofs.Common.{◌≡◌, ◌++◌, true, length}
use Rattle.std.specs.Prelude.{fold}
use Rattle.std.specs.List.{list_all}
use Rattle.rds_bytes.specs.Numbers.{numbers_from}
use Rattle.rds_bytes.specs.Places.{AreFound}
use Rattle.rds_bytes.specs.Table.{add_key}
use Rattle.rds_bytes.specs.Values.{is_key_text}
use Rattle.rds_bytes.proofs.numbering.Numbering.add_path.Given as goal

-- what is still numbered ends as all would
abbrev pub invariant-numbering : goal.invariant-numbering
invariant-numbering l =
    (fold add_key l.self.keys.items l.keys ≡ fold add_key l.fn.self.keys.items l.fn.keys)
    × ((l.self.numbers.items ++ numbers_from l.self.keys.items l.keys ≡ l.fn.self.numbers.items ++ numbers_from l.fn.self.keys.items l.fn.keys)
    × (AreFound l.self.places l.self.keys.items
    × (list_all is_key_text l.keys ≡ true → list_all is_key_text l.fn.keys ≡ true)))

abbrev pub decreases-numbering : goal.decreases-numbering
decreases-numbering l = length l.keys
