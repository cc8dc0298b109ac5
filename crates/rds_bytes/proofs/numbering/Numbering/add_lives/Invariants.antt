use Rattle.std.proofs.Common.{◌≡◌, ◌++◌, ◌+◌, ◌*◌, ◌≤◌, ◌<◌, ◌^◌, length}
use Rattle.std.specs.Prelude.{fold}
use Rattle.std.specs.List.{AllByRecursion}
use Rattle.rds_life.specs.Life.{live_rows}
use Rattle.rds_bytes.specs.Numbers.{numbered_length, numbers_from}
use Rattle.rds_bytes.specs.Places.{AreFound}
use Rattle.rds_bytes.specs.Table.{add_key, live_keys}
use Rattle.rds_bytes.specs.Values.{IsLiveRow}
use Rattle.rds_bytes.proofs.numbering.Numbering.add_lives.Given as goal

-- what is still numbered ends as all would
abbrev pub invariant-loop-dot : goal.invariant-loop-dot
invariant-loop-dot g l =
    (fold add_key l.self.keys.items (live_keys l._dot-iterator) ≡ fold add_key l.initial.self.keys.items (live_keys (live_rows l.lives)))
    × ((l.self.numbers.items ++ numbers_from l.self.keys.items (live_keys l._dot-iterator) ≡ l.initial.self.numbers.items ++ numbers_from l.initial.self.keys.items (live_keys (live_rows l.lives)))
    × (AreFound l.self.places l.self.keys.items
    × ((l.length + numbered_length l._dot-iterator ≡ 4 + numbered_length (live_rows l.lives))
    × ((l.length + 2048 * length l._dot-iterator ≤ 4 + 2048 * length (live_rows l.lives))
    × ((length (live_rows l.lives) < 2 ^ 64) × (AllByRecursion IsLiveRow l._dot-iterator → AllByRecursion IsLiveRow (live_rows l.lives)))))))
