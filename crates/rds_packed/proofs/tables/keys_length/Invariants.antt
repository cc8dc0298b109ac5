use Rattle.std.proofs.Common.{◌≡◌, ◌+◌, ◌*◌, ◌≤◌, ◌<◌, ◌^◌, length, []}
use Rattle.std.specs.List.{AllByRecursion}
use Rattle.rds_bytes.specs.Values.{IsKeyText}
use Rattle.rds_packed.specs.FrontTexts.{fronts_text}
use Rattle.rds_packed.proofs.tables.keys_length.Given as goal

-- what is still measured ends as all would
abbrev pub invariant-measuring : goal.invariant-measuring
invariant-measuring l =
    (l.total + length (fronts_text l.before l.keys) ≡ length (fronts_text [] l.fn.keys))
    × ((l.total + 66 * length l.keys ≤ 66 * length l.fn.keys)
    × ((length l.fn.keys < 2 ^ 64) × (AllByRecursion IsKeyText l.keys → AllByRecursion IsKeyText l.fn.keys)))

abbrev pub decreases-measuring : goal.decreases-measuring
decreases-measuring l = length l.keys
