-- What is left to claim after a dot.
use Rattle.std.specs.Prelude.{ℕ, Bool, true, false, List, [], ◌∷◌, map as each, Option}
use Rattle.std.specs.List.{filter}
use Rattle.std.specs.FinMap as map
use Rattle.rds_dots.specs.declared.dot.Dot.{Dot}
use Rattle.rds_dots.specs.Dots.{comes_after}
use Rattle.rds_life.specs.Life.{Life, Lived}
use Rattle.rds_delta.specs.declared.row.Row.{Row}
use Rattle.rds_delta.specs.declared.row.Row.TheVariants as rows
use Rattle.rds_delta.specs.declared.step.DotRow.{DotRow}
use Rattle.rds_delta.specs.declared.step.DotRow.TheVariants as dots
use Rattle.rds_delta.specs.Claims.{life_claim}
use Rattle.rds_delta.specs.Grouped.{grouped_onto}

abbrev pub after_of : Option Dot → Lived → List (Dot × Life)
after_of after v = filter (λ e. comes_after after e.0) (map.entries v)

-- the rows of the dots after the given one, and then the given rows
abbrev pub claims_after : (Dot → ℕ) → Lived → Option Dot → List Row → List Row
claims_after peer v after more = grouped_onto (each (life_claim peer) (after_of after v)) more

-- rows that no run of dead dots goes on into
abbrev pub is_flat : List Row → Bool
is_flat [] = true
is_flat (rows.Live d ∷ rs) = true
is_flat (rows.Dead r p ∷ rs) = false
is_flat (rows.Count key replica which sent peer ∷ rs) = true

abbrev pub certified_row : DotRow → Row
certified_row (dots.Live d p) = rows.Live d
certified_row (dots.Dead r p) = rows.Dead r p
