-- Rows against the dots of a delta.
use Rattle.std.specs.Prelude.{◌≡◌, ◌↔◌, ℕ, ◌<◌, Bool, true, false, ◌==◌, nat_lt, List, Option, None, is_some}
use Rattle.std.specs.FinMap as map
use Rattle.rds_dots.specs.declared.dot.Dot.{Dot}
use Rattle.rds_dots.specs.Dots.{comes_after, last_of}
use Rattle.rds_life.specs.Life.{Lived}
use Rattle.rds_delta.specs.Ranks.{life_rank}
use Rattle.rds_delta.specs.declared.row.Row.{Row}
use Rattle.rds_delta.specs.declared.step.DotRow.{DotRow}
use Rattle.rds_delta.specs.declared.step.DotRow.TheVariants as dots
use Rattle.rds_delta.specs.Rest.{claims_after, is_flat}

abbrev pub row_above : DotRow → Bool
row_above (dots.Live d p) = p == 0
row_above (dots.Dead r p) = nat_lt p 2

abbrev pub end_of : DotRow → Dot
end_of (dots.Live d p) = d
end_of (dots.Dead r p) = last_of r

abbrev pub IsAboveAt : (Dot → ℕ) → Lived → Dot → Type 0
IsAboveAt peer v d = is_some (map.get v d) ≡ true → peer d < life_rank (map.get v d)

-- the rows up to here are those of the dots up to the given one, which are above
pub record IsClaimedTo (peer : Dot → ℕ) (v : Lived) (rows : List Row) (after : Option Dot) (rest : List Row) : Type 0 where
  pub above : (d : Dot) → comes_after after d ≡ false → IsAboveAt peer v d
  pub left : (more : List Row) → is_flat more ≡ true → (rows ≡ claims_after peer v None more) ↔ (rest ≡ claims_after peer v after more)

-- all dots are above and claimed, and these rows are left
pub record IsClaimed (peer : Dot → ℕ) (v : Lived) (rows rest : List Row) : Type 0 where
  pub above : (d : Dot) → IsAboveAt peer v d
  pub left : (more : List Row) → is_flat more ≡ true → (rows ≡ claims_after peer v None more) ↔ (rest ≡ more)

-- a dot isn't above, or the rows don't begin as they must
pub record IsUnclaimed (peer : Dot → ℕ) (v : Lived) (rows : List Row) : Type 0 where
  pub fails : ((d : Dot) → IsAboveAt peer v d) → (more : List Row) → is_flat more ≡ true → rows ≡ claims_after peer v None more → ⊥
