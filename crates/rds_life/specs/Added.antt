-- Rows that are joined in place: those of unseen dots are added, and those of dead dots taken out.
use Rattle.std.specs.Prelude.{◌≡◌, Bool, true, false, not, ◌&&◌, cond, List, Option, Some, None, is_some}
use Rattle.std.specs.FinMap as map
use Rattle.std.specs.FinSet as set
use Rattle.std.specs.List.{filter}
use Rattle.rds_names.specs.declared.entry.Entry.{Entry}
use Rattle.rds_dots.specs.declared.dot.Dot.{Dot}
use Rattle.rds_dots.specs.Ascending.{is_above}
use Rattle.rds_dots.specs.Dots.{Dots, dot_cmp}

-- what a dot has once the other's row was added, if the dot was unseen and there is one
abbrev pub gain : Bool → Option Entry → Option Entry → Option Entry
gain true old other = old
gain false old None = old
gain false old (Some e) = Some e

-- what a dot has once the row of an unseen one was taken out
abbrev pub loss : Bool → Bool → Option Entry → Option Entry
loss seen has old = cond (not seen && has) None old

-- whether a seen dot has no row
abbrev pub is_gone : (Dot → Bool) → List (Dot × Entry) → Dot → Bool
is_gone seen rows d = seen d && not (is_some (map.find dot_cmp d rows))

-- the rows of seen dots that the others have no row of
abbrev pub gone_rows : (Dot → Bool) → List (Dot × Entry) → List (Dot × Entry) → List (Dot × Entry)
gone_rows seen live rows = filter (λ r. is_gone seen live r.0) rows

-- the set has no dot after the first one up to the last
abbrev pub IsGapEnd : Dots → Dot → Dot → Type 0
IsGapEnd seen first last = (d : Dot) → is_above first d ≡ true → is_above last d ≡ false → set.contains seen d ≡ false

-- nothing but rows of the other's unseen dots was added
pub record IsAdded (seen : Dot → Bool) (other old new : List (Dot × Entry)) : Type 0 where
  pub seen_stay : (d : Dot) → seen d ≡ true → map.find dot_cmp d new ≡ map.find dot_cmp d old
  pub others_stay : (d : Dot) → is_some (map.find dot_cmp d other) ≡ false → map.find dot_cmp d new ≡ map.find dot_cmp d old
