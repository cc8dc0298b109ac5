-- Rows by their ids, in whatever order they stand.
use Rattle.std.proofs.Common.{◌≡◌, ◌∙◌, ◌||◌, Bool, true, false, List, [], ◌∷◌, ◌++◌, Option, Some, None, refl, ap}
use Rattle.std.specs.Prelude.{find, if◌then◌else◌, is_some}
use Rattle.std.specs.List.{list_any}
use Rattle.std.specs.Str.{bytes_eq}
use Rattle.std.proofs.lemmas.List.{append-nil}
use Rattle.clap.specs.Words.{Row, Text}
use Rattle.clap.specs.Walk.{at_row, has_row, without}

abbrev pub row_at : Text → List Row → Option Row
row_at id rows = find (λ r. bytes_eq r.id id) rows

pub or_left : (a b : Bool) → (a || b) ≡ false → a ≡ false
or_left true b e = absurd cc
or_left false b e = refl

pub or_right : (a b : Bool) → (a || b) ≡ false → b ≡ false
or_right true b e = absurd cc
or_right false b e = e

-- ---- finding behind more

pub find_in : (b : Bool) (r : Row) (found more : Option Row) → found ≡ more → (if b then Some r else found) ≡ (if b then Some r else more)
find_in b r found more e = ap (λ (f : Option Row). if b then Some r else f) e

pub find_new : (p : Row → Bool) (rows : List Row) (r : Row) → find p rows ≡ None → p r ≡ true → find p (rows ++ r ∷ []) ≡ Some r
find_new p [] r none is = rw is refl
find_new p (x ∷ rows) r none is = of (p x) none (λ e. find_new p rows r e is)
  where
    of : (b : Bool) → (if b then Some x else find p rows) ≡ None → (find p rows ≡ None → find p (rows ++ r ∷ []) ≡ Some r) → (if b then Some x else find p (rows ++ r ∷ [])) ≡ Some r
    of true e on = absurd cc
    of false e on = on e

pub find_kept : (p : Row → Bool) (rows more : List Row) (r : Row) → find p rows ≡ Some r → find p (rows ++ more) ≡ Some r
find_kept p [] more r is = absurd cc
find_kept p (x ∷ rows) more r is = of (p x) is (λ e. find_kept p rows more r e)
  where
    of : (b : Bool) → (if b then Some x else find p rows) ≡ Some r → (find p rows ≡ Some r → find p (rows ++ more) ≡ Some r) → (if b then Some x else find p (rows ++ more)) ≡ Some r
    of true e on = e
    of false e on = on e

pub find_past : (p : Row → Bool) (rows : List Row) (r : Row) → p r ≡ false → find p (rows ++ r ∷ []) ≡ find p rows
find_past p [] r other = rw other refl
find_past p (x ∷ rows) r other = find_in (p x) x (find p (rows ++ r ∷ [])) (find p rows) (find_past p rows r other)

pub any_found : (p : Row → Bool) (rows : List Row) → list_any p rows ≡ is_some (find p rows)
any_found p [] = refl
any_found p (x ∷ rows) = of (p x) (any_found p rows)
  where
    of : (b : Bool) → list_any p rows ≡ is_some (find p rows) → (b || list_any p rows) ≡ is_some (if b then Some x else find p rows)
    of true on = refl
    of false on = on

pub no_row : (id : Text) (rows : List Row) → row_at id rows ≡ None → has_row id rows ≡ false
no_row id rows none = any_found (λ r. bytes_eq r.id id) rows ∙ ap is_some none

pub one_row : (id : Text) (rows : List Row) (r : Row) → row_at id rows ≡ Some r → has_row id rows ≡ true
one_row id rows r is = any_found (λ r. bytes_eq r.id id) rows ∙ ap is_some is

-- ---- what is new stands behind the others

pub at_no_row : (id : Text) (change : Row → List Row) (missing rows : List Row) → has_row id rows ≡ false → at_row id change missing rows ≡ rows ++ missing
at_no_row id change missing [] none = refl
at_no_row id change missing (r ∷ rows) none =
    rw (or_left (bytes_eq r.id id) _ none) (ap (λ rs. r ∷ rs) (at_no_row id change missing rows (or_right (bytes_eq r.id id) _ none)))

pub without_none : (id : Text) (rows : List Row) → has_row id rows ≡ false → without id rows ≡ rows
without_none id rows none = at_no_row id (λ r. []) [] rows none ∙ append-nil rows
