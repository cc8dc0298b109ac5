-- Rows by dot, in order.
use Rattle.std.proofs.Common.{◌≡◌, Bool, true, false, ◌&&◌, ◌||◌, cond, List, [], ◌∷◌, Some, None, refl, sym, ◌∙◌, ap}
use Rattle.std.proofs.Common.{subst}
use mathlib.Core.Bool.{false≢true}
use Rattle.std.specs.List.{list_all, list_any}
use Rattle.std.specs.Prelude.{map as each}
use Rattle.std.specs.Ordering.{eq_by_cmp, is_eq, is_lt}
use Rattle.std.specs.FinMap.{find}
use Rattle.std.specs.FinMap.Entries.{is_sorted, below_all, same_entries}
use lib.Dec.{T}
use Rattle.rds_dots.specs.declared.dot.Dot.{Dot}
use Rattle.rds_dots.specs.Dots.{dot_cmp}
use Rattle.rds_dots.specs.Ascending.{is_above, ascends}
use Rattle.rds_dots.specs.Order.{dots_total, dots_exact}
use Rattle.rds_names.specs.Conditions.{and_true, and_left, and_right, less_of, true_of}
use Rattle.rds_dots.specs.Sets.{tied_dots_are_one}
use Rattle.rds_life.specs.Life.{keys}
use Rattle.rds_life.specs.Joined.{row_if}

module _ {X : Type 0} where
  -- a dot before all rows has none
  pub find_above : (d : Dot) (rows : List (Dot × X)) → list_all (is_above d) (keys rows) ≡ true → find dot_cmp d rows ≡ None
  find_above d [] all = refl
  find_above d (r ∷ rows) all = ap (λ o. cond (is_eq o) (Some r.1) (find dot_cmp d rows)) (less_of (dot_cmp d r.0) (and_left (is_above d r.0) _ all)) ∙ find_above d rows (and_right (is_above d r.0) _ all)

  -- a dot that fails what all rows pass has none
  pub find_outside : (p : Dot → Bool) (d : Dot) → p d ≡ false → (rows : List (Dot × X)) → list_all (λ r. p r.0) rows ≡ true → find dot_cmp d rows ≡ None
  find_outside p d fails [] all = refl
  find_outside p d fails (r ∷ rows) all =
      let again = find_outside p d fails rows (and_right (p r.0) _ all) in
      elim (eq_by_cmp dot_cmp d r.0) as (λ b. eq_by_cmp dot_cmp d r.0 ≡ b → cond b (Some r.1) (find dot_cmp d rows) ≡ None) [
        | true ↦ λ is. absurd (false≢true (sym fails ∙ ap p (tied_dots_are_one d r.0 is) ∙ and_left (p r.0) _ all))
        | false ↦ λ _. again
      ] refl

  pub find-row_if : (d : Dot) (b : Bool) (r : Dot × X) (rows : List (Dot × X)) → find dot_cmp d (row_if b r rows) ≡ cond b (cond (eq_by_cmp dot_cmp d r.0) (Some r.1) (find dot_cmp d rows)) (find dot_cmp d rows)
  find-row_if d true r rows = refl
  find-row_if d false r rows = refl

  pub all-row_if : (p : Dot → Bool) (b : Bool) (r : Dot × X) (rows : List (Dot × X)) → p r.0 ≡ true → list_all p (keys rows) ≡ true → list_all p (keys (row_if b r rows)) ≡ true
  all-row_if p true r rows one all = and_true _ _ one all
  all-row_if p false r rows one all = all

  pub ascends-row_if : (b : Bool) (r : Dot × X) (rows : List (Dot × X)) → list_all (is_above r.0) (keys rows) ≡ true → ascends (keys rows) ≡ true → ascends (keys (row_if b r rows)) ≡ true
  ascends-row_if true r rows first rise = and_true _ _ first rise
  ascends-row_if false r rows first rise = rise

-- rows that rise are std's entries in order
module _ {X : Type 0} where
  below_keys : (d : Dot) (rows : List (Dot × X)) → list_all (is_above d) (keys rows) ≡ below_all dot_cmp d rows
  below_keys d [] = refl
  below_keys d (r ∷ rows) = ap (λ b. is_lt (dot_cmp d r.0) && b) (below_keys d rows)

  rise-is_sorted : (rows : List (Dot × X)) → ascends (keys rows) ≡ is_sorted dot_cmp rows
  rise-is_sorted [] = refl
  rise-is_sorted (r ∷ rows) = ap (λ b. b && ascends (keys rows)) (below_keys r.0 rows) ∙ ap (λ b. below_all dot_cmp r.0 rows && b) (rise-is_sorted rows)

  pub sorted_of : (rows : List (Dot × X)) → ascends (keys rows) ≡ true → T (is_sorted dot_cmp rows)
  sorted_of rows rise = subst T (sym (sym (rise-is_sorted rows) ∙ rise)) tt

  pub rise_of : (rows : List (Dot × X)) → T (is_sorted dot_cmp rows) → ascends (keys rows) ≡ true
  rise_of rows sorted = rise-is_sorted rows ∙ true_of _ sorted

  -- rows that rise are those of their look-ups
  pub same_rows : (ls rs : List (Dot × X)) → ascends (keys ls) ≡ true → ascends (keys rs) ≡ true → ((d : Dot) → find dot_cmp d ls ≡ find dot_cmp d rs) → ls ≡ rs
  same_rows ls rs rise_l rise_r same = same_entries dot_cmp dots_total dots_exact ls rs (sorted_of ls rise_l) (sorted_of rs rise_r) same

-- what each dot of a list is given
pub find-each : {X : Type 0} (f : Dot → X) (d : Dot) (ds : List Dot) → find dot_cmp d (each (λ x. (x, f x)) ds) ≡ cond (list_any (eq_by_cmp dot_cmp d) ds) (Some (f d)) None
find-each f d [] = refl
find-each f d (x ∷ ds) =
    let again = find-each f d ds in
    elim (eq_by_cmp dot_cmp d x) as (λ b. eq_by_cmp dot_cmp d x ≡ b → cond b (Some (f x)) (find dot_cmp d (each (λ y. (y, f y)) ds)) ≡ cond (b || list_any (eq_by_cmp dot_cmp d) ds) (Some (f d)) None) [
      | true ↦ λ is. ap (λ y. Some (f y)) (sym (tied_dots_are_one d x is))
      | false ↦ λ _. again
    ] refl
