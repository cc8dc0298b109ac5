-- What the rows of a join have, and that they rise.
use Rattle.std.proofs.Common.{◌≡◌, Bool, true, false, not, cond, List, [], ◌∷◌, Option, Some, None, refl, sym, ◌∙◌, ap}
use mathlib.Core.Bool.{false≢true}
use Rattle.std.specs.List.{list_all}
use Rattle.std.specs.Ordering.{eq_by_cmp}
use Rattle.std.specs.declared.cmp.Ordering.TheVariants.{Less, Equal, Greater}
use Rattle.std.specs.FinMap.Entries.{by_order}
use Rattle.std.specs.FinMap.{find}
use Rattle.rds_dots.specs.declared.dot.Dot.{Dot}
use Rattle.rds_dots.specs.Dots.{dot_cmp}
use Rattle.rds_dots.specs.Ascending.{is_above, ascends}
use Rattle.rds_dots.specs.Order.{dots_exact, after_before}
use Rattle.rds_dots.specs.Merges.{less_is_above, above_trans}
use Rattle.rds_names.specs.Conditions.{and_true, and_left, and_right}
use Rattle.rds_dots.specs.Sets.{tied_dots_are_one}
use Rattle.rds_life.specs.Life.{keys}
use Rattle.rds_life.specs.Joined.{row_if, outside, joined_onto, rows_of_join}
use Rattle.rds_life.proofs.RowLemmas.{find_above, find-row_if, all-row_if, ascends-row_if}

-- what stays of the two sides' rows at one dot
abbrev pub pick : {X : Type 0} → Bool → Bool → Option X → Option X → Option X
pick sl sr (Some e) (Some f) = Some e
pick sl sr (Some e) None = cond sr None (Some e)
pick sl sr None (Some f) = cond sl None (Some f)
pick sl sr None None = None

module _ {X : Type 0} where
  left_kept : (eq srx sl sr : Bool) (v : X) (fx fy : Option X) → (eq ≡ true → record { same : srx ≡ sr; left : fx ≡ None; right : fy ≡ None }) → cond (not srx) (cond eq (Some v) (pick sl sr fx fy)) (pick sl sr fx fy) ≡ pick sl sr (cond eq (Some v) fx) fy
  left_kept false true sl sr v fx fy h = refl
  left_kept false false sl sr v fx fy h = refl
  left_kept true true sl sr v fx fy h = rw ((h refl).left, (h refl).right, ← (h refl).same) refl
  left_kept true false sl sr v fx fy h = rw ((h refl).right, ← (h refl).same) refl

  right_kept : (eq sly sl sr : Bool) (v : X) (fx fy : Option X) → (eq ≡ true → record { same : sly ≡ sl; left : fx ≡ None; right : fy ≡ None }) → cond (not sly) (cond eq (Some v) (pick sl sr fx fy)) (pick sl sr fx fy) ≡ pick sl sr fx (cond eq (Some v) fy)
  right_kept false true sl sr v fx fy h = refl
  right_kept false false sl sr v fx fy h = refl
  right_kept true true sl sr v fx fy h = rw ((h refl).left, (h refl).right, ← (h refl).same) refl
  right_kept true false sl sr v fx fy h = rw ((h refl).left, ← (h refl).same) refl

  both_kept : (a b sl sr : Bool) (v w : X) (fx fy : Option X) → a ≡ b → cond a (Some v) (pick sl sr fx fy) ≡ pick sl sr (cond a (Some v) fx) (cond b (Some w) fy)
  both_kept true true sl sr v w fx fy e = refl
  both_kept true false sl sr v w fx fy e = absurd (false≢true (sym e))
  both_kept false true sl sr v w fx fy e = absurd (false≢true e)
  both_kept false false sl sr v w fx fy e = refl

module _ {X : Type 0} (sl sr : Dot → Bool) (d : Dot) where
  find-outside : (ys : List (Dot × X)) → ascends (keys ys) ≡ true → find dot_cmp d (outside sl ys) ≡ pick (sl d) (sr d) None (find dot_cmp d ys)
  find-outside [] rise = refl
  find-outside (y ∷ ys) rise =
      let first = and_left (list_all (is_above y.0) (keys ys)) _ rise in
      let again = find-outside ys (and_right (list_all (is_above y.0) (keys ys)) _ rise) in
      find-row_if d (not (sl y.0)) y (outside sl ys)
      ∙ ap (λ o. cond (not (sl y.0)) (cond (eq_by_cmp dot_cmp d y.0) (Some y.1) o) o) again
      ∙ right_kept (eq_by_cmp dot_cmp d y.0) (sl y.0) (sl d) (sr d) y.1 None (find dot_cmp d ys) (λ is. record {
        same = ap sl (sym (tied_dots_are_one d y.0 is));
        left = refl;
        right = ap (λ q. find dot_cmp q ys) (tied_dots_are_one d y.0 is) ∙ find_above y.0 ys first;
      })

  find-joined_onto : (x : Dot × X) (xs : List (Dot × X)) (rest : List (Dot × X) → List (Dot × X)) → list_all (is_above x.0) (keys xs) ≡ true → ((ys : List (Dot × X)) → ascends (keys ys) ≡ true → find dot_cmp d (rest ys) ≡ pick (sl d) (sr d) (find dot_cmp d xs) (find dot_cmp d ys)) → (ys : List (Dot × X)) → ascends (keys ys) ≡ true → find dot_cmp d (joined_onto sl sr x rest ys) ≡ pick (sl d) (sr d) (find dot_cmp d (x ∷ xs)) (find dot_cmp d ys)
  find-joined_onto x xs rest front h [] rise =
      find-row_if d (not (sr x.0)) x (rest [])
      ∙ ap (λ o. cond (not (sr x.0)) (cond (eq_by_cmp dot_cmp d x.0) (Some x.1) o) o) (h [] refl)
      ∙ left_kept (eq_by_cmp dot_cmp d x.0) (sr x.0) (sl d) (sr d) x.1 (find dot_cmp d xs) None (λ is. record {
        same = ap sr (sym (tied_dots_are_one d x.0 is));
        left = ap (λ q. find dot_cmp q xs) (tied_dots_are_one d x.0 is) ∙ find_above x.0 xs front;
        right = refl;
      })
  find-joined_onto x xs rest front h (y ∷ ys) rise =
      let first = and_left (list_all (is_above y.0) (keys ys)) _ rise in
      let later = and_right (list_all (is_above y.0) (keys ys)) _ rise in
      let again = find-joined_onto x xs rest front h ys later in
      elim (dot_cmp x.0 y.0) as (λ o. dot_cmp x.0 y.0 ≡ o → find dot_cmp d (by_order o (row_if (not (sr x.0)) x (rest (y ∷ ys))) (x ∷ rest ys) (row_if (not (sl y.0)) y (joined_onto sl sr x rest ys))) ≡ pick (sl d) (sr d) (find dot_cmp d (x ∷ xs)) (find dot_cmp d (y ∷ ys))) [
        | Less ↦ λ is.
            find-row_if d (not (sr x.0)) x (rest (y ∷ ys))
            ∙ ap (λ o. cond (not (sr x.0)) (cond (eq_by_cmp dot_cmp d x.0) (Some x.1) o) o) (h (y ∷ ys) rise)
            ∙ left_kept (eq_by_cmp dot_cmp d x.0) (sr x.0) (sl d) (sr d) x.1 (find dot_cmp d xs) (find dot_cmp d (y ∷ ys)) (λ e. record {
              same = ap sr (sym (tied_dots_are_one d x.0 e));
              left = ap (λ q. find dot_cmp q xs) (tied_dots_are_one d x.0 e) ∙ find_above x.0 xs front;
              right = ap (λ q. find dot_cmp q (y ∷ ys)) (tied_dots_are_one d x.0 e) ∙ find_above x.0 (y ∷ ys) (and_true _ _ (less_is_above x.0 y.0 is) (above_trans x.0 y.0 is (keys ys) first));
            })
        | Equal ↦ λ is.
            ap (λ o. cond (eq_by_cmp dot_cmp d x.0) (Some x.1) o) (h ys later)
            ∙ both_kept (eq_by_cmp dot_cmp d x.0) (eq_by_cmp dot_cmp d y.0) (sl d) (sr d) x.1 y.1 (find dot_cmp d xs) (find dot_cmp d ys) (ap (eq_by_cmp dot_cmp d) (dots_exact x.0 y.0 is))
        | Greater ↦ λ is.
            find-row_if d (not (sl y.0)) y (joined_onto sl sr x rest ys)
            ∙ ap (λ o. cond (not (sl y.0)) (cond (eq_by_cmp dot_cmp d y.0) (Some y.1) o) o) again
            ∙ right_kept (eq_by_cmp dot_cmp d y.0) (sl y.0) (sl d) (sr d) y.1 (find dot_cmp d (x ∷ xs)) (find dot_cmp d ys) (λ e. record {
              same = ap sl (sym (tied_dots_are_one d y.0 e));
              left = ap (λ q. find dot_cmp q (x ∷ xs)) (tied_dots_are_one d y.0 e) ∙ find_above y.0 (x ∷ xs) (and_true _ _ (less_is_above y.0 x.0 (after_before x.0 y.0 is)) (above_trans y.0 x.0 (after_before x.0 y.0 is) (keys xs) front));
              right = ap (λ q. find dot_cmp q ys) (tied_dots_are_one d y.0 e) ∙ find_above y.0 ys first;
            })
      ] refl

  -- what the rows of a join have at a dot
  pub find-rows_of_join : (xs ys : List (Dot × X)) → ascends (keys xs) ≡ true → ascends (keys ys) ≡ true → find dot_cmp d (rows_of_join sl sr xs ys) ≡ pick (sl d) (sr d) (find dot_cmp d xs) (find dot_cmp d ys)
  find-rows_of_join [] ys rise_xs rise_ys = find-outside ys rise_ys
  find-rows_of_join (x ∷ xs) ys rise_xs rise_ys =
      find-joined_onto x xs (rows_of_join sl sr xs) (and_left _ (ascends (keys xs)) rise_xs) (λ zs rise. find-rows_of_join xs zs (and_right (list_all (is_above x.0) (keys xs)) _ rise_xs) rise) ys rise_ys

module _ {X : Type 0} (sl sr : Dot → Bool) where
  all-outside : (p : Dot → Bool) (ys : List (Dot × X)) → list_all p (keys ys) ≡ true → list_all p (keys (outside sl ys)) ≡ true
  all-outside p [] all = refl
  all-outside p (y ∷ ys) all = all-row_if p (not (sl y.0)) y _ (and_left (p y.0) _ all) (all-outside p ys (and_right (p y.0) _ all))

  ascends-outside : (ys : List (Dot × X)) → ascends (keys ys) ≡ true → ascends (keys (outside sl ys)) ≡ true
  ascends-outside [] rise = refl
  ascends-outside (y ∷ ys) rise = ascends-row_if (not (sl y.0)) y _ (all-outside (is_above y.0) ys (and_left _ (ascends (keys ys)) rise)) (ascends-outside ys (and_right (list_all (is_above y.0) (keys ys)) _ rise))

  all-joined_onto : (p : Dot → Bool) (x : Dot × X) (rest : List (Dot × X) → List (Dot × X)) → p x.0 ≡ true → ((ys : List (Dot × X)) → list_all p (keys ys) ≡ true → list_all p (keys (rest ys)) ≡ true) → (ys : List (Dot × X)) → list_all p (keys ys) ≡ true → list_all p (keys (joined_onto sl sr x rest ys)) ≡ true
  all-joined_onto p x rest px h [] all = all-row_if p (not (sr x.0)) x _ px (h [] refl)
  all-joined_onto p x rest px h (y ∷ ys) all =
      let again = all-joined_onto p x rest px h ys (and_right (p y.0) _ all) in
      elim (dot_cmp x.0 y.0) as (λ o. list_all p (keys (by_order o (row_if (not (sr x.0)) x (rest (y ∷ ys))) (x ∷ rest ys) (row_if (not (sl y.0)) y (joined_onto sl sr x rest ys)))) ≡ true) [
        | Less ↦ all-row_if p (not (sr x.0)) x _ px (h (y ∷ ys) all)
        | Equal ↦ and_true _ _ px (h ys (and_right (p y.0) _ all))
        | Greater ↦ all-row_if p (not (sl y.0)) y _ (and_left (p y.0) _ all) again
      ]

  pub all-rows_of_join : (p : Dot → Bool) (xs ys : List (Dot × X)) → list_all p (keys xs) ≡ true → list_all p (keys ys) ≡ true → list_all p (keys (rows_of_join sl sr xs ys)) ≡ true
  all-rows_of_join p [] ys all_xs all_ys = all-outside p ys all_ys
  all-rows_of_join p (x ∷ xs) ys all_xs all_ys = all-joined_onto p x (rows_of_join sl sr xs) (and_left (p x.0) _ all_xs) (λ zs all. all-rows_of_join p xs zs (and_right (p x.0) _ all_xs) all) ys all_ys

  ascends-joined_onto : (x : Dot × X) (xs : List (Dot × X)) (rest : List (Dot × X) → List (Dot × X)) → list_all (is_above x.0) (keys xs) ≡ true → ((p : Dot → Bool) (ys : List (Dot × X)) → list_all p (keys xs) ≡ true → list_all p (keys ys) ≡ true → list_all p (keys (rest ys)) ≡ true) → ((ys : List (Dot × X)) → ascends (keys ys) ≡ true → ascends (keys (rest ys)) ≡ true) → (ys : List (Dot × X)) → ascends (keys ys) ≡ true → ascends (keys (joined_onto sl sr x rest ys)) ≡ true
  ascends-joined_onto x xs rest front all asc [] rise = ascends-row_if (not (sr x.0)) x _ (all (is_above x.0) [] front refl) (asc [] refl)
  ascends-joined_onto x xs rest front all asc (y ∷ ys) rise =
      let first = and_left (list_all (is_above y.0) (keys ys)) _ rise in
      let later = and_right (list_all (is_above y.0) (keys ys)) _ rise in
      let again = ascends-joined_onto x xs rest front all asc ys later in
      elim (dot_cmp x.0 y.0) as (λ o. dot_cmp x.0 y.0 ≡ o → ascends (keys (by_order o (row_if (not (sr x.0)) x (rest (y ∷ ys))) (x ∷ rest ys) (row_if (not (sl y.0)) y (joined_onto sl sr x rest ys)))) ≡ true) [
        | Less ↦ λ is. ascends-row_if (not (sr x.0)) x _ (all (is_above x.0) (y ∷ ys) front (and_true _ _ (less_is_above x.0 y.0 is) (above_trans x.0 y.0 is (keys ys) first))) (asc (y ∷ ys) rise)
        | Equal ↦ λ is. and_true _ _ (all (is_above x.0) ys front (ap (λ q. list_all (is_above q) (keys ys)) (dots_exact x.0 y.0 is) ∙ first)) (asc ys later)
        | Greater ↦ λ is. ascends-row_if (not (sl y.0)) y _ (all-joined_onto (is_above y.0) x rest (less_is_above y.0 x.0 (after_before x.0 y.0 is)) (λ zs h. all (is_above y.0) zs (above_trans y.0 x.0 (after_before x.0 y.0 is) (keys xs) front) h) ys first) again
      ] refl

  -- and they rise
  pub ascends-rows_of_join : (xs ys : List (Dot × X)) → ascends (keys xs) ≡ true → ascends (keys ys) ≡ true → ascends (keys (rows_of_join sl sr xs ys)) ≡ true
  ascends-rows_of_join [] ys rise_xs rise_ys = ascends-outside ys rise_ys
  ascends-rows_of_join (x ∷ xs) ys rise_xs rise_ys =
      ascends-joined_onto x xs (rows_of_join sl sr xs) (and_left _ (ascends (keys xs)) rise_xs) (λ p zs. all-rows_of_join p xs zs) (λ zs. ascends-rows_of_join xs zs (and_right (list_all (is_above x.0) (keys xs)) _ rise_xs)) ys rise_ys
