-- The dots of a rising list that another rising list lacks, taken one by one.
use Rattle.std.proofs.Common.{◌≡◌, true, false, cond, not, ◌||◌, List, [], ◌∷◌, length, refl, sym, ◌∙◌, ap, arith}
use Rattle.std.specs.List.{list_all}
use Rattle.std.specs.Ordering.{eq_by_cmp, is_eq}
use Rattle.std.specs.declared.cmp.Ordering.TheVariants.{Less, Equal, Greater}
use Rattle.rds_dots.specs.declared.dot.Dot.{Dot}
use Rattle.rds_dots.specs.Dots.{dot_cmp}
use Rattle.rds_dots.specs.Ascending.{is_above, ascends}
use Rattle.rds_dots.specs.Listed.{lists, without}
use Rattle.rds_dots.specs.Order.{dots_exact, before_after, after_before}
use Rattle.rds_dots.specs.Merges.{less_is_above, above_trans}
use Rattle.rds_names.specs.Conditions.{and_true, and_left, and_right, less_of}
use Rattle.rds_dots.specs.Sets.{not_above}

pub without_none : (xs ys : List Dot) → length ys ≡ 0 → without xs ys ≡ xs
without_none [] ys none = refl
without_none (x ∷ xs) [] none = ap (λ l. x ∷ l) (without_none xs [] none)
without_none (x ∷ xs) (y ∷ ys) none = absurd (omega arith)

without_head : (x : Dot) (xs ys : List Dot) → lists ys x ≡ false → without (x ∷ xs) ys ≡ x ∷ without xs ys
without_head x xs ys lacks = ap (λ b. cond (not b) (x ∷ without xs ys) (without xs ys)) lacks

-- a dot below all of the first list takes nothing from it
without_below : (y : Dot) (xs ys : List Dot) → list_all (is_above y) xs ≡ true → without xs (y ∷ ys) ≡ without xs ys
without_below y [] ys all = refl
without_below y (x ∷ xs) ys all =
    let again = without_below y xs ys (and_right (is_above y x) _ all) in
    let apart : eq_by_cmp dot_cmp x y ≡ false = ap is_eq (before_after y x (less_of (dot_cmp y x) (and_left (is_above y x) _ all))) in
    ap (λ b. cond (not (b || lists ys x)) (x ∷ without xs (y ∷ ys)) (without xs (y ∷ ys))) apart ∙ ap (λ l. cond (not (lists ys x)) (x ∷ l) l) again

-- the three steps of a pass over both lists
module _ (ls rs : List Dot) (x : Dot) (xs : List Dot) (y : Dot) (ys : List Dot) (left : ls ≡ x ∷ xs) (right : rs ≡ y ∷ ys) (lefts : ascends ls ≡ true) (rights : ascends rs ≡ true) where
  left_rises : ascends (x ∷ xs) ≡ true
  left_rises = ap ascends (sym left) ∙ lefts

  right_rises : ascends (y ∷ ys) ≡ true
  right_rises = ap ascends (sym right) ∙ rights

  pub take_less : dot_cmp x y ≡ Less → without ls rs ≡ x ∷ without xs rs
  take_less less =
      let apart = not_above x (y ∷ ys) (and_true (is_above x y) _ (less_is_above x y less) (above_trans x y less ys (and_left _ (ascends ys) right_rises))) in
      ap (λ l. without l rs) left ∙ without_head x xs rs (ap (λ r. lists r x) right ∙ apart)

  pub take_equal : dot_cmp x y ≡ Equal → without ls rs ≡ without xs ys
  take_equal tied =
      let all = ap (λ d. list_all (is_above d) xs) (sym (dots_exact x y tied)) ∙ and_left _ (ascends xs) left_rises in
      ap (λ l. without l rs) left ∙ ap (without (x ∷ xs)) right
      ∙ ap (λ o. cond (not (is_eq o || lists ys x)) (x ∷ without xs (y ∷ ys)) (without xs (y ∷ ys))) tied
      ∙ without_below y xs ys all

  pub take_greater : dot_cmp x y ≡ Greater → without ls rs ≡ without ls ys
  take_greater greater =
      let less = after_before x y greater in
      let all = and_true (is_above y x) _ (less_is_above y x less) (above_trans y x less xs (and_left _ (ascends xs) left_rises)) in
      ap (without ls) right ∙ without_below y ls ys (ap (list_all (is_above y)) left ∙ all)

pub rest_rises : (ls : List Dot) (x : Dot) (xs : List Dot) → ls ≡ x ∷ xs → ascends ls ≡ true → ascends xs ≡ true
rest_rises ls x xs is rise = and_right (list_all (is_above x) xs) _ (ap ascends (sym is) ∙ rise)
