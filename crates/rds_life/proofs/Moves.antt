-- Own rows and those that come, moved to the rows of a join.
use Rattle.std.proofs.Common.{◌≡◌, Bool, true, false, not, cond, List, [], ◌∷◌, ◌++◌, Option, Some, None, length, refl}
use Rattle.std.proofs.Common.{sym, ◌∙◌, ap, rules, arith, append_assoc}
use Rattle.std.specs.Vec.Iter.{into_iter_items, into_iter_len, into_iter_steps}
use Rattle.std.specs.declared.vec.IntoIter.{IntoIter}
use Rattle.std.specs.Ordering.{eq_by_cmp, is_eq}
use Rattle.std.specs.declared.cmp.Ordering.{Ordering}
use Rattle.std.specs.declared.cmp.Ordering.TheVariants.{Less, Equal}
use Rattle.std.specs.FinMap.Entries.{by_order}
use Rattle.std.specs.FinMap.{find}
use Rattle.std.specs.Cmp.{tied_itself}
use Rattle.rds_dots.specs.declared.dot.Dot.{Dot}
use Rattle.rds_dots.specs.Dots.{dot_cmp}
use Rattle.rds_dots.specs.Order.{dots_total, dots_exact}
use Rattle.rds_life.specs.Joined.{row_if, outside, rows_of_join}
use Rattle.rds_life.proofs.Steps.{kept_push}

module _ {X : Type 0} (sl sr : Dot → Bool) (xs ys : List (Dot × X)) where
  -- the rows so far and those that are left lead to the join, and those that come are the other's unseen ones
  pub record IsMoving (out own other coming : List (Dot × X)) : Type 0 where
    pub joins : out ++ rows_of_join sl sr own other ≡ rows_of_join sl sr xs ys
    pub comes : coming ≡ outside sl other
    pub known : (d : Dot) → sl d ≡ false → find dot_cmp d own ≡ None

module _ {X : Type 0} (sl sr : Dot → Bool) (xs ys : List (Dot × X)) where
  -- a dot that the own rows lack, their rest lacks
  later_known : (x : Dot × X) (own : List (Dot × X)) (d : Dot) → find dot_cmp d (x ∷ own) ≡ None → find dot_cmp d own ≡ None
  later_known x own d none = elim (eq_by_cmp dot_cmp d x.0) as (λ b. cond b (Some x.1) (find dot_cmp d own) ≡ None → find dot_cmp d own ≡ None) [
    | true ↦ λ h. absurd (cc)
    | false ↦ λ h. h
  ] none

  module _ (out own other coming : List (Dot × X)) (x y : Dot × X) (is : IsMoving sl sr xs ys out (x ∷ own) (y ∷ other) coming) where
    by : (o : Ordering) → dot_cmp x.0 y.0 ≡ o → out ++ by_order o (row_if (not (sr x.0)) x (rows_of_join sl sr own (y ∷ other))) (x ∷ rows_of_join sl sr own other) (row_if (not (sl y.0)) y (rows_of_join sl sr (x ∷ own) other)) ≡ rows_of_join sl sr xs ys
    by o e = ap (λ q. out ++ by_order q (row_if (not (sr x.0)) x (rows_of_join sl sr own (y ∷ other))) (x ∷ rows_of_join sl sr own other) (row_if (not (sl y.0)) y (rows_of_join sl sr (x ∷ own) other))) (sym e) ∙ is.joins

    pub own_first : dot_cmp x.0 y.0 ≡ Less → IsMoving sl sr xs ys (out ++ row_if (not (sr x.0)) x []) own (y ∷ other) coming
    own_first less = record {
      joins = kept_push out (not (sr x.0)) x (rows_of_join sl sr own (y ∷ other)) ∙ by Less less;
      comes = is.comes;
      known = λ d unseen. later_known x own d (is.known d unseen);
    }

    seen : dot_cmp x.0 y.0 ≡ Equal → sl y.0 ≡ true
    seen same = elim (sl y.0) as (λ b. sl y.0 ≡ b → b ≡ true) [
      | true ↦ λ _. refl
      | false ↦ λ unseen. absurd (not_there (ap (λ q. find dot_cmp q (x ∷ own)) (dots_exact x.0 y.0 same) ∙ is.known y.0 unseen))
    ] refl
      where
        not_there : find dot_cmp x.0 (x ∷ own) ≡ None → ⊥
        not_there none = some_none (sym (ap (λ o. cond (is_eq o) (Some x.1) (find dot_cmp x.0 own)) (tied_itself dots_total x.0)) ∙ none)
          where
            some_none : Some x.1 ≡ None → ⊥
            some_none h = cc

    pub both : dot_cmp x.0 y.0 ≡ Equal → IsMoving sl sr xs ys (out ++ x ∷ []) own other coming
    both same = record {
      joins = append_assoc out (x ∷ []) (rows_of_join sl sr own other) ∙ by Equal same;
      comes = is.comes ∙ ap (λ b. row_if (not b) y (outside sl other)) (seen same);
      known = λ d unseen. later_known x own d (is.known d unseen);
    }

-- ---- the steps of the loop

module _ {X : Type 0} {sl sr : Dot → Bool} {xs ys out rows own next other later coming : List (Dot × X)} {x y : Dot × X} (first : rows ≡ x ∷ own) (split : other ≡ y ∷ later) (rest : own ≡ next) (is : IsMoving sl sr xs ys out rows other coming) where
  is_split : IsMoving sl sr xs ys out (x ∷ own) (y ∷ later) coming
  is_split = rw (← first, ← split) is

  pub moves_own : {new : List (Dot × X)} → dot_cmp x.0 y.0 ≡ Less → new ≡ out ++ row_if (not (sr x.0)) x [] → IsMoving sl sr xs ys new next other coming
  moves_own less made = rw (made, ← rest, split) (own_first sl sr xs ys out own later coming x y is_split less)

  pub moves_both : {new : List (Dot × X)} → dot_cmp x.0 y.0 ≡ Equal → new ≡ out ++ x ∷ [] → IsMoving sl sr xs ys new next later coming
  moves_both same made = rw (made, ← rest) (both sl sr xs ys out own later coming x y is_split same)

-- with no own row left, those that come are the rest
pub moves_rest : {X : Type 0} (sl sr : Dot → Bool) (xs ys out own other coming new : List (Dot × X)) → own ≡ [] → IsMoving sl sr xs ys out own other coming → new ≡ out ++ coming → new ≡ rows_of_join sl sr xs ys
moves_rest sl sr xs ys out own other coming new none is made =
    made ∙ ap (λ rows. out ++ rows) is.comes ∙ ap (λ rows. out ++ rows_of_join sl sr rows other) (sym none) ∙ is.joins

empty_of : {X : Type 0} (items : List X) → length items ≡ 0 → items ≡ []
empty_of [] none = refl
empty_of (x ∷ items) none = absurd (omega (arith, none))

module _ {X Z : Type 0} where
  no_items : (it : IntoIter X Z) → into_iter_len it ≡ 0 → into_iter_items it ≡ []
  no_items it none = empty_of (into_iter_items it) (search rules)

  -- what is left where no item came
  pub ends : (s t : IntoIter X Z) (r : Option X) → into_iter_steps s r t → r ≡ None → into_iter_items t ≡ []
  ends s t None steps none = no_items t steps.1
  ends s t (Some x) steps none = absurd (cc)
