-- The rows past a dot.
use Rattle.std.proofs.Common.{◌≡◌, ℕ, zero, suc, ◌<◌, ◌≤◌, Bool, true, false, cond, not, List, [], ◌∷◌, length, get_or}
use Rattle.std.proofs.Common.{drop, Option, Some, None, refl, sym, ◌∙◌, ap, arith, inl, inr}
use mathlib.Core.Bool.{false≢true}
use Rattle.std.specs.List.{list_all, filter}
use Rattle.std.specs.List.Sorted.{IsPartitionPoint, IsPartitionedBy}
use Rattle.std.specs.Ordering.{is_lt, is_le}
use Rattle.std.specs.Cmp.{tied_itself}
use Rattle.std.specs.declared.cmp.Ordering.TheVariants.{Less, Equal, Greater}
use Rattle.std.proofs.lemmas.Bool.{cases_lt, not-false, not-true}
use Rattle.rds_dots.proofs.Splits.{at_most_is}
use Rattle.rds_life.proofs.Finds.{rises_at}
use Rattle.rds_names.specs.Conditions.{and_true, and_left, and_right, less_of}
use Rattle.rds_dots.specs.declared.dot.Dot.{Dot}
use Rattle.rds_dots.specs.Ascending.{is_above, ascends}
use Rattle.rds_dots.specs.Dots.{dot_cmp}
use Rattle.rds_dots.specs.Order.{dots_total, dots_exact}
use Rattle.rds_life.specs.Life.{keys}
use Rattle.rds_life.specs.Past.{rows_past, rows_from, rows_behind}

-- what comes after the later dot stays where the earlier one is left
stays_above : (d a e : Dot) → is_le (dot_cmp d a) ≡ true → is_above a e ≡ true → is_above d e ≡ true
stays_above d a e le above =
    elim (dot_cmp d a) as (λ o. dot_cmp d a ≡ o → is_le o ≡ true → is_above d e ≡ true) [
      | Less ↦ λ is _. ap is_lt (dots_total.trans d a e is (less_of (dot_cmp a e) above))
      | Equal ↦ λ is _. ap (λ q. is_above q e) (dots_exact d a is) ∙ above
      | Greater ↦ λ _ h. absurd (false≢true h)
    ] refl le

all_stay : (d a : Dot) → is_le (dot_cmp d a) ≡ true → (ds : List Dot) → list_all (is_above a) ds ≡ true → list_all (is_above d) ds ≡ true
all_stay d a le [] all = refl
all_stay d a le (e ∷ ds) all = and_true _ _ (stays_above d a e le (and_left (is_above a e) _ all)) (all_stay d a le ds (and_right (is_above a e) _ all))

-- a dot that a later one passes is passed
not_above : (last d e : Dot) → dot_cmp d e ≡ Less → not (is_above last e) ≡ true → not (is_above last d) ≡ true
not_above last d e less h =
    elim (is_above last d) as (λ b. is_above last d ≡ b → not b ≡ true) [
      | true ↦ λ is. absurd (false≢true (ap (λ o. not (is_lt o)) (sym (dots_total.trans last d e (less_of (dot_cmp last d) is) less)) ∙ h))
      | false ↦ λ _. refl
    ] refl

module _ {X : Type 0} where
  -- where all rows come after the dot, none is left out
  all_past : (d : Dot) (rows : List (Dot × X)) → list_all (is_above d) (keys rows) ≡ true → rows_past d rows ≡ rows
  all_past d [] all = refl
  all_past d (r ∷ rows) all =
      ap (λ b. cond b (r ∷ rows_past d rows) (rows_past d rows)) (and_left (is_above d r.0) _ all)
      ∙ ap (λ l. r ∷ l) (all_past d rows (and_right (is_above d r.0) _ all))

  -- the rows past the first are the others
  past_first : (r : Dot × X) (rows : List (Dot × X)) → ascends (keys (r ∷ rows)) ≡ true → rows_past r.0 (r ∷ rows) ≡ rows
  past_first r rows rise =
      ap (λ o. cond (is_lt o) (r ∷ rows_past r.0 rows) (rows_past r.0 rows)) (tied_itself dots_total r.0)
      ∙ all_past r.0 rows (and_left _ (ascends (keys rows)) rise)

  all_in_past : (p : Dot → Bool) (d : Dot) (rows : List (Dot × X)) → list_all p (keys rows) ≡ true → list_all p (keys (rows_past d rows)) ≡ true
  all_in_past p d [] all = refl
  all_in_past p d (r ∷ rows) all =
      let again = all_in_past p d rows (and_right (p r.0) _ all) in
      elim (is_above d r.0) as (λ b. list_all p (keys (cond b (r ∷ rows_past d rows) (rows_past d rows))) ≡ true) [ true ↦ and_true _ _ (and_left (p r.0) _ all) again | false ↦ again ]

  -- the rows past a dot rise
  pub rise-past : (d : Dot) (rows : List (Dot × X)) → ascends (keys rows) ≡ true → ascends (keys (rows_past d rows)) ≡ true
  rise-past d [] rise = refl
  rise-past d (r ∷ rows) rise =
      let again = rise-past d rows (and_right (list_all (is_above r.0) (keys rows)) _ rise) in
      let front = all_in_past (is_above r.0) d rows (and_left _ (ascends (keys rows)) rise) in
      elim (is_above d r.0) as (λ b. ascends (keys (cond b (r ∷ rows_past d rows) (rows_past d rows))) ≡ true) [ true ↦ and_true _ _ front again | false ↦ again ]

  above_past : (d : Dot) (rows : List (Dot × X)) → list_all (is_above d) (keys (rows_past d rows)) ≡ true
  above_past d [] = refl
  above_past d (r ∷ rows) =
      let again = above_past d rows in
      elim (is_above d r.0) as (λ b. is_above d r.0 ≡ b → list_all (is_above d) (keys (cond b (r ∷ rows_past d rows) (rows_past d rows))) ≡ true) [ true ↦ λ is. and_true _ _ is again | false ↦ λ _. again ] refl

  -- whatever comes after the later dot comes after the earlier one
  pub past_past : (a d : Dot) → is_above a d ≡ true → (rows : List (Dot × X)) → rows_past d (rows_past a rows) ≡ rows_past d rows
  past_past a d less [] = refl
  past_past a d less (r ∷ rows) =
      let again = past_past a d less rows in
      elim (is_above a r.0) as (λ b. is_above a r.0 ≡ b → rows_past d (cond b (r ∷ rows_past a rows) (rows_past a rows)) ≡ cond (is_above d r.0) (r ∷ rows_past d rows) (rows_past d rows)) [
        | true ↦ λ _. ap (λ l. cond (is_above d r.0) (r ∷ l) l) again
        | false ↦ λ is. again ∙ sym (ap (λ b. cond b (r ∷ rows_past d rows) (rows_past d rows)) (not_past is (is_above d r.0) refl))
      ] refl
    where
      not_past : is_above a r.0 ≡ false → (b : Bool) → is_above d r.0 ≡ b → is_above d r.0 ≡ false
      not_past is true h = absurd (false≢true (sym is ∙ ap is_lt (dots_total.trans a d r.0 (less_of (dot_cmp a d) less) (less_of (dot_cmp d r.0) h))))
      not_past is false h = h

  pub past_stays : (d a : Dot) → is_le (dot_cmp d a) ≡ true → (rows : List (Dot × X)) → rows_past d (rows_past a rows) ≡ rows_past a rows
  past_stays d a le rows = all_past d (rows_past a rows) (all_stay d a le (keys (rows_past a rows)) (above_past a rows))

  -- past the first of what is behind a dot are the others
  pub behind_next : (after : Option Dot) (rows : List (Dot × X)) → ascends (keys rows) ≡ true → (r : Dot × X) (rest : List (Dot × X)) → rows_behind after rows ≡ r ∷ rest → rest ≡ rows_past r.0 rows
  behind_next None rows rise r rest is =
      sym (ap (rows_past r.0) is ∙ past_first r rest (ap (λ l. ascends (keys l)) (sym is) ∙ rise))
  behind_next (Some a) rows rise r rest is =
      let above : is_above a r.0 ≡ true = and_left (is_above a r.0) (list_all (is_above a) (keys rest)) (ap (λ l. list_all (is_above a) (keys l)) (sym is) ∙ above_past a rows) in
      sym (sym (past_past a r.0 above rows) ∙ ap (rows_past r.0) is ∙ past_first r rest (ap (λ l. ascends (keys l)) (sym is) ∙ rise-past a rows rise))

  -- a list cut where its rows come to pass a test
  cut_at : (p : Dot → Bool) (rows : List (Dot × X)) (i : ℕ) → ((k : ℕ) (e : Dot × X) → k < length rows → k < i → p (get_or rows k e).0 ≡ false) → ((k : ℕ) (e : Dot × X) → k < length rows → i ≤ k → p (get_or rows k e).0 ≡ true) → drop i rows ≡ filter (λ r. p r.0) rows
  cut_at p [] zero below over = refl
  cut_at p [] (suc i) below over = refl
  cut_at p (r ∷ rows) zero below over =
      ap (λ l. r ∷ l) (cut_at p rows zero (λ k e lt under. absurd (omega arith)) (λ k e lt past. over (suc k) e (omega arith) (omega arith)))
      ∙ sym (ap (λ b. cond b (r ∷ filter (λ x. p x.0) rows) (filter (λ x. p x.0) rows)) (over 0 r (omega arith) (omega arith)))
  cut_at p (r ∷ rows) (suc i) below over =
      cut_at p rows i (λ k e lt under. below (suc k) e (omega arith) (omega arith)) (λ k e lt past. over (suc k) e (omega arith) (omega arith))
      ∙ sym (ap (λ b. cond b (r ∷ filter (λ x. p x.0) rows) (filter (λ x. p x.0) rows)) (below 0 r (omega arith) (omega arith)))

  -- a cut where the rows come to be above the dot
  pub past_at : (d : Dot) (rows : List (Dot × X)) (i : ℕ) → IsPartitionPoint (λ (r : Dot × X). not (is_above d r.0) ≡ true) (λ (r : Dot × X). not (is_above d r.0) ≡ false) rows i → drop i rows ≡ rows_past d rows
  past_at d rows i point = cut_at (is_above d) rows i (λ k e lt under. not-true (is_above d (get_or rows k e).0) (point.0 k e (omega arith) under)) (λ k e lt past. not-false (is_above d (get_or rows k e).0) (point.1 k e past lt))

  -- a cut where they come to be at the dot or above it
  pub from_at : (d : Dot) (rows : List (Dot × X)) (i : ℕ) → IsPartitionPoint (λ (r : Dot × X). is_above r.0 d ≡ true) (λ (r : Dot × X). is_above r.0 d ≡ false) rows i → drop i rows ≡ rows_from d rows
  from_at d rows i point =
      cut_at (λ q. is_le (dot_cmp d q)) rows i
      (λ k e lt under. at_most_is d (get_or rows k e).0 ∙ ap not (point.0 k e (omega arith) under))
      (λ k e lt past. at_most_is d (get_or rows k e).0 ∙ ap not (point.1 k e past lt))

  pub parted_past : (rows : List (Dot × X)) → ascends (keys rows) ≡ true → (last : Dot) → IsPartitionedBy (λ (r : Dot × X). not (is_above last r.0)) rows
  parted_past rows rise last = λ i j e le lt h. elim (cases_lt i j) [
    | inl less ↦ not_above last (get_or rows i e).0 (get_or rows j e).0 (rises_at rows rise e i j less lt) h
    | inr ge ↦ (let same : i ≡ j = omega arith in ap (λ k. not (is_above last (get_or rows k e).0)) same ∙ h)
  ]

  pub parted_from : (rows : List (Dot × X)) → ascends (keys rows) ≡ true → (d : Dot) → IsPartitionedBy (λ (r : Dot × X). is_above r.0 d) rows
  parted_from rows rise d = λ i j e le lt h. elim (cases_lt i j) [
    | inl less ↦ ap is_lt (dots_total.trans (get_or rows i e).0 (get_or rows j e).0 d (rises_at rows rise e i j less lt) (less_of (dot_cmp (get_or rows j e).0 d) h))
    | inr ge ↦ (let same : i ≡ j = omega arith in ap (λ k. is_above (get_or rows k e).0 d) same ∙ h)
  ]

-- rows that all pass are all kept
pub all_kept : {X : Type 0} (xs : List X) → filter (λ x. true) xs ≡ xs
all_kept [] = refl
all_kept (x ∷ xs) = ap (λ l. x ∷ l) (all_kept xs)

-- a list of no length has nothing
pub length_none : {X : Type 0} (xs : List X) → length xs ≡ 0 → xs ≡ []
length_none [] h = refl
length_none (x ∷ xs) h = absurd (omega arith)
