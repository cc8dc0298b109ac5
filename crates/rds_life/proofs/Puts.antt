-- One more row in its place, and one less.
use Rattle.std.proofs.Common.{◌≡◌, ℕ, zero, suc, ◌<◌, ◌≤◌, Bool, true, false, not, cond, List, [], ◌∷◌, ◌++◌}
use Rattle.std.proofs.Common.{length, get_or, Option, Some, None, refl, sym, ◌∙◌, ap, arith}
use Rattle.std.specs.List.{list_all, insert, remove}
use Rattle.std.specs.List.Sorted.{IsBinarySearchResult}
use Rattle.std.specs.Ordering.{eq_by_cmp, is_eq}
use Rattle.std.specs.Cmp.{eq_by_cmp_equiv, tied_itself}
use Rattle.std.specs.FinMap.{find, put}
use Rattle.std.specs.FinMap.Entries.{find-put, find-where_key, is_sorted-put, is_sorted-where_key, by_order}
use Rattle.std.specs.declared.cmp.Ordering.TheVariants.{Less, Equal, Greater}
use Rattle.std.specs.declared.result.Result.TheVariants.{Err}
use Rattle.rds_dots.specs.declared.dot.Dot.{Dot}
use Rattle.rds_dots.specs.Dots.{dot_cmp}
use Rattle.rds_dots.specs.Ascending.{is_above, ascends}
use Rattle.rds_dots.specs.Order.{dots_total, dots_exact, before_after, after_before}
use Rattle.rds_dots.specs.Sets.{tied_dots_are_one}
use Rattle.rds_names.specs.Conditions.{and_left, and_right, less_of}
use Rattle.rds_life.specs.Life.{keys}
use Rattle.rds_life.specs.Removed.{rows_without}
use Rattle.rds_life.proofs.Finds.{rising, all_at}
use Rattle.rds_life.proofs.RowLemmas.{sorted_of, rise_of, same_rows}

module _ {X : Type 0} (d : Dot) (v : X) where
  put_gap : (rows : List (Dot × X)) (e : Dot × X) (at : ℕ) → at ≤ length rows → ((k : ℕ) → k < at → dot_cmp (get_or rows k e).0 d ≡ Less) → ((k : ℕ) → at ≤ k → k < length rows → dot_cmp (get_or rows k e).0 d ≡ Greater) → insert rows at (d, v) ≡ put dot_cmp d v rows
  put_gap [] e zero le below over = refl
  put_gap [] e (suc at) le below over = absurd (omega arith)
  put_gap (x ∷ rows) e zero le below over = sym (ap (λ o. by_order o ((d, v) ∷ x ∷ rows) ((x.0, v) ∷ rows) (x ∷ put dot_cmp d v rows)) (after_before x.0 d (over 0 (omega arith) (omega arith))))
  put_gap (x ∷ rows) e (suc at) le below over =
      ap (λ l. x ∷ l) (put_gap rows e at (omega arith) (λ k lt. below (suc k) (omega arith)) (λ k ge lt. over (suc k) (omega arith) (omega arith)))
      ∙ sym (ap (λ o. by_order o ((d, v) ∷ x ∷ rows) ((x.0, v) ∷ rows) (x ∷ put dot_cmp d v rows)) (before_after x.0 d (below 0 (omega arith))))

  -- a search that ends nowhere ends where the row goes
  pub put_at : (rows : List (Dot × X)) → ascends (keys rows) ≡ true → (at : ℕ) → at ≤ length rows → IsBinarySearchResult (λ row. dot_cmp row.0 d) rows (Err at) → insert rows at (d, v) ≡ put dot_cmp d v rows
  put_at [] rise zero le parted = refl
  put_at [] rise (suc at) le parted = absurd (omega arith)
  put_at (x ∷ rows) rise at le parted =
      let by = parted (rising (x ∷ rows) rise d x) in
      put_gap (x ∷ rows) x at le (λ k lt. by.0 k x (omega arith) lt) (λ k ge lt. by.1 k x ge lt)

  pub rise-put : (rows : List (Dot × X)) → ascends (keys rows) ≡ true → ascends (keys (put dot_cmp d v rows)) ≡ true
  rise-put rows rise = rise_of (put dot_cmp d v rows) (is_sorted-put dot_cmp dots_total d v rows (sorted_of rows rise))

module _ {X : Type 0} (d : Dot) where
  pub rise-without : (rows : List (Dot × X)) → ascends (keys rows) ≡ true → ascends (keys (rows_without d rows)) ≡ true
  rise-without rows rise = rise_of (rows_without d rows) (is_sorted-where_key dot_cmp (λ x. not (eq_by_cmp dot_cmp d x)) rows (sorted_of rows rise))

  turned : (b : Bool) (o : Option X) → cond (not b) o None ≡ cond b None o
  turned true o = refl
  turned false o = refl

  -- the dot's row is gone, and all others are there
  pub find-without : (rows : List (Dot × X)) (q : Dot) → find dot_cmp q (rows_without d rows) ≡ cond (eq_by_cmp dot_cmp q d) None (find dot_cmp q rows)
  find-without rows q =
      find-where_key dot_cmp (λ x. not (eq_by_cmp dot_cmp d x)) q (λ x t. ap (λ y. not (eq_by_cmp dot_cmp d y)) (sym (dots_exact q x t))) rows
      ∙ turned (eq_by_cmp dot_cmp d q) (find dot_cmp q rows)
      ∙ ap (λ b. cond b None (find dot_cmp q rows)) ((eq_by_cmp_equiv dots_total).symm d q)

  same_either : (b : Bool) (q : Dot) (rows : List (Dot × X)) → (b ≡ true → find dot_cmp q rows ≡ None) → cond b None (find dot_cmp q rows) ≡ find dot_cmp q rows
  same_either true q rows none = sym (none refl)
  same_either false q rows none = refl

  at_dot : (rows : List (Dot × X)) → find dot_cmp d rows ≡ None → (q : Dot) → eq_by_cmp dot_cmp q d ≡ true → find dot_cmp q rows ≡ None
  at_dot rows none q is = ap (λ x. find dot_cmp x rows) (tied_dots_are_one q d is) ∙ none

  -- where the dot has no row, nothing is taken out
  pub without_none : (rows : List (Dot × X)) → ascends (keys rows) ≡ true → find dot_cmp d rows ≡ None → rows_without d rows ≡ rows
  without_none rows rise none = same_rows _ _ (rise-without rows rise) rise (λ q. find-without rows q ∙ same_either (eq_by_cmp dot_cmp q d) q rows (at_dot rows none q))

  twice : (b : Bool) (v : X) (o : Option X) → cond b None (cond b (Some v) o) ≡ cond b None o
  twice true v o = refl
  twice false v o = refl

  -- a row that was put goes out again
  pub without-put : (v : X) (rows : List (Dot × X)) → ascends (keys rows) ≡ true → find dot_cmp d rows ≡ None → rows_without d (put dot_cmp d v rows) ≡ rows
  without-put v rows rise none = same_rows _ _ (rise-without (put dot_cmp d v rows) (rise-put d v rows rise)) rise (λ q.
      find-without (put dot_cmp d v rows) q
      ∙ ap (cond (eq_by_cmp dot_cmp q d) None) (find-put dot_cmp dots_total q d v rows)
      ∙ twice (eq_by_cmp dot_cmp q d) v (find dot_cmp q rows)
      ∙ same_either (eq_by_cmp dot_cmp q d) q rows (at_dot rows none q))

  above_stay : (rows : List (Dot × X)) → list_all (is_above d) (keys rows) ≡ true → rows_without d rows ≡ rows
  above_stay [] all = refl
  above_stay (x ∷ rows) all =
      ap (λ o. cond (not (is_eq o)) (x ∷ rows_without d rows) (rows_without d rows)) (less_of (dot_cmp d x.0) (and_left (is_above d x.0) _ all))
      ∙ ap (λ l. x ∷ l) (above_stay rows (and_right (is_above d x.0) _ all))

-- the row that a search finds is the dot's
pub remove_at : {X : Type 0} (rows : List (Dot × X)) → ascends (keys rows) ≡ true → (e : Dot × X) (at : ℕ) → at < length rows → (d : Dot) → dot_cmp (get_or rows at e).0 d ≡ Equal → remove rows at ≡ rows_without d rows
remove_at [] rise e at lt d same = absurd (omega arith)
remove_at (x ∷ rows) rise e zero lt d same =
    let is : x.0 ≡ d = dots_exact x.0 d same in
    sym (ap (λ q. rows_without q (x ∷ rows)) (sym is)
    ∙ ap (λ o. cond (not (is_eq o)) (x ∷ rows_without x.0 rows) (rows_without x.0 rows)) (tied_itself dots_total x.0)
    ∙ above_stay x.0 rows (and_left _ (ascends (keys rows)) rise))
remove_at (x ∷ rows) rise e (suc at) lt d same =
    let less : dot_cmp x.0 d ≡ Less = ap (dot_cmp x.0) (sym (dots_exact _ d same)) ∙ all_at x.0 e rows (and_left _ (ascends (keys rows)) rise) at (omega arith) in
    ap (λ l. x ∷ l) (remove_at rows (and_right (list_all (is_above x.0) (keys rows)) _ rise) e at (omega arith) d same)
    ∙ sym (ap (λ o. cond (not (is_eq o)) (x ∷ rows_without d rows) (rows_without d rows)) (before_after x.0 d less))

-- a row that comes before all others goes to the front
pub put_before : {X : Type 0} (rows before later : List (Dot × X)) (r : Dot × X) → ascends (keys rows) ≡ true → before ++ r ∷ later ≡ rows → put dot_cmp r.0 r.1 later ≡ r ∷ later
put_before {X = X} rows before later r rise is = first later (behind before (ap (λ l. ascends (keys l)) is ∙ rise))
  where
    behind : (some : List (Dot × X)) → ascends (keys (some ++ r ∷ later)) ≡ true → ascends (keys (r ∷ later)) ≡ true
    behind [] rise_all = rise_all
    behind (x ∷ some) rise_all = behind some (and_right (list_all (is_above x.0) (keys (some ++ r ∷ later))) _ rise_all)

    first : (rest : List (Dot × X)) → ascends (keys (r ∷ rest)) ≡ true → put dot_cmp r.0 r.1 rest ≡ r ∷ rest
    first [] rise_all = refl
    first (x ∷ rest) rise_all =
        ap (λ o. by_order o (r ∷ x ∷ rest) ((x.0, r.1) ∷ rest) (x ∷ put dot_cmp r.0 r.1 rest))
        (less_of (dot_cmp r.0 x.0) (and_left (is_above r.0 x.0) _ (and_left (list_all (is_above r.0) (keys (x ∷ rest))) _ rise_all)))
