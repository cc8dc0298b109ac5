-- A row that is written in its place is drawn into the rows.
use Rattle.std.proofs.Common.{true, ◌≡◌, ℕ, zero, suc, ◌<◌, ◌≤◌, max, List, [], ◌∷◌, length, get_or, refl, sym, ◌∙◌, ap}
use Rattle.std.proofs.Common.{arith}
use Rattle.std.proofs.Math.ListN.{set}
use Rattle.std.specs.List.{list_all, insert}
use Rattle.std.specs.Ordering.{is_lt, ordering_reverse}
use Rattle.std.specs.declared.cmp.Ordering.TheVariants.{Less, Equal, Greater}
use Rattle.std.specs.FinMap.Entries.{by_order}
use Rattle.rds_counts.specs.declared.row.CountRow.{CountRow}
use Rattle.rds_counts.specs.Counted.{row_cmp, rows_rise}
use Rattle.rds_counts.specs.CountedLemmas.{row_total}
use Rattle.rds_names.specs.Conditions.{and_left, and_right}
use Rattle.rds_counts.specs.Search.{spot_cmp}
use Rattle.rds_counts.specs.Drawn.{greater, greatest_rows}
use Rattle.rds_counts.proofs.Found.{after_at, same_spot}

same_numbers : (x y : CountRow) → y.p ≤ x.p → y.n ≤ x.n → greater x y ≡ x
same_numbers x y p n =
    let e : max x.p y.p ≡ x.p = omega arith in
    let f : max x.n y.n ≡ x.n = omega arith in
    ap (λ (k : ℕ × ℕ). let r : CountRow = record { key = x.key; replica = x.replica; p = k.0; n = k.1 } in r) (pair_is e f)
  where
    pair_is : {a b c d : ℕ} → a ≡ b → c ≡ d → ◌≡◌ {A = ℕ × ℕ} (a, c) (b, d)
    pair_is e f = λ i. (e i, f i)

pub set_drawn : (x e : CountRow) (rows : List CountRow) → rows_rise rows ≡ true → (at : ℕ) → at < length rows → spot_cmp x.key x.replica (get_or rows at e) ≡ Equal → (get_or rows at e).p ≤ x.p → (get_or rows at e).n ≤ x.n → set rows at x ≡ greatest_rows (x ∷ []) rows
set_drawn x e [] rise at lt same p n = absurd (omega arith)
set_drawn x e (y ∷ ys) rise zero lt same p n =
    let is : row_cmp x y ≡ Equal = row_total.antisymm x y ∙ ap ordering_reverse same in
    sym (ap (λ o. by_order o (x ∷ y ∷ ys) (greater x y ∷ ys) (y ∷ greatest_rows (x ∷ []) ys)) is ∙ ap (λ r. r ∷ ys) (same_numbers x y p n))
set_drawn x e (y ∷ ys) rise (suc at) lt same p n =
    let there = same_spot x.key x.replica (get_or ys at e) same in
    let less : row_cmp y (get_or ys at e) ≡ Less = after_at y e ys (and_left (list_all (λ t. is_lt (row_cmp y t)) ys) _ rise) at (omega arith) in
    let before : row_cmp y x ≡ Less = rw (← there.0, ← there.1) less in
    let is : row_cmp x y ≡ Greater = row_total.antisymm x y ∙ ap ordering_reverse before in
    ap (λ l. y ∷ l) (set_drawn x e ys (and_right (list_all (λ t. is_lt (row_cmp y t)) ys) _ rise) at (omega arith) same p n)
    ∙ sym (ap (λ o. by_order o (x ∷ y ∷ ys) (greater x y ∷ ys) (y ∷ greatest_rows (x ∷ []) ys)) is)

pub insert_drawn : (x e : CountRow) (rows : List CountRow) (at : ℕ) → at ≤ length rows → ((k : ℕ) → k < at → spot_cmp x.key x.replica (get_or rows k e) ≡ Less) → ((k : ℕ) → at ≤ k → k < length rows → spot_cmp x.key x.replica (get_or rows k e) ≡ Greater) → insert rows at x ≡ greatest_rows (x ∷ []) rows
insert_drawn x e [] zero le below over = refl
insert_drawn x e [] (suc at) le below over = absurd (omega arith)
insert_drawn x e (y ∷ ys) zero le below over =
    let is : row_cmp x y ≡ Less = row_total.antisymm x y ∙ ap ordering_reverse (over 0 (omega arith) (omega arith)) in
    sym (ap (λ o. by_order o (x ∷ y ∷ ys) (greater x y ∷ ys) (y ∷ greatest_rows (x ∷ []) ys)) is)
insert_drawn x e (y ∷ ys) (suc at) le below over =
    let is : row_cmp x y ≡ Greater = row_total.antisymm x y ∙ ap ordering_reverse (below 0 (omega arith)) in
    ap (λ l. y ∷ l) (insert_drawn x e ys at (omega arith) (λ k lt. below (suc k) (omega arith)) (λ k ge lt. over (suc k) (omega arith) (omega arith)))
    ∙ sym (ap (λ o. by_order o (x ∷ y ∷ ys) (greater x y ∷ ys) (y ∷ greatest_rows (x ∷ []) ys)) is)
