-- Rows in line: each of the next dot after the one before it.
use Rattle.std.proofs.Common.{◌≡◌, ℕ, zero, suc, ◌+◌, ◌<◌, ◌≤◌, true, false, cond, ◌&&◌, ◌||◌, List, [], ◌∷◌, length}
use Rattle.std.proofs.Common.{get_or, take, drop, Some, refl, sym, ◌∙◌, ap, arith, eqb, leb}
use Rattle.std.specs.Prelude.{is_some}
use mathlib.Core.Bool.{false≢true}
use Rattle.std.specs.List.{list_all}
use Rattle.std.specs.Ordering.{eq_by_cmp}
use Rattle.std.specs.declared.cmp.Ordering.TheVariants.{Equal}
use Rattle.std.specs.FinMap as map
use Rattle.std.proofs.Math.Seq.{drop-cons}
use Rattle.std.proofs.lemmas.Bool.{or_right}
use Rattle.std.proofs.lemmas.Bool.Decides.{nat_tests}
use Rattle.std.proofs.lemmas.List.{get_or-map, length-map, take-append-drop}
use Rattle.std.proofs.lemmas.List.Folds.{list_any-append}
use Rattle.rds_names.specs.Conditions.{and_right}
use Rattle.rds_names.specs.declared.entry.Entry.{Entry}
use Rattle.rds_dots.specs.declared.dot.Dot.{Dot}
use Rattle.rds_dots.specs.Ascending.{is_above, ascends}
use Rattle.rds_dots.specs.Dots.{dot_cmp}
use Rattle.rds_dots.specs.Drawn.{leads_by}
use Rattle.rds_dots.specs.Lacking.{dot_of}
use Rattle.rds_dots.specs.Listed.{lists}
use Rattle.rds_dots.specs.Order.{dots_exact}
use Rattle.rds_dots.specs.Sets.{lists-dots_from}
use Rattle.rds_dots.proofs.Lines.{in_line, same_dot, of_one, so_far}
use Rattle.rds_life.specs.Life.{Lived, keys, live_rows}
use Rattle.rds_life.proofs.Views.{find-live_rows, rise-live_rows}
use Rattle.rds_delta.specs.Next.{is_live}

within_line : (r lo n k : ℕ) → lo < n → n ≤ lo + k → (eqb r r && (leb (lo + 1) n && leb (n + 1) (lo + 1 + k))) ≡ true
within_line r lo n k a b = grind (arith, nat_tests)

front_listed : (k : ℕ) (ds : List Dot) (q : Dot) → lists (take k ds) q ≡ true → lists ds q ≡ true
front_listed k ds q h = ap (λ l. lists l q) (sym (take-append-drop k ds)) ∙ list_any-append (eq_by_cmp dot_cmp q) (take k ds) (drop k ds) ∙ ap (λ b. b || lists (drop k ds) q) h

module _ {X : Type 0} where
  later_listed : (rows : List (Dot × X)) (i : ℕ) (q : Dot) → lists (keys (drop i rows)) q ≡ true → lists (keys rows) q ≡ true
  later_listed rows zero q h = h
  later_listed [] (suc i) q h = absurd (false≢true h)
  later_listed (r ∷ rows) (suc i) q h = or_right (eq_by_cmp dot_cmp q r.0) (lists (keys rows) q) (later_listed rows i q h)

  pub later_rise : (rows : List (Dot × X)) (i : ℕ) → ascends (keys rows) ≡ true → ascends (keys (drop i rows)) ≡ true
  later_rise rows zero rise = rise
  later_rise [] (suc i) rise = refl
  later_rise (r ∷ rows) (suc i) rise = later_rise rows i (and_right (list_all (is_above r.0) (keys rows)) _ rise)

  found_listed : (q : Dot) (rows : List (Dot × X)) → is_some (map.find dot_cmp q rows) ≡ lists (keys rows) q
  found_listed q [] = refl
  found_listed q (r ∷ rows) = elim (eq_by_cmp dot_cmp q r.0) as (λ b. is_some (cond b (Some r.1) (map.find dot_cmp q rows)) ≡ (b || lists (keys rows) q)) [ true ↦ refl | false ↦ found_listed q rows ]

  -- a row that is as far behind a dot as its own is past it: all between have rows
  pub line_listed : (r lo : ℕ) (rows : List (Dot × X)) (m : ℕ) (e : Dot × X) → ascends (dot_of r lo ∷ keys rows) ≡ true → m < length rows → leads_by (m + 1) (dot_of r lo) (get_or rows m e).0 ≡ true → (n : ℕ) → lo < n → n ≤ lo + (m + 1) → lists (keys rows) (dot_of r n) ≡ true
  line_listed r lo rows m e rise lt leads n a b =
      let d : Dot = (get_or rows m e).0 in
      let far = so_far r d.replica (lo + (m + 1)) d.seq leads in
      let steps : d.seq ≡ lo + suc m = omega (arith, far) in
      let count : length (keys rows) ≡ length rows = length-map rows (λ (x : Dot × X). x.0) in
      let here : get_or (keys rows) m e.0 ≡ dot_of r (lo + suc m) = get_or-map (λ (x : Dot × X). x.0) rows m e e.0 lt ∙ same_dot d r (lo + suc m) (of_one r d.replica (lo + (m + 1)) d.seq leads) steps in
      let line = in_line (suc m) r lo (keys rows) m e.0 rise (omega (arith, count, lt)) here (omega arith) in
      front_listed (suc m) (keys rows) (dot_of r n) (ap (λ l. lists l (dot_of r n)) line ∙ lists-dots_from r (lo + 1) (suc m) (dot_of r n) ∙ within_line r lo n (suc m) a (omega arith))

-- a list with a place has an element
one_of : {X : Type 0} (xs : List X) (i : ℕ) → i < length xs → X
one_of [] i lt = absurd (omega arith)
one_of (x ∷ xs) i lt = x

module _ (v : Lived) (rows : List (Dot × Entry)) (are : rows ≡ live_rows v) where
  rise : ascends (keys rows) ≡ true
  rise = ap (λ rs. ascends (keys rs)) are ∙ rise-live_rows v

  -- the rows behind that of a dot
  pub rise_behind : (i : ℕ) (d : Dot) → i < length rows → ((e : Dot × Entry) → dot_cmp (get_or rows i e).0 d ≡ Equal) → (later : List (Dot × Entry)) → later ≡ drop (i + 1) rows → ascends (d ∷ keys later) ≡ true
  rise_behind i d lt same later is =
      let e = one_of rows i lt in
      let next : i + 1 ≡ suc i = omega arith in
      ap (λ l. ascends (d ∷ keys l)) (is ∙ ap (λ k. drop k rows) next)
      ∙ ap (λ x. ascends (x ∷ keys (drop (suc i) rows))) (sym (dots_exact _ d (same e)))
      ∙ ap (λ l. ascends (keys l)) (sym (drop-cons rows i e lt))
      ∙ later_rise rows i rise

  pub lives_behind : (i : ℕ) (later : List (Dot × Entry)) → later ≡ drop i rows → (q : Dot) → lists (keys later) q ≡ true → is_live v q ≡ true
  lives_behind i later is q h =
      ap is_some (sym (find-live_rows v q) ∙ ap (map.find dot_cmp q) (sym are)) ∙ found_listed q rows
      ∙ later_listed rows i q (ap (λ l. lists (keys l) q) (sym is) ∙ h)
