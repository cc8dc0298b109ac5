-- What rows say once a number has grown.
use Rattle.std.proofs.Common.{◌≡◌, ℕ, ◌+◌, ◌<◌, ◌≤◌, ◌&&◌, Bool, true, false, max, nat_lt, List, [], ◌∷◌, refl, sym}
use Rattle.std.proofs.Common.{◌∙◌, ap, subst, arith}
use Rattle.std.specs.Prelude.{nat_le, ◌||◌, Result, Ok, Err, IfOk, IfErr}
use Rattle.std.proofs.lemmas.Bool.Decides.{nat_tests}
use Rattle.std.specs.Ordering.{eq_by_cmp}
use Rattle.rds_counts.specs.declared.row.Which.{Which}
use Rattle.rds_counts.specs.declared.row.Which.TheVariants.{P, N}
use Rattle.rds_counts.specs.declared.row.CountRow.{CountRow}
use Rattle.rds_counts.specs.declared.row.TheConstants.{MAX_COUNT}
use Rattle.rds_counts.specs.Place.{Place, place_cmp}
use Rattle.rds_counts.specs.PlaceOrder.{place_exact}
use Rattle.rds_counts.specs.Counted.{Counted, number, number_in_pair, place, counts_of, pair_of, AreCountRows}
use Rattle.rds_counts.specs.CountedLemmas.{some, number_in, number-row, number-own, both_other, pair_number}
use Rattle.rds_counts.specs.CountedLemmas.{get-counts_of}
use Rattle.rds_names.specs.Conditions.{and_true, equal_of}
use Rattle.rds_counts.specs.Drawn.{greatest_rows}
use Rattle.rds_counts.specs.Raised.{pair_raised, row_of}
use Rattle.rds_counts.proofs.DrawnLemmas.{drawn_are, drawn_number}
use Rattle.rds_counts.proofs.Totals.{number_in_pair-none}

row_is : (p n i m : ℕ) → 0 < p + n → p ≤ m → n ≤ m → i < 256 → ((nat_lt 0 p || nat_lt 0 n) && nat_le p m && nat_le n m && nat_lt i 256) ≡ true
row_is p n i m some first second within = grind (arith, nat_tests)

raised_more : (which w : Which) (old : ℕ × ℕ) (by : ℕ) → max (number_in_pair w (pair_raised old which by)) (number_in_pair w old) ≡ number_in_pair w (pair_raised old which by)
raised_more P P old by = omega arith
raised_more P N old by = omega arith
raised_more N P old by = omega arith
raised_more N N old by = omega arith

raised_some : (which : Which) (old : ℕ × ℕ) (by : ℕ) → ¬ (by ≡ 0) → 0 < (pair_raised old which by).0 + (pair_raised old which by).1
raised_some P old by some = omega arith
raised_some N old by some = omega arith

raised_own : (which : Which) (old : ℕ × ℕ) (by : ℕ) → number_in_pair which (pair_raised old which by) ≡ number_in_pair which old + by
raised_own P old by = refl
raised_own N old by = refl

raised_else : (which w : Which) (old : ℕ × ℕ) (by : ℕ) → ¬ (w ≡ which) → number_in_pair w (pair_raised old which by) ≡ number_in_pair w old
raised_else P P old by other = absurd (other refl)
raised_else P N old by other = refl
raised_else N P old by other = refl
raised_else N N old by other = absurd (other refl)

each_within : (which : Which) (pair : ℕ × ℕ) → (pair.0 ≤ MAX_COUNT) × (pair.1 ≤ MAX_COUNT) → number_in_pair which pair ≤ MAX_COUNT
each_within P pair within = within.0
each_within N pair within = within.1

-- a pair that was found in rows
module _ {rows : List CountRow} (are : AreCountRows rows) {m : Counted} (says : counts_of rows ≡ m) (key : List ℕ) (replica : ℕ) {old : ℕ × ℕ} (found : old ≡ pair_of rows key replica) where
  pub number_found : (w : Which) → number_in_pair w old ≡ number m (place key replica w)
  number_found w = ap (number_in_pair w) found ∙ pair_number rows are.rise key replica w ∙ get-counts_of rows m says (place key replica w)

  -- both numbers are 0 where a write of the pair was refused
  pub none_there : (spot : Result ℕ ℕ) → IfOk spot (λ _. false ≡ true) → IfErr spot (λ _. old ≡ (0, 0)) → (w : Which) → number m (place key replica w) ≡ 0
  none_there (Ok at) there nowhere w = absurd (cc there)
  none_there (Err at) there nowhere w = sym (number_found w) ∙ ap (number_in_pair w) nowhere ∙ number_in_pair-none w

  -- the pair with the amount
  module _ {pair : ℕ × ℕ} (which : Which) (by : ℕ) (is : pair ≡ pair_raised old which by) (within : (pair.0 ≤ MAX_COUNT) × (pair.1 ≤ MAX_COUNT)) where
    sum_is : number_in_pair which pair ≡ number m (place key replica which) + by
    sum_is = ap (number_in_pair which) is ∙ raised_own which old by ∙ ap (λ n. n + by) (number_found which)

    pub sum_within : number m (place key replica which) + by ≤ MAX_COUNT
    sum_within = subst (λ n. n ≤ MAX_COUNT) sum_is (each_within which pair within)

    -- the rows with the pair's row
    module _ (some : ¬ (by ≡ 0)) (small : replica < 256) {new : List CountRow} (drawn_is : new ≡ greatest_rows (row_of key replica pair ∷ []) rows) where
      abbrev row : CountRow
      row = row_of key replica pair

      one_row : AreCountRows (row ∷ [])
      one_row =
          let above : 0 < pair.0 + pair.1 = subst (λ (k : ℕ × ℕ). 0 < k.0 + k.1) (sym is) (raised_some which old by some) in
          record { rise = refl; are = and_true _ _ (row_is pair.0 pair.1 replica MAX_COUNT above within.0 within.1 small) refl }

      pub new_are : AreCountRows new
      new_are = subst AreCountRows (sym drawn_is) (drawn_are (row ∷ []) rows one_row are)

      drawn_in : (q : Place) → number (counts_of new) q ≡ max (number_in (row ∷ []) q) (number m q)
      drawn_in q =
          ap (λ l. number (counts_of l) q) drawn_is
          ∙ drawn_number (row ∷ []) rows one_row are (counts_of (row ∷ [])) m refl says q
          ∙ ap (λ n. max n (number m q)) (sym (get-counts_of (row ∷ []) (counts_of (row ∷ [])) refl q))

      own_number : (w : Which) → number (counts_of new) (place key replica w) ≡ number_in_pair w pair
      own_number w =
          drawn_in (place key replica w)
          ∙ ap (λ n. max n (number m (place key replica w))) (number-own row [] w refl)
          ∙ ap (max (number_in_pair w pair)) (sym (number_found w))
          ∙ subst (λ k. max (number_in_pair w k) (number_in_pair w old) ≡ number_in_pair w k) (sym is) (raised_more which w old by)

      -- the number that is meant grows
      pub raised-number : number (counts_of new) (place key replica which) ≡ number m (place key replica which) + by
      raised-number = own_number which ∙ sum_is

      at_own : (w : Which) (q : Place) → q ≡ place key replica w → ¬ (q ≡ place key replica which) → number (counts_of new) q ≡ number m q
      at_own w q e other =
          ap (number (counts_of new)) e
          ∙ own_number w
          ∙ ap (number_in_pair w) is
          ∙ raised_else which w old by (λ same. other (e ∙ ap (place key replica) same))
          ∙ number_found w
          ∙ ap (number m) (sym e)

      nowhere : (q : Place) (a b : Bool) → eq_by_cmp place_cmp q (place key replica P) ≡ a → eq_by_cmp place_cmp q (place key replica N) ≡ b → ¬ (q ≡ place key replica which) → number (counts_of new) q ≡ number m q
      nowhere q true b is _ other = at_own P q (place_exact q (place key replica P) (equal_of _ is)) other
      nowhere q false true _ is other = at_own N q (place_exact q (place key replica N) (equal_of _ is)) other
      nowhere q false false p n other =
          drawn_in q
          ∙ ap (λ k. max k (number m q)) (number-row q row [] ∙ both_other _ _ _ _ row.p row.n 0 p n)
          ∙ omega arith

      -- and no other one
      pub others-number : (q : Place) → ¬ (q ≡ place key replica which) → number (counts_of new) q ≡ number m q
      others-number q other = nowhere q (eq_by_cmp place_cmp q (place key replica P)) (eq_by_cmp place_cmp q (place key replica N)) refl refl other
