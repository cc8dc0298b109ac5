-- Rows that a run of a set has are leapt.
use Rattle.std.proofs.Common.{◌≡◌, ℕ, ◌≤◌, Bool, true, false, cond, not, List, [], ◌∷◌, refl, sym, ◌∙◌, ap, arith}
use Rattle.std.specs.FinSet as set
use Rattle.std.specs.List.{list_all}
use Rattle.std.specs.Ordering.{is_lt, nat_cmp, ordering_then}
use Rattle.std.proofs.lemmas.Bool.Decides.{nat_tests}
use Rattle.rds_names.specs.Conditions.{and_left, and_right}
use Rattle.rds_dots.specs.declared.dot.Dot.{Dot}
use Rattle.rds_dots.specs.Ascending.{is_above}
use Rattle.rds_dots.specs.Dots.{Dots}
use Rattle.rds_dots.specs.Lacking.{dot_of}
use Rattle.rds_life.specs.Life.{keys}
use Rattle.rds_life.specs.Past.{rows_past}
use Rattle.rds_delta.specs.Higher.{unseen_rows}
use Rattle.rds_delta.specs.Parts.{IsStretch}

in_stretch : (a s b t u : ℕ) → is_lt (ordering_then (nat_cmp a b) (nat_cmp s t)) ≡ true → not (is_lt (ordering_then (nat_cmp a b) (nat_cmp u t))) ≡ true → (a ≡ b) × (s ≤ t) × (t ≤ u)
in_stretch a s b t u h k = grind (arith, nat_tests)

module _ (s : Dots) (d : Dot) (here : set.contains s d ≡ true) (has : Bool) (until : ℕ) (stretch : IsStretch s d has until) where
  has_is : has ≡ true
  has_is = sym (stretch.alike d.seq (omega arith) stretch.from) ∙ here

  at : (q : Dot) → is_above d q ≡ true → is_above (dot_of d.replica until) q ≡ false → set.contains s q ≡ true
  at q above upto =
      let in_it = in_stretch d.replica d.seq q.replica q.seq until above (ap not upto) in
      ap (λ n. set.contains s (dot_of n q.seq)) (sym in_it.0) ∙ stretch.alike q.seq in_it.1 in_it.2 ∙ has_is

  -- the rows that the set lacks lie past the run
  pub rows_leapt : {X : Type 0} (rows : List (Dot × X)) → list_all (is_above d) (keys rows) ≡ true → unseen_rows (set.contains s) (rows_past (dot_of d.replica until) rows) ≡ unseen_rows (set.contains s) rows
  rows_leapt [] all = refl
  rows_leapt (r ∷ rows) all =
      let last = dot_of d.replica until in
      let again = rows_leapt rows (and_right (is_above d r.0) _ all) in
      elim (is_above last r.0) as (λ b. is_above last r.0 ≡ b → unseen_rows (set.contains s) (cond b (r ∷ rows_past last rows) (rows_past last rows)) ≡ cond (not (set.contains s r.0)) (r ∷ unseen_rows (set.contains s) rows) (unseen_rows (set.contains s) rows)) [
        | true ↦ λ _. ap (λ l. cond (not (set.contains s r.0)) (r ∷ l) l) again
        | false ↦ λ is. again ∙ sym (ap (λ b. cond (not b) (r ∷ unseen_rows (set.contains s) rows) (unseen_rows (set.contains s) rows)) (at r.0 (and_left (is_above d r.0) _ all) is))
      ] refl
