-- Whether runs have a dot, by the first run that ends after the dot before.
use Rattle.std.proofs.Common.{◌≡◌, ℕ, ◌+◌, ◌*◌, ◌-◌, ◌≤◌, Bool, true, false, cond, ◌&&◌, ◌||◌, List, [], ◌∷◌, Option}
use Rattle.std.proofs.Common.{Some, None, refl, sym, ◌∙◌, ap, arith, eqb, leb}
use Rattle.std.specs.Ordering.{is_lt, nat_cmp, ordering_then}
use Rattle.std.proofs.lemmas.Bool.Decides.{nat_tests}
use Rattle.rds_names.specs.Conditions.{and_left, and_right}
use Rattle.rds_dots.specs.declared.dot.Dot.{Dot}
use Rattle.rds_dots.specs.declared.dot.Run.{Run}
use Rattle.rds_dots.specs.Dots.{is_dot, in_run, last_of, comes_after}
use Rattle.rds_dots.specs.Runs.{runs_cover, dot_place, stop, are_maximal, first_after}
use Rattle.rds_dots.specs.RunFacts.{run_parts, has_past, covers_is}
use Rattle.rds_gaps.proofs.Facts.{from_true}

abbrev pub found : Dot → Option Run → Bool
found d None = false
found d (Some r) = eqb r.replica d.replica && leb r.lo d.seq

seq_of : (a s : ℕ) → (leb a 255 && leb 1 s && leb s 281474976710655) ≡ true → s ≤ 281474976710655
seq_of a s h = grind (arith, nat_tests)

reaches : (a s ρ hi : ℕ) → 1 ≤ s → s ≤ 281474976710655 → is_lt (ordering_then (nat_cmp a ρ) (nat_cmp (s - 1) hi)) ≡ true → a * 281474976710656 + s ≤ ρ * 281474976710656 + hi
reaches a s ρ hi p q h = grind (arith, nat_tests)

inside_is : (a s ρ lo hi : ℕ) → 1 ≤ s → is_lt (ordering_then (nat_cmp a ρ) (nat_cmp (s - 1) hi)) ≡ true → ((eqb a ρ && leb lo s && leb s hi) || false) ≡ (eqb ρ a && leb lo s)
inside_is a s ρ lo hi p h = grind (arith, nat_tests)

outside_is : (a s ρ lo hi : ℕ) → 1 ≤ s → is_lt (ordering_then (nat_cmp a ρ) (nat_cmp (s - 1) hi)) ≡ false → (eqb a ρ && leb lo s && leb s hi) ≡ false
outside_is a s ρ lo hi p h = grind (arith, nat_tests)

pub covers_found : (rs : List Run) → are_maximal rs ≡ true → (d : Dot) → 1 ≤ d.seq → let before : Dot = record { replica = d.replica; seq = d.seq - 1 } in runs_cover rs d ≡ found d (first_after (Some before) rs)
covers_found [] max d one = refl
covers_found (r ∷ rs) max d one =
    let before : Dot = record { replica = d.replica; seq = d.seq - 1 } in
    let p = run_parts r rs max in
    let again = covers_found rs p.rest d one in
    elim (comes_after (Some before) (last_of r)) as (λ t. comes_after (Some before) (last_of r) ≡ t → (in_run r d || runs_cover rs d) ≡ found d (cond t (Some r) (first_after (Some before) rs))) [
      | true ↦ λ t. (
          let none : runs_cover rs d ≡ false = from_true (runs_cover rs d) (λ h.
          let both = sym (covers_is rs p.rest d) ∙ h in
          let past = has_past rs p.rest (stop r + 1) (dot_place d.replica d.seq) p.apart (and_right (is_dot d) _ both) in
          let le = reaches d.replica d.seq r.replica r.hi one (seq_of d.replica d.seq (and_left (is_dot d) _ both)) t in
          absurd (omega arith)) in
          ap (λ b. in_run r d || b) none ∙ inside_is d.replica d.seq r.replica r.lo r.hi one t)
      | false ↦ λ t. ap (λ b. b || runs_cover rs d) (outside_is d.replica d.seq r.replica r.lo r.hi one t) ∙ again
    ] refl

pub covers_zero : (rs : List Run) → are_maximal rs ≡ true → (d : Dot) → d.seq ≡ 0 → false ≡ runs_cover rs d
covers_zero rs max d e = sym (from_true (runs_cover rs d) (λ h. let both = sym (covers_is rs max d) ∙ h in let one = seq_one d.replica d.seq (and_left (is_dot d) _ both) in absurd (omega arith)))
  where
    seq_one : (a s : ℕ) → (leb a 255 && leb 1 s && leb s 281474976710655) ≡ true → 1 ≤ s
    seq_one a s h = grind (arith, nat_tests)

same_number : (ρ a lo s : ℕ) → ρ ≡ a → leb lo s ≡ (eqb ρ a && leb lo s)
same_number ρ a lo s e = grind (arith, nat_tests)

other_number : (ρ a lo s : ℕ) → (ρ ≡ a → ⊥) → eqb ρ a ≡ (eqb ρ a && leb lo s)
other_number ρ a lo s e = grind (arith, nat_tests)

pub found_same : (d : Dot) (r : Run) → r.replica ≡ d.replica → leb r.lo d.seq ≡ found d (Some r)
found_same d r e = same_number r.replica d.replica r.lo d.seq e

pub found_other : (d : Dot) (r : Run) → (r.replica ≡ d.replica → ⊥) → eqb r.replica d.replica ≡ found d (Some r)
found_other d r e = other_number r.replica d.replica r.lo d.seq e
