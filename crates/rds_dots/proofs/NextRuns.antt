-- The first run that ends after a dot, and what it says of the set.
use Rattle.std.proofs.Common.{◌≡◌, ℕ, ◌+◌, ◌<◌, ◌≤◌, Bool, true, false, cond, ◌&&◌, ◌||◌, List, [], ◌∷◌, Option, Some}
use Rattle.std.proofs.Common.{None, refl, sym, ◌∙◌, ap, subst, arith, eqb, leb, inl, inr}
use mathlib.Core.Bool.{false≢true}
use Rattle.std.specs.FinSet as set
use Rattle.std.specs.Ordering.{is_lt, nat_cmp, ordering_then}
use Rattle.std.proofs.lemmas.Bool.Decides.{nat_tests, leb_tells}
use Rattle.rds_dots.specs.declared.dot.Dot.{Dot}
use Rattle.rds_dots.specs.declared.dot.Run.{Run}
use Rattle.rds_dots.specs.declared.dot.TheConstants.{MAX_SEQ}
use Rattle.rds_dots.specs.Dots.{Dots, is_dot, in_run, last_of, comes_after}
use Rattle.rds_dots.specs.Lacking.{dot_of, IsNextRun}
use Rattle.rds_names.specs.Conditions.{and_right}
use Rattle.rds_dots.specs.Runs.{runs_cover, dot_place, start, stop, are_maximal, first_after, runs_of, AreRuns}
use Rattle.rds_dots.specs.RunFacts.{Bounds, run_parts, has, has_past, has_none, start_stop, spans, covers_is}
use Rattle.rds_dots.specs.RunsOf.{are_runs}
use Rattle.rds_dots.specs.Sets.{dot_limits}

-- the first of the runs that ends after a dot: what it has, what lies before it, and the gap behind it
pub record IsFirst (rs : List Run) (after : Option Dot) (f : Run) : Type 0 where
  pub bounds : Bounds f
  pub ends : comes_after after (last_of f) ≡ true
  pub inside : (d : Dot) → in_run f d ≡ true → runs_cover rs d ≡ true
  pub first : (d : Dot) → runs_cover rs d ≡ true → comes_after after d ≡ true → start f ≤ dot_place d.replica d.seq
  pub stops : has rs (stop f) ≡ true
  pub gap : has rs (stop f + 1) ≡ false

spans_stop : (a b : ℕ) → a ≤ b → (leb a b && leb b b) ≡ true
spans_stop a b h = grind (arith, nat_tests)

past_stop : (a b n : ℕ) → b < n → (leb a n && leb n b) ≡ false
past_stop a b n h = grind (arith, nat_tests)

or_true : (a b : Bool) → a ≡ true → (a || b) ≡ true
or_true a b h = rw h

or_later : (a b : Bool) → b ≡ true → (a || b) ≡ true
or_later true b h = refl
or_later false b h = h

or_false : (a b : Bool) → a ≡ false → b ≡ false → (a || b) ≡ false
or_false a b p q = rw p q

from_start : (r : Run) (rs : List Run) → are_maximal (r ∷ rs) ≡ true → (d : Dot) → runs_cover (r ∷ rs) d ≡ true → start r ≤ dot_place d.replica d.seq
from_start r rs max d h =
    let p = run_parts r rs max in
    let lies : has (r ∷ rs) (dot_place d.replica d.seq) ≡ true = and_right (is_dot d) _ (sym (covers_is (r ∷ rs) max d) ∙ h) in
    let le = start_stop r p.bounds in
    elim (spans r (dot_place d.replica d.seq)) as (λ b. spans r (dot_place d.replica d.seq) ≡ b → (b || has rs (dot_place d.replica d.seq)) ≡ true → start r ≤ dot_place d.replica d.seq) [
      | true ↦ λ is _. below (start r) (stop r) (dot_place d.replica d.seq) is
      | false ↦ λ _ later. let past = has_past rs p.rest (stop r + 1) (dot_place d.replica d.seq) p.apart later in omega arith
    ] refl lies
  where
    below : (a b n : ℕ) → (leb a n && leb n b) ≡ true → a ≤ n
    below a b n h = grind (arith, nat_tests)

-- a dot of a run that doesn't end after another dot doesn't come after it either
not_after : (after : Option Dot) (r : Run) (d : Dot) → comes_after after (last_of r) ≡ false → in_run r d ≡ true → comes_after after d ≡ true → ⊥
not_after None r d ends has comes = false≢true (sym ends)
not_after (Some a) r d ends has comes = numbers a.replica a.seq r.replica r.lo r.hi d.replica d.seq ends has comes
  where
    numbers : (a n ρ lo hi b m : ℕ) → is_lt (ordering_then (nat_cmp a ρ) (nat_cmp n hi)) ≡ false → (eqb b ρ && leb lo m && leb m hi) ≡ true → is_lt (ordering_then (nat_cmp a b) (nat_cmp n m)) ≡ true → ⊥
    numbers a n ρ lo hi b m p q r = grind (arith, nat_tests)

first_here : (r : Run) (rs : List Run) → are_maximal (r ∷ rs) ≡ true → (after : Option Dot) → comes_after after (last_of r) ≡ true → IsFirst (r ∷ rs) after r
first_here r rs max after ends =
    let p = run_parts r rs max in
    record {
      bounds = p.bounds;
      ends = ends;
      inside = λ d h. or_true (in_run r d) (runs_cover rs d) h;
      first = λ d h _. from_start r rs max d h;
      stops = or_true _ (has rs (stop r)) (spans_stop (start r) (stop r) (start_stop r p.bounds));
      gap = or_false _ _ (past_stop (start r) (stop r) (stop r + 1) (omega arith)) (has_none rs p.rest (stop r + 1) (stop r + 1) p.apart (omega arith));
    }

first_later : (r : Run) (rs : List Run) → are_maximal (r ∷ rs) ≡ true → (after : Option Dot) → comes_after after (last_of r) ≡ false → (f : Run) → IsFirst rs after f → IsFirst (r ∷ rs) after f
first_later r rs max after ends f is =
    let p = run_parts r rs max in
    let past = has_past rs p.rest (stop r + 1) (stop f) p.apart is.stops in
    record {
      bounds = is.bounds;
      ends = is.ends;
      inside = λ d h. or_later (in_run r d) (runs_cover rs d) (is.inside d h);
      first = λ d h comes. (elim (in_run r d) as (λ b. in_run r d ≡ b → (b || runs_cover rs d) ≡ true → start f ≤ dot_place d.replica d.seq) [
        | true ↦ λ has _. absurd (not_after after r d ends has comes)
        | false ↦ λ _ later. is.first d later comes
      ] refl h);
      stops = or_later _ (has rs (stop f)) is.stops;
      gap = or_false _ _ (past_stop (start r) (stop r) (stop f + 1) (omega arith)) is.gap;
    }

pub is_first : (rs : List Run) → are_maximal rs ≡ true → (after : Option Dot) (f : Run) → first_after after rs ≡ Some f → IsFirst rs after f
is_first [] max after f is = cc
is_first (r ∷ rs) max after f is =
    let again = is_first rs (run_parts r rs max).rest after f in
    elim (comes_after after (last_of r)) as (λ b. comes_after after (last_of r) ≡ b → cond b (Some r) (first_after after rs) ≡ Some f → IsFirst (r ∷ rs) after f) [
      | true ↦ λ ends e. (let same : r ≡ f = cc in subst (IsFirst (r ∷ rs) after) same (first_here r rs max after ends))
      | false ↦ λ ends e. first_later r rs max after ends f (again e)
    ] refl is

-- where no run ends after a dot, no dot comes after it
pub none_after : (rs : List Run) (after : Option Dot) → first_after after rs ≡ None → (d : Dot) → runs_cover rs d ≡ true → comes_after after d ≡ true → ⊥
none_after [] after none d h comes = false≢true h
none_after (r ∷ rs) after none d h comes =
    let again = none_after rs after in
    elim (comes_after after (last_of r)) as (λ b. comes_after after (last_of r) ≡ b → cond b (Some r) (first_after after rs) ≡ None → ⊥) [
      | true ↦ λ ends e. cc
      | false ↦ λ ends e. (elim (in_run r d) as (λ b. in_run r d ≡ b → (b || runs_cover rs d) ≡ true → ⊥) [
        | true ↦ λ has _. not_after after r d ends has comes
        | false ↦ λ _ later. again e d later comes
      ] refl h)
    ] refl none

from_true : (b : Bool) → (b ≡ true → ⊥) → b ≡ false
from_true true h = absurd (h refl)
from_true false h = refl

and_false : (a b : Bool) → b ≡ false → (a && b) ≡ false
and_false true b h = h
and_false false b h = refl

later_is : (a n m : ℕ) → n < m → is_lt (ordering_then (nat_cmp a a) (nat_cmp n m)) ≡ true
later_is a n m h = grind (arith, nat_tests)

in_is : (a ρ lo n hi : ℕ) → ρ ≡ a → lo ≤ n → n ≤ hi → (eqb a ρ && leb lo n && leb n hi) ≡ true
in_is a ρ lo n hi e p q = grind (arith, nat_tests)

after_is : (a ρ n hi : ℕ) → ρ ≡ a → is_lt (ordering_then (nat_cmp a ρ) (nat_cmp n hi)) ≡ true → n < hi
after_is a ρ n hi e h = grind (arith, nat_tests)

other_is : (a ρ n hi : ℕ) → (ρ ≡ a → ⊥) → is_lt (ordering_then (nat_cmp a ρ) (nat_cmp n hi)) ≡ true → a < ρ
other_is a ρ n hi e h = grind (arith, nat_tests)

past_is : (a ρ n : ℕ) → a < ρ → is_lt (ordering_then (nat_cmp a ρ) (nat_cmp 281474976710655 n)) ≡ true
past_is a ρ n h = grind (arith, nat_tests)

of_later : (a ρ n : ℕ) → n ≤ 281474976710655 → is_lt (ordering_then (nat_cmp a ρ) (nat_cmp 281474976710655 n)) ≡ true → a < ρ
of_later a ρ n h k = grind (arith, nat_tests)

module _ (s : Dots) (dots : (d : Dot) → set.contains s d ≡ true → is_dot d ≡ true) (replica after : ℕ) where
  runs : AreRuns s (runs_of s)
  runs = are_runs s dots

  covered : (d : Dot) → set.contains s d ≡ true → runs_cover (runs_of s) d ≡ true
  covered d h = runs.same d ∙ h

  -- no run, no dot
  pub no_run : None ≡ first_after (Some (dot_of replica after)) (runs_of s) → (n : ℕ) → after < n → set.contains s (dot_of replica n) ≡ false
  no_run none n lt = from_true _ (λ h. none_after (runs_of s) (Some (dot_of replica after)) (sym none) (dot_of replica n) (covered (dot_of replica n) h) (later_is replica after n lt))

  module _ (r : Run) (is : Some r ≡ first_after (Some (dot_of replica after)) (runs_of s)) where
    one : IsFirst (runs_of s) (Some (dot_of replica after)) r
    one = is_first (runs_of s) runs.maximal (Some (dot_of replica after)) r (sym is)

    -- nor where it is another replica's
    pub other_run : (r.replica ≡ replica → ⊥) → (n : ℕ) → after < n → set.contains s (dot_of replica n) ≡ false
    other_run other n lt = from_true _ (λ h.
        let from = one.first (dot_of replica n) (covered (dot_of replica n) h) (later_is replica after n lt) in
        let later = other_is replica r.replica after r.hi other one.ends in
        let most = (dot_limits (dot_of replica n) (dots (dot_of replica n) h)).within in
        absurd (omega arith))

    pub next_run : r.replica ≡ replica → IsNextRun s replica after r
    next_run same =
        let b = one.bounds in
        record {
          starts = b.one;
          rises = b.rises;
          within = b.most;
          ends = after_is replica r.replica after r.hi same one.ends;
          inside = λ n p q. sym (runs.same (dot_of replica n)) ∙ one.inside (dot_of replica n) (in_is replica r.replica r.lo n r.hi same p q);
          gap = λ n p q. from_true _ (λ h. (let from = one.first (dot_of replica n) (covered (dot_of replica n) h) (later_is replica after n p) in absurd (omega arith)));
          next = sym (runs.same (dot_of replica (r.hi + 1))) ∙ covers_is (runs_of s) runs.maximal (dot_of replica (r.hi + 1)) ∙ and_false (is_dot (dot_of replica (r.hi + 1))) _ (ap (has (runs_of s)) (place_is r.replica replica r.hi same) ∙ one.gap);
        }
      where
        place_is : (ρ a hi : ℕ) → ρ ≡ a → dot_place a (hi + 1) ≡ dot_place ρ hi + 1
        place_is ρ a hi e = omega arith

module _ (s : Dots) (dots : (d : Dot) → set.contains s d ≡ true → is_dot d ≡ true) (last : ℕ) where
  -- no run after a replica's last dot, no later replica
  pub none_later : None ≡ first_after (Some (dot_of last MAX_SEQ)) (runs_of s) → (d : Dot) → set.contains s d ≡ true → d.replica < last + 1
  none_later none d h = elim (leb_tells d.replica last) [
    | inl p ↦ let le = p.1 in omega arith
    | inr p ↦ absurd (none_after (runs_of s) (Some (dot_of last MAX_SEQ)) (sym none) d ((are_runs s dots).same d ∙ h) (past_is last d.replica d.seq p.1))
  ]

  pub one_later : (r : Run) → Some r ≡ first_after (Some (dot_of last MAX_SEQ)) (runs_of s) → ((d : Dot) → set.contains s d ≡ true → d.replica < last + 1) → ⊥
  one_later r is each =
      let runs = are_runs s dots in
      let one = is_first (runs_of s) runs.maximal (Some (dot_of last MAX_SEQ)) r (sym is) in
      let rises = one.bounds.rises in
      let there = sym (runs.same (last_of r)) ∙ one.inside (last_of r) (in_is r.replica r.replica r.lo r.hi r.hi refl rises (omega arith)) in
      let below = each (last_of r) there in
      let above = of_later last r.replica r.hi one.bounds.most one.ends in
      omega (arith, below, above)
