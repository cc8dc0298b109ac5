-- What the first run after a dot says of a stretch and of a part.
use Rattle.std.proofs.Common.{◌≡◌, ℕ, ◌+◌, ◌-◌, ◌*◌, ◌<◌, ◌≤◌, Bool, true, false, cond, ◌&&◌, ◌==◌, Option, Some, None}
use Rattle.std.proofs.Common.{refl, sym, ◌∙◌, ap, subst, arith, eqb, leb}
use Rattle.std.proofs.lemmas.Bool.{false_from_ne_true}
use Rattle.std.specs.Prelude.{nat_le}
use mathlib.Core.Bool.{false≢true}
use Rattle.std.specs.Ordering.{nat_cmp, ordering_then, is_lt}
use Rattle.std.specs.FinSet as set
use Rattle.std.proofs.lemmas.Bool.Decides.{nat_tests}
use Rattle.rds_dots.specs.declared.dot.Dot.{Dot}
use Rattle.rds_dots.specs.declared.dot.Run.{Run}
use Rattle.rds_dots.specs.declared.dot.TheConstants.{MAX_SEQ}
use Rattle.rds_dots.specs.Dots.{Dots, is_dot, last_of, comes_after}
use Rattle.rds_dots.specs.Lacking.{dot_of, IsNextRun}
use Rattle.rds_dots.specs.Runs.{dot_place, runs_of, first_after, AreRuns}
use Rattle.rds_dots.specs.RunFacts.{has, covers_is}
use Rattle.rds_dots.specs.RunsOf.{are_runs}
use Rattle.rds_dots.specs.Sets.{dot_limits}
use Rattle.rds_dots.proofs.NextRuns.{IsFirst, is_first, none_after}
use Rattle.rds_delta.specs.Parts.{IsStretch, IsPartAfter, seq_after}

module _ (s : Dots) (d : Dot) (one : is_dot d ≡ true) where
  pub empty_stretch : ((n : ℕ) → d.seq - 1 < n → set.contains s (dot_of d.replica n) ≡ false) → IsStretch s d false MAX_SEQ
  empty_stretch none =
      let b = dot_limits d one in
      let low = b.from_one in
      let high = b.within in
      record { from = high; within = omega arith; alike = λ n p q. none n (omega arith); ends = λ lt. absurd (omega arith) }

  pub in_stretch : (r : Run) → IsNextRun s d.replica (d.seq - 1) r → r.lo ≤ d.seq → IsStretch s d true r.hi
  in_stretch r is le =
      let low = (dot_limits d one).from_one in
      let ends = is.ends in
      record { from = omega arith; within = is.within; alike = λ n p q. is.inside n (omega arith) q; ends = λ _. is.next }

  pub out_stretch : (r : Run) → IsNextRun s d.replica (d.seq - 1) r → d.seq < r.lo → IsStretch s d false (r.lo - 1)
  out_stretch r is lt =
      let low = (dot_limits d one).from_one in
      let rises = is.rises in
      let within = is.within in
      let e : r.lo - 1 + 1 ≡ r.lo = omega arith in
      record {
        from = omega arith;
        within = omega arith;
        alike = λ n p q. is.gap n (omega arith) (omega arith);
        ends = λ _. ap (λ n. set.contains s (dot_of d.replica n)) e ∙ is.inside r.lo (omega arith) rises;
      }

-- the number lies in the run, comes after, and those before it don't
record IsSeqAfter (r : Run) (after : Option Dot) (n : ℕ) : Type 0 where
  from : r.lo ≤ n
  to : n ≤ r.hi
  follows : comes_after after (dot_of r.replica n) ≡ true
  before : (m : ℕ) → r.lo ≤ m → m < n → comes_after after (dot_of r.replica m) ≡ false

in_same : (a b s lo hi : ℕ) → lo ≤ hi → is_lt (ordering_then (nat_cmp a b) (nat_cmp s hi)) ≡ true → ((a == b) && nat_le lo s) ≡ true → (a ≡ b) × (lo ≤ s) × (s < hi)
in_same a b s lo hi le h t = grind (arith, nat_tests)

not_same : (a b s lo hi : ℕ) → lo ≤ hi → is_lt (ordering_then (nat_cmp a b) (nat_cmp s hi)) ≡ true → ((a == b) && nat_le lo s) ≡ false → is_lt (ordering_then (nat_cmp a b) (nat_cmp s lo)) ≡ true
not_same a b s lo hi le h t = grind (arith, nat_tests)

after_next : (a b s : ℕ) → a ≡ b → is_lt (ordering_then (nat_cmp a b) (nat_cmp s (s + 1))) ≡ true
after_next a b s e = grind (arith, nat_tests)

not_after : (a b s m : ℕ) → a ≡ b → m < s + 1 → is_lt (ordering_then (nat_cmp a b) (nat_cmp s m)) ≡ false
not_after a b s m e lt = grind (arith, nat_tests)

seq_is : (r : Run) (after : Option Dot) → r.lo ≤ r.hi → comes_after after (last_of r) ≡ true → IsSeqAfter r after (seq_after r after)
seq_is r None le h = record { from = omega arith; to = le; follows = refl; before = λ m a b. absurd (omega arith) }
seq_is r (Some d) le h =
    elim ((d.replica == r.replica) && nat_le r.lo d.seq) as (λ b. ((d.replica == r.replica) && nat_le r.lo d.seq) ≡ b → IsSeqAfter r (Some d) (cond b (d.seq + 1) r.lo)) [
      | true ↦ λ t.
          let k = in_same d.replica r.replica d.seq r.lo r.hi le h t in
          let k1 = k.1 in
          let k2 = k.2 in
          record {
            from = omega arith;
            to = omega arith;
            follows = after_next d.replica r.replica d.seq k.0;
            before = λ m a b. not_after d.replica r.replica d.seq m k.0 b;
          }
      | false ↦ λ t. record { from = omega arith; to = le; follows = not_same d.replica r.replica d.seq r.lo r.hi le h t; before = λ m a b. absurd (omega arith) }
    ] refl

in_is : (a lo n hi : ℕ) → lo ≤ n → n ≤ hi → (eqb a a && leb lo n && leb n hi) ≡ true
in_is a lo n hi p q = grind (arith, nat_tests)

and_false : (a b : Bool) → b ≡ false → (a && b) ≡ false
and_false true b h = h
and_false false b h = refl

-- a dot not before a run, but before a number of it, is in the run
same_replica : (a s ρ lo n : ℕ) → s ≤ 281474976710655 → ρ * 281474976710656 + lo ≤ a * 281474976710656 + s → is_lt (ordering_then (nat_cmp a ρ) (nat_cmp s n)) ≡ true → a ≡ ρ
same_replica a s ρ lo n most from h = grind (arith, nat_tests)

in_front : (a s ρ lo n : ℕ) → a ≡ ρ → ρ * 281474976710656 + lo ≤ a * 281474976710656 + s → is_lt (ordering_then (nat_cmp a ρ) (nat_cmp s n)) ≡ true → (lo ≤ s) × (s < n)
in_front a s ρ lo n e from h = (omega arith, below a s ρ n e h)
  where
    below : (a s ρ n : ℕ) → a ≡ ρ → is_lt (ordering_then (nat_cmp a ρ) (nat_cmp s n)) ≡ true → s < n
    below a s ρ n e h = grind (arith, nat_tests)

module _ (s : Dots) (dots : (d : Dot) → set.contains s d ≡ true → is_dot d ≡ true) (after : Option Dot) where
  runs : AreRuns s (runs_of s)
  runs = are_runs s dots

  pub no_part : None ≡ first_after after (runs_of s) → (d : Dot) → comes_after after d ≡ true → set.contains s d ≡ false
  no_part none d comes = false_from_ne_true _ (λ h. none_after (runs_of s) after (sym none) d (runs.same d ∙ h) comes)

  module _ (r : Run) (is : Some r ≡ first_after after (runs_of s)) where
    one : IsFirst (runs_of s) after r
    one = is_first (runs_of s) runs.maximal after r (sym is)

    pub run_top : r.hi ≤ MAX_SEQ
    run_top = one.bounds.most

    pub run_ends : comes_after after (last_of r) ≡ true
    run_ends = one.ends

    there : (n : ℕ) → r.lo ≤ n → n ≤ r.hi → set.contains s (dot_of r.replica n) ≡ true
    there n p q = sym (runs.same (dot_of r.replica n)) ∙ one.inside (dot_of r.replica n) (in_is r.replica r.lo n r.hi p q)

    pub part_is : (n : ℕ) → n ≡ seq_after r after → IsPartAfter s after (record { replica = r.replica; lo = n; hi = r.hi })
    part_is n e =
        let b = one.bounds in
        let low = b.one in
        let q = subst (IsSeqAfter r after) (sym e) (seq_is r after b.rises one.ends) in
        let from = q.from in
        record {
          is_run = record { from_one = omega arith; rises = q.to; within = b.most };
          replica = b.small;
          follows = q.follows;
          inside = λ m x y. there m (omega arith) y;
          ends = sym (runs.same (dot_of r.replica (r.hi + 1))) ∙ covers_is (runs_of s) runs.maximal (dot_of r.replica (r.hi + 1)) ∙ and_false (is_dot (dot_of r.replica (r.hi + 1))) _ (ap (has (runs_of s)) (place_is r.replica r.hi) ∙ one.gap);
          first = λ d comes lt. false_from_ne_true _ (λ h.
              let from = one.first d (runs.same d ∙ h) comes in
              let most = (dot_limits d (dots d h)).within in
              let same = same_replica d.replica d.seq r.replica r.lo n most from lt in
              let in_it = in_front d.replica d.seq r.replica r.lo n same from lt in
              false≢true (sym (q.before d.seq in_it.0 in_it.1) ∙ ap (λ x. comes_after after (dot_of x d.seq)) (sym same) ∙ comes));
        }
      where
        place_is : (a hi : ℕ) → dot_place a (hi + 1) ≡ dot_place a hi + 1
        place_is a hi = omega arith
