-- What one set has of a replica up to a number, the other has.
use Rattle.std.proofs.Common.{◌≡◌, ℕ, ◌+◌, ◌-◌, ◌<◌, ◌≤◌, true, false, sym, ◌∙◌, None, arith, max, inl, inr}
use mathlib.Core.Bool.{false≢true}
use Rattle.std.specs.FinSet as set
use Rattle.std.proofs.lemmas.Bool.Decides.{leb_tells}
use Rattle.rds_dots.specs.declared.dot.Dot.{Dot}
use Rattle.rds_dots.specs.declared.dot.Run.{Run}
use Rattle.rds_dots.specs.declared.dot.TheConstants.{MAX_SEQ}
use Rattle.rds_dots.specs.Dots.{Dots, is_dot}
use Rattle.rds_dots.specs.Lacking.{dot_of, HasAll, IsFirstLacking, NextRun, IsNextRun}
use Rattle.rds_dots.specs.Sets.{dot_limits}

pub record HasUpTo (s t : Dots) (replica from : ℕ) : Type 0 where
  pub small : from ≤ MAX_SEQ
  pub has : (n : ℕ) → n ≤ from → set.contains t (dot_of replica n) ≡ true → set.contains s (dot_of replica n) ≡ true

pub up_to_none : (s t : Dots) → ((d : Dot) → set.contains t d ≡ true → is_dot d ≡ true) → (replica : ℕ) → HasUpTo s t replica 0
up_to_none s t dots replica = record {
  small = omega arith;
  has = λ n le h. (let one = (dot_limits (dot_of replica n) (dots (dot_of replica n) h)).from_one in absurd (omega arith));
}

module _ (s t : Dots) (replica from : ℕ) (so_far : HasUpTo s t replica from) where
  pub all_up_to : NextRun t replica from None → HasAll s t replica
  all_up_to none n h = elim (leb_tells n from) [ inl p ↦ so_far.has n p.1 h | inr q ↦ absurd (false≢true (sym (none n q.1) ∙ h)) ]

  module _ (r : Run) (theirs : IsNextRun t replica from r) (first : ℕ) (is : first ≡ max r.lo (from + 1)) where
    before_first : (n : ℕ) → n < first → set.contains t (dot_of replica n) ≡ true → set.contains s (dot_of replica n) ≡ true
    before_first n lt h = elim (leb_tells n from) [
      | inl p ↦ so_far.has n p.1 h
      | inr q ↦ let later = q.1 in absurd (false≢true (sym (theirs.gap n later (omega (arith, later, is, lt))) ∙ h))
    ]

    in_run : (r.lo ≤ first) × (first ≤ r.hi)
    in_run = let rises = theirs.rises in let ends = theirs.ends in (omega (arith, is), omega (arith, is, rises, ends))

    pub lacks_first : set.contains s (dot_of replica first) ≡ false → IsFirstLacking s t replica first
    lacks_first lacks = record { there = theirs.inside first in_run.0 in_run.1; lacking = lacks; first = before_first }

    pub lacks_all : NextRun s replica (first - 1) None → IsFirstLacking s t replica first
    lacks_all none = lacks_first (none first (omega (arith, is)))

    module _ (q : Run) (ours : IsNextRun s replica (first - 1) q) where
      pub lacks_before : first < q.lo → IsFirstLacking s t replica first
      lacks_before lt = lacks_first (ours.gap first (omega (arith, is)) lt)

      ends : first ≤ q.hi
      ends = let e = ours.ends in omega (arith, is, e)

      up_to : q.lo ≤ first → (n : ℕ) → n ≤ q.hi → set.contains t (dot_of replica n) ≡ true → set.contains s (dot_of replica n) ≡ true
      up_to begins n le h = elim (leb_tells first n) [
        | inl p ↦ let from_first = p.1 in ours.inside n (omega (arith, from_first, begins)) le
        | inr p ↦ before_first n p.1 h
      ]

      pub lacks_next : q.lo ≤ first → q.hi < r.hi → IsFirstLacking s t replica (q.hi + 1)
      lacks_next begins lt = record {
        there = let e = ends in let f = in_run.0 in theirs.inside (q.hi + 1) (omega (arith, e, f)) (omega (arith, lt));
        lacking = ours.next;
        first = λ n p h. up_to begins n (omega (arith, p)) h;
      }

      pub has_more : q.lo ≤ first → r.hi ≤ q.hi → HasUpTo s t replica r.hi
      has_more begins le = record { small = theirs.within; has = λ n p h. up_to begins n (omega (arith, p, le)) h }
