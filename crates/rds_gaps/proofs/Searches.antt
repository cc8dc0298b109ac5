-- Maximal runs, parted by the dot after which they end.
use Rattle.std.proofs.Common.{◌≡◌, ℕ, suc, zero, ◌+◌, ◌*◌, ◌<◌, ◌≤◌, Bool, true, false, not, cond, List, [], ◌∷◌}
use Rattle.std.proofs.Common.{length, get_or, Option, Some, None, refl, sym, ◌∙◌, ap, arith, slice_get}
use mathlib.Core.Bool.{false≢true}
use Rattle.std.specs.List.Sorted.{IsPartitionPoint, IsPartitionedBy}
use Rattle.std.proofs.lemmas.Bool.{not-false}
use Rattle.std.specs.Ordering.{is_lt, nat_cmp, ordering_then}
use Rattle.std.proofs.lemmas.Bool.Decides.{nat_tests}
use Rattle.rds_dots.specs.declared.dot.Dot.{Dot}
use Rattle.rds_dots.specs.declared.dot.Run.{Run}
use Rattle.rds_dots.specs.Dots.{dot_cmp, last_of, comes_after}
use Rattle.rds_names.specs.Conditions.{less_of}
use Rattle.rds_dots.specs.Runs.{start, stop, begins_past, are_maximal, first_after}
use Rattle.rds_dots.specs.RunFacts.{Bounds, run_parts, start_stop, lt_of, begins_later}
use Rattle.rds_dots.proofs.RunWalks.{after_trans}
use Rattle.rds_gaps.specs.Lookup.{IsParted}

below_of : (a s b t : ℕ) → s ≤ 281474976710655 → t ≤ 281474976710655 → a * 281474976710656 + s < b * 281474976710656 + t → is_lt (ordering_then (nat_cmp a b) (nat_cmp s t)) ≡ true
below_of a s b t p q h = grind (arith, nat_tests)

next_after : (after : Option Dot) (r : Run) → Bounds r → comes_after after (last_of r) ≡ true → (s : Run) (rs : List Run) → begins_past (stop r) (s ∷ rs) ≡ true → are_maximal (s ∷ rs) ≡ true → comes_after after (last_of s) ≡ true
next_after after r b h s rs begins max =
    let p = run_parts s rs max in
    let l = lt_of (stop r) (start s) begins in
    let le = start_stop s p.bounds in
    after_trans after (last_of r) (last_of s) h (less_of (dot_cmp (last_of r) (last_of s)) (below_of r.replica r.hi s.replica s.hi b.most p.bounds.most (omega arith)))

-- once a run ends after the dot, all later ones do
later_after : (after : Option Dot) (r : Run) → Bounds r → comes_after after (last_of r) ≡ true → (rs : List Run) → begins_past (stop r) rs ≡ true → are_maximal rs ≡ true → (i : ℕ) (d : Run) → i < length rs → comes_after after (last_of (get_or rs i d)) ≡ true
later_after after r b h [] begins max i d lt = absurd (omega arith)
later_after after r b h (s ∷ rs) begins max zero d lt = next_after after r b h s rs begins max
later_after after r b h (s ∷ rs) begins max (suc i) d lt =
    let p = run_parts s rs max in
    let now = next_after after r b h s rs begins max in
    later_after after s p.bounds now rs (begins_later rs (stop s) (stop s + 1) (omega arith) p.apart) p.rest i d (omega arith)

pub after_at : (after : Option Dot) (rs : List Run) → are_maximal rs ≡ true → (i j : ℕ) (d : Run) → i ≤ j → j < length rs → comes_after after (last_of (get_or rs i d)) ≡ true → comes_after after (last_of (get_or rs j d)) ≡ true
after_at after [] max i j d le lt h = absurd (omega arith)
after_at after (r ∷ rs) max zero zero d le lt h = h
after_at after (r ∷ rs) max zero (suc j) d le lt h =
    let p = run_parts r rs max in
    later_after after r p.bounds h rs (begins_later rs (stop r) (stop r + 1) (omega arith) p.apart) p.rest j d (omega arith)
after_at after (r ∷ rs) max (suc i) zero d le lt h = absurd (omega arith)
after_at after (r ∷ rs) max (suc i) (suc j) d le lt h = after_at after rs (run_parts r rs max).rest i j d (omega arith) (omega arith) h

not_after : (a b : Bool) → (a ≡ true → b ≡ true) → not b ≡ true → not a ≡ true
not_after true b on h = absurd (false≢true (ap not (sym (on refl)) ∙ h))
not_after false b on h = refl

pub ends_in_order : (after : Option Dot) (rs : List Run) → are_maximal rs ≡ true → IsPartitionedBy (λ r. not (comes_after after (last_of r))) rs
ends_in_order after rs max = λ i j d le lt h. not_after (comes_after after (last_of (get_or rs i d))) (comes_after after (last_of (get_or rs j d))) (after_at after rs max i j d le lt) h

not_true : (b : Bool) → not b ≡ true → b ≡ false
not_true false h = refl
not_true true h = absurd (false≢true h)

pub parted_at_point : (after : Option Dot) (rs : List Run) (i : ℕ) → IsPartitionPoint (λ r. not (comes_after after (last_of r)) ≡ true) (λ r. not (comes_after after (last_of r)) ≡ false) rs i → IsParted after rs i
parted_at_point after rs i point = record { below = λ k d lt. not_true _ (point.0 k d (omega arith) lt); from = λ k d le lt. not-false _ (point.1 k d le lt) }

-- then the first run that ends after the dot is there, or none is
found_at : (after : Option Dot) (rs : List Run) (i : ℕ) → i ≤ length rs → ((k : ℕ) (d : Run) → k < i → comes_after after (last_of (get_or rs k d)) ≡ false) → ((k : ℕ) (d : Run) → i ≤ k → k < length rs → comes_after after (last_of (get_or rs k d)) ≡ true) → slice_get rs i ≡ first_after after rs
found_at after [] i le below from = none_there i
  where
    none_there : (i : ℕ) → (let none : List Run = [] in slice_get none i ≡ None)
    none_there zero = refl
    none_there (suc i) = refl
found_at after (r ∷ rs) zero le below from = ap (λ b. cond b (Some r) (first_after after rs)) (sym (from 0 r (omega arith) (omega arith)))
found_at after (r ∷ rs) (suc i) le below from =
    found_at after rs i (omega arith) (λ k d l. below (suc k) d (omega arith)) (λ k d m l. from (suc k) d (omega arith) (omega arith))
    ∙ ap (λ b. cond b (Some r) (first_after after rs)) (sym (below 0 r (omega arith)))

pub found_in : (after : Option Dot) (rs : List Run) (i : ℕ) → i ≤ length rs → IsParted after rs i → slice_get rs i ≡ first_after after rs
found_in after rs i le parted = found_at after rs i le parted.below parted.from
