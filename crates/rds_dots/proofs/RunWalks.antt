-- A walk over runs comes to each of them.
use Rattle.std.proofs.Common.{◌≡◌, ℕ, ◌+◌, ◌*◌, ◌<◌, ◌≤◌, true, false, cond, List, [], ◌∷◌, Option, Some, None, refl}
use Rattle.std.proofs.Common.{sym, ◌∙◌, ap, arith}
use mathlib.Core.Bool.{false≢true}
use Rattle.std.specs.Ordering.{is_lt, nat_cmp, ordering_then}
use Rattle.std.specs.declared.cmp.Ordering.TheVariants.{Less}
use Rattle.std.specs.Cmp.{tied_itself}
use Rattle.std.proofs.lemmas.Bool.Decides.{nat_tests}
use Rattle.rds_dots.specs.declared.dot.Dot.{Dot}
use Rattle.rds_dots.specs.declared.dot.Run.{Run}
use Rattle.rds_dots.specs.Dots.{dot_cmp, last_of, comes_after}
use Rattle.rds_dots.specs.Order.{dots_total}
use Rattle.rds_names.specs.Conditions.{less_of}
use Rattle.rds_dots.specs.Runs.{start, stop, begins_past, are_maximal, first_after}
use Rattle.rds_dots.specs.RunFacts.{Bounds, run_parts, start_stop, lt_of, begins_later}
use Rattle.rds_dots.specs.RunsAfter.{runs_left}

pub all_left : (rs : List Run) → runs_left None rs ≡ rs
all_left [] = refl
all_left (r ∷ rs) = ap (λ l. r ∷ l) (all_left rs)

pub none_left : (after : Option Dot) (rs : List Run) → first_after after rs ≡ None → runs_left after rs ≡ []
none_left after [] none = refl
none_left after (r ∷ rs) none =
    let again = none_left after rs in
    elim (comes_after after (last_of r)) as (λ b. cond b (Some r) (first_after after rs) ≡ None → cond b (r ∷ runs_left after rs) (runs_left after rs) ≡ []) [ true ↦ λ h. (let none : ⊥ = cc in absurd none) | false ↦ again ] none

-- what comes after a dot is after what that one is after
pub after_trans : (after : Option Dot) (d e : Dot) → comes_after after d ≡ true → dot_cmp d e ≡ Less → comes_after after e ≡ true
after_trans None d e h less = refl
after_trans (Some a) d e h less = ap is_lt (dots_total.trans a d e (less_of (dot_cmp a d) h) less)

below_of : (a s b t : ℕ) → s ≤ 281474976710655 → t ≤ 281474976710655 → a * 281474976710656 + s < b * 281474976710656 + t → is_lt (ordering_then (nat_cmp a b) (nat_cmp s t)) ≡ true
below_of a s b t p q h = grind (arith, nat_tests)

-- all that comes past a run is after what its last dot is after
later_left : (after : Option Dot) (r : Run) → Bounds r → comes_after after (last_of r) ≡ true → (rs : List Run) → begins_past (stop r) rs ≡ true → are_maximal rs ≡ true → runs_left after rs ≡ rs
later_left after r b h [] begins max = refl
later_left after r b h (s ∷ rs) begins max =
    let p = run_parts s rs max in
    let lt = lt_of (stop r) (start s) begins in
    let le = start_stop s p.bounds in
    let less : dot_cmp (last_of r) (last_of s) ≡ Less = less_of _ (below_of r.replica r.hi s.replica s.hi b.most p.bounds.most (omega arith)) in
    let is : comes_after after (last_of s) ≡ true = after_trans after (last_of r) (last_of s) h less in
    let again = later_left after s p.bounds is rs (begins_later rs (stop s) (stop s + 1) (omega arith) p.apart) p.rest in
    ap (λ t. cond t (s ∷ runs_left after rs) (runs_left after rs)) is ∙ ap (λ l. s ∷ l) again

not_itself : (d : Dot) → comes_after (Some d) d ≡ false
not_itself d = ap is_lt (tied_itself dots_total d)

found_passes : (after : Option Dot) (rs : List Run) (r : Run) → first_after after rs ≡ Some r → comes_after after (last_of r) ≡ true
found_passes after [] r is = (let none : ⊥ = cc in absurd none)
found_passes after (s ∷ rs) r is =
    let again = found_passes after rs r in
    elim (comes_after after (last_of s)) as (λ b. comes_after after (last_of s) ≡ b → cond b (Some s) (first_after after rs) ≡ Some r → comes_after after (last_of r) ≡ true) [
      | true ↦ λ h e. (let same : s ≡ r = cc in ap (λ x. comes_after after (last_of x)) (sym same) ∙ h)
      | false ↦ λ _ e. again e
    ] refl is

-- a dot that isn't after comes not after one that is
not_before : (after : Option Dot) (d e : Dot) → comes_after after d ≡ false → comes_after after e ≡ true → comes_after (Some e) d ≡ false
not_before after d e out in_ =
    elim (comes_after (Some e) d) as (λ b. comes_after (Some e) d ≡ b → b ≡ false) [
      | true ↦ λ h. absurd (false≢true (sym out ∙ after_trans after e d in_ (less_of (dot_cmp e d) h)))
      | false ↦ λ _. refl
    ] refl

all_past : (r : Run) → Bounds r → (rs : List Run) → begins_past (stop r) rs ≡ true → are_maximal rs ≡ true → runs_left (Some (last_of r)) rs ≡ rs
all_past r b [] begins max = refl
all_past r b (s ∷ rs) begins max =
    let p = run_parts s rs max in
    let lt = lt_of (stop r) (start s) begins in
    let le = start_stop s p.bounds in
    let is : comes_after (Some (last_of r)) (last_of s) ≡ true = below_of r.replica r.hi s.replica s.hi b.most p.bounds.most (omega arith) in
    ap (λ t. cond t (s ∷ runs_left (Some (last_of r)) rs) (runs_left (Some (last_of r)) rs)) is
    ∙ ap (λ l. s ∷ l) (later_left (Some (last_of r)) s p.bounds is rs (begins_later rs (stop s) (stop s + 1) (omega arith) p.apart) p.rest)

-- after the first run that is left, the others are
pub one_left : (after : Option Dot) (rs : List Run) → are_maximal rs ≡ true → (r : Run) → first_after after rs ≡ Some r → runs_left after rs ≡ r ∷ runs_left (Some (last_of r)) rs
one_left after [] max r is = (let none : ⊥ = cc in absurd none)
one_left after (s ∷ rs) max r is =
    let p = run_parts s rs max in
    let begins = begins_later rs (stop s) (stop s + 1) (omega arith) p.apart in
    let again = one_left after rs p.rest r in
    let passes = found_passes after rs r in
    elim (comes_after after (last_of s)) as (λ b. comes_after after (last_of s) ≡ b → cond b (Some s) (first_after after rs) ≡ Some r → cond b (s ∷ runs_left after rs) (runs_left after rs) ≡ r ∷ runs_left (Some (last_of r)) (s ∷ rs)) [
      | true ↦ λ h e. (
          let same : s ≡ r = cc in
          let self : runs_left (Some (last_of s)) (s ∷ rs) ≡ runs_left (Some (last_of s)) rs = ap (λ t. cond t (s ∷ runs_left (Some (last_of s)) rs) (runs_left (Some (last_of s)) rs)) (not_itself (last_of s)) in
          let ours : runs_left after rs ≡ rs = later_left after s p.bounds h rs begins p.rest in
          let theirs : runs_left (Some (last_of s)) rs ≡ rs = all_past s p.bounds rs begins p.rest in
          ap (λ l. s ∷ l) (ours ∙ sym theirs ∙ sym self) ∙ ap (λ x. x ∷ runs_left (Some (last_of x)) (s ∷ rs)) same)
      | false ↦ λ h e. again e ∙ ap (λ l. r ∷ l) (sym (ap (λ t. cond t (s ∷ runs_left (Some (last_of r)) rs) (runs_left (Some (last_of r)) rs)) (not_before after (last_of s) (last_of r) h (passes e))))
    ] refl is
