-- Dots put in front of runs, none of which is passed by them.
use Rattle.std.proofs.Common.{◌≡◌, ℕ, ◌+◌, ◌<◌, ◌≤◌, Bool, true, false, cond, not, ◌&&◌, List, [], ◌∷◌, ◌++◌, length}
use Rattle.std.proofs.Common.{Option, Some, None, slice_get, refl, sym, ◌∙◌, ap, arith, eqb, inl, inr}
use Rattle.std.specs.List.{list_all}
use Rattle.std.specs.Ordering.{is_lt, nat_cmp, ordering_then}
use Rattle.std.proofs.lemmas.Bool.{cases_lt, not-true}
use Rattle.std.proofs.lemmas.Bool.Decides.{nat_tests}
use Rattle.rds_dots.specs.declared.dot.Dot.{Dot}
use Rattle.rds_dots.specs.declared.dot.Run.{Run}
use Rattle.rds_dots.specs.Dots.{first_of, last_of, comes_after, leads_to}
use Rattle.rds_names.specs.Conditions.{and_left, and_right, less_of}
use Rattle.rds_dots.specs.Runs.{put_dot, runs_of_dots, first_after}
use Rattle.rds_dots.proofs.Parts.{all_front, all_back}
use Rattle.rds_dots.proofs.RunWalks.{after_trans}
use Rattle.rds_dots.specs.Drawn.{put_run, put_dots}

begin_drawn : (d : Dot) (rs : List Run) → let one : Run = record { replica = d.replica; lo = d.seq; hi = d.seq } in put_dot d rs ≡ put_run one rs
begin_drawn d [] = refl
begin_drawn d (s ∷ rs) = refl

-- what the first run, and those after it, begin with
pub find_first : (after : Option Dot) (r : Run) (rs ts : List Run) → ts ≡ r ∷ rs → comes_after after (last_of r) ≡ true → Some r ≡ first_after after ts
find_first after r rs ts e is = sym (ap (first_after after) e ∙ ap (λ b. cond b (Some r) (first_after after rs)) is)

find_later : (after : Option Dot) (r : Run) (rs ts : List Run) → ts ≡ r ∷ rs → comes_after after (last_of r) ≡ false → first_after after ts ≡ first_after after rs
find_later after r rs ts e is = ap (first_after after) e ∙ ap (λ b. cond b (Some r) (first_after after rs)) is

-- whether the first of the runs ends no later than the given dot
abbrev ends_by : Option Dot → List Run → Bool
ends_by after [] = true
ends_by after (r ∷ rs) = not (comes_after after (last_of r))

same_number : (a b p q : ℕ) → (eqb a b && eqb p q) ≡ true → a ≡ b
same_number a b p q h = grind (arith, nat_tests)

-- dots that don't come after the given one change nothing there
put_early : (after : Option Dot) (d : Dot) (rs : List Run) → not (comes_after after d) ≡ true → ends_by after rs ≡ true → (ends_by after (put_dot d rs) ≡ true) × (first_after after (put_dot d rs) ≡ first_after after rs)
put_early after d [] early ends =
    let one : Run = record { replica = d.replica; lo = d.seq; hi = d.seq } in
    (early, find_later after one [] (one ∷ []) refl (not-true _ early))
put_early after d (r ∷ rs) early ends =
    let one : Run = record { replica = d.replica; lo = d.seq; hi = d.seq } in
    let long : Run = record { replica = d.replica; lo = d.seq; hi = r.hi } in
    let last : ℕ → Dot = λ replica. record { replica = replica; seq = r.hi } in
    let goal : Bool → Type 0 = λ t. (ends_by after (cond t (long ∷ rs) (one ∷ r ∷ rs)) ≡ true) × (first_after after (cond t (long ∷ rs) (one ∷ r ∷ rs)) ≡ first_after after (r ∷ rs)) in
    elim (eqb d.replica r.replica && eqb (d.seq + 1) r.lo) as (λ t. (eqb d.replica r.replica && eqb (d.seq + 1) r.lo) ≡ t → goal t) [
      | true ↦ λ t. (
          let same : comes_after after (last_of long) ≡ comes_after after (last_of r) = ap (λ n. comes_after after (last n)) (same_number _ _ _ _ t) in
          (ap not same ∙ ends, ap (λ b. cond b (Some long) (first_after after rs)) (same ∙ not-true _ ends) ∙ sym (find_later after r rs (r ∷ rs) refl (not-true _ ends))))
      | false ↦ λ _. (early, find_later after one (r ∷ rs) (one ∷ r ∷ rs) refl (not-true _ early))
    ] refl

put_all_early : (after : Option Dot) (ds : List Dot) (rs : List Run) → list_all (λ d. not (comes_after after d)) ds ≡ true → ends_by after rs ≡ true → (ends_by after (put_dots ds rs) ≡ true) × (first_after after (put_dots ds rs) ≡ first_after after rs)
put_all_early after [] rs early ends = (ends, refl)
put_all_early after (d ∷ ds) rs early ends =
    let again = put_all_early after ds rs (and_right (not (comes_after after d)) _ early) ends in
    let one = put_early after d (put_dots ds rs) (and_left (not (comes_after after d)) _ early) again.0 in
    (one.0, one.1 ∙ again.1)

pub put_dots-append : (ds es : List Dot) (rs : List Run) → put_dots (ds ++ es) rs ≡ put_dots ds (put_dots es rs)
put_dots-append [] es rs = refl
put_dots-append (d ∷ ds) es rs = ap (put_dot d) (put_dots-append ds es rs)

runs_of_dots-append : (ds es : List Dot) → runs_of_dots (ds ++ es) ≡ put_dots ds (runs_of_dots es)
runs_of_dots-append [] es = refl
runs_of_dots-append (d ∷ ds) es = ap (put_dot d) (runs_of_dots-append ds es)

-- a run that the dot before it doesn't lead up to
pub stop_back : (after : Option Dot) (ds : List Dot) (d : Dot) (r : Run) (rs : List Run) → list_all (λ e. not (comes_after after e)) (ds ++ d ∷ []) ≡ true → comes_after after (last_of r) ≡ true → leads_to d (first_of r) ≡ false → first_after after (put_dots (ds ++ d ∷ []) (r ∷ rs)) ≡ Some r
stop_back after ds d r rs early ends isn't =
    let one : Run = record { replica = d.replica; lo = d.seq; hi = d.seq } in
    let long : Run = record { replica = d.replica; lo = d.seq; hi = r.hi } in
    let is_early = and_left (not (comes_after after d)) true (all_back _ ds (d ∷ []) early) in
    ap (first_after after) (put_dots-append ds (d ∷ []) (r ∷ rs) ∙ ap (λ t. put_dots ds (cond t (long ∷ rs) (one ∷ r ∷ rs))) isn't)
    ∙ (put_all_early after ds (one ∷ r ∷ rs) (all_front _ ds (d ∷ []) early) is_early).1
    ∙ find_later after one (r ∷ rs) (one ∷ r ∷ rs) refl (not-true _ is_early)
    ∙ sym (find_first after r rs (r ∷ rs) refl ends)

-- where no dot comes after the given one, no run does
pub none_after : (after : Option Dot) (ds from whole : List Dot) → ds ++ from ≡ whole → length from ≡ 0 → list_all (λ d. not (comes_after after d)) ds ≡ true → None ≡ first_after after (runs_of_dots whole)
none_after after ds [] whole is none early = sym (ap (λ es. first_after after (runs_of_dots es)) (sym is) ∙ ap (first_after after) (runs_of_dots-append ds []) ∙ (put_all_early after ds [] early refl).1)
none_after after ds (e ∷ from) whole is none early = absurd (omega arith)

first_is : (rs : List Run) (r : Run) → slice_get rs 0 ≡ Some r → (ts : List Run) × (rs ≡ r ∷ ts)
first_is [] r is = (let none : ⊥ = cc in absurd none)
first_is (t ∷ ts) r is = (ts, (let same : t ≡ r = cc in ap (λ x. x ∷ ts) same))

below_is : (a s t : ℕ) → s < t → is_lt (ordering_then (nat_cmp a a) (nat_cmp s t)) ≡ true
below_is a s t lt = grind (arith, nat_tests)

-- what comes after a dot is after what that one is after
last_after : (after : Option Dot) (d : Dot) (hi : ℕ) → d.seq ≤ hi → comes_after after d ≡ true → let last : Dot = record { replica = d.replica; seq = hi } in comes_after after last ≡ true
last_after after d hi le h =
    let at : ℕ → Dot = λ n. record { replica = d.replica; seq = n } in
    elim (cases_lt d.seq hi) [
      | inl less ↦ after_trans after d (at hi) h (less_of _ (below_is d.replica d.seq hi less))
      | inr ge ↦ (let same : hi ≡ d.seq = omega arith in ap (λ n. comes_after after (at n)) same ∙ h)
    ]

-- the run of the first dot that comes after the given one, drawn on and back
pub some_after : (after : Option Dot) (ds from whole : List Dot) (d : Dot) (rest : List Dot) (r s : Run) → ds ++ from ≡ whole → from ≡ d ∷ rest → list_all (λ e. not (comes_after after e)) ds ≡ true → list_all (comes_after after) from ≡ true
    → (let one : Run = record { replica = d.replica; lo = d.seq; hi = d.seq } in (first_of r ≡ first_of one) × (one.hi ≤ r.hi) × (slice_get (put_run one (runs_of_dots rest)) 0 ≡ Some r))
    → ((rs : List Run) → list_all (λ e. not (comes_after after e)) ds ≡ true → comes_after after (last_of r) ≡ true → first_after after (put_dots ds (r ∷ rs)) ≡ Some s) → Some s ≡ first_after after (runs_of_dots whole)
some_after after ds from whole d rest r s is begins early late on back =
    let first = first_is _ r on.2 in
    let le = on.1 in
    let here : comes_after after d ≡ true = and_left (comes_after after d) _ (ap (list_all (comes_after after)) (sym begins) ∙ late) in
    let same : r.replica ≡ d.replica = ap (λ (e : Dot). e.replica) on.0 in
    let last : ℕ → Dot = λ n. record { replica = n; seq = r.hi } in
    let ends : comes_after after (last_of r) ≡ true = ap (λ n. comes_after after (last n)) same ∙ last_after after d r.hi le here in
    sym (ap (λ es. first_after after (runs_of_dots es)) (sym is ∙ ap (λ es. ds ++ es) begins) ∙ ap (first_after after) (runs_of_dots-append ds (d ∷ rest) ∙ ap (put_dots ds) (begin_drawn d (runs_of_dots rest) ∙ first.1)) ∙ back first.0 early ends)
