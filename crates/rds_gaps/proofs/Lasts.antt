-- The last of a list of runs, by its place.
use Rattle.std.proofs.Common.{◌≡◌, ℕ, suc, zero, ◌+◌, ◌-◌, ◌<◌, ◌≤◌, true, false, cond, List, [], ◌∷◌, ◌++◌, length}
use Rattle.std.proofs.Common.{get_or, refl, sym, ◌∙◌, ap, arith, leb, ltb, slice_set, slice_get, Some, None}
use Rattle.std.proofs.lemmas.Option.{slice_get_within, slice_get-get_or}
use Rattle.rds_dots.specs.declared.dot.Run.{Run}
use Rattle.rds_dots.specs.Runs.{start, stop, is_run, are_maximal}
use Rattle.rds_dots.specs.RunFacts.{run_parts, is_run_by, lt_by}
use Rattle.rds_gaps.specs.Added.{stretch_of, addition, added_behind, last_start, last_start_behind}
use Rattle.rds_gaps.proofs.Facts.{not_lt, le_by}

pub run_at : (rs : List Run) → are_maximal rs ≡ true → (d : Run) (i : ℕ) → i < length rs → is_run (get_or rs i d) ≡ true
run_at [] max d i lt = absurd (omega arith)
run_at (r ∷ rs) max d zero lt = is_run_by r (run_parts r rs max).bounds
run_at (r ∷ rs) max d (suc i) lt = run_at rs (run_parts r rs max).rest d i (omega arith)

final : Run → List Run → Run
final r [] = r
final r (s ∷ rs) = final s rs

get-final : (r : Run) (rs : List Run) (d : Run) → get_or (r ∷ rs) (length rs) d ≡ final r rs
unfolding final
get-final r [] d = refl
get-final r (s ∷ rs) d = get-final s rs d

push_behind : (r : Run) (rs : List Run) (z : Run) → ltb (stop (final r rs) + 1) (start z) ≡ true → (r ∷ rs) ++ z ∷ [] ≡ added_behind r rs z
unfolding final
push_behind r [] z is = ap (λ b. cond b (r ∷ z ∷ []) (stretch_of r z ∷ [])) (sym is)
push_behind r (s ∷ rs) z is = ap (λ l. r ∷ l) (push_behind s rs z is)

set_behind : (r : Run) (rs : List Run) (z : Run) → ltb (stop (final r rs) + 1) (start z) ≡ false → slice_set (r ∷ rs) (length rs) (stretch_of (final r rs) z) ≡ added_behind r rs z
unfolding final
set_behind r [] z is = ap (λ b. cond b (r ∷ z ∷ []) (stretch_of r z ∷ [])) (sym is)
set_behind r (s ∷ rs) z is = ap (λ l. r ∷ l) (set_behind s rs z is)

set_final : (r : Run) (rs : List Run) → slice_set (r ∷ rs) (length rs) (final r rs) ≡ r ∷ rs
unfolding final
set_final r [] = refl
set_final r (s ∷ rs) = ap (λ l. r ∷ l) (set_final s rs)

before_end : (r : Run) (rs : List Run) → length (r ∷ rs) - 1 ≡ length rs
before_end r rs = omega arith

last_is : (r : Run) (rs : List Run) (q : Run) → q ≡ get_or (r ∷ rs) (length (r ∷ rs) - 1) q → q ≡ final r rs
last_is r rs q e = e ∙ ap (λ i. get_or (r ∷ rs) i q) (before_end r rs) ∙ get-final r rs q

pub push_added : (rs : List Run) (z q : Run) → 0 < length rs → q ≡ get_or rs (length rs - 1) q → ltb (stop q + 1) (start z) ≡ true → rs ++ z ∷ [] ≡ addition rs z
push_added [] z q lt e is = absurd (omega arith)
push_added (r ∷ rs) z q lt e is = push_behind r rs z (ap (λ x. ltb (stop x + 1) (start z)) (sym (last_is r rs q e)) ∙ is)

pub set_added : (rs : List Run) (z q : Run) → 0 < length rs → q ≡ get_or rs (length rs - 1) q → ltb (stop q + 1) (start z) ≡ false → slice_set rs (length rs - 1) (stretch_of q z) ≡ addition rs z
set_added [] z q lt e is = absurd (omega arith)
set_added (r ∷ rs) z q lt e is =
    ap (λ i. slice_set (r ∷ rs) i (stretch_of q z)) (before_end r rs) ∙ ap (λ x. slice_set (r ∷ rs) (length rs) (stretch_of x z)) (last_is r rs q e)
    ∙ set_behind r rs z (ap (λ x. ltb (stop x + 1) (start z)) (sym (last_is r rs q e)) ∙ is)

pub same_added : (rs : List Run) (z q : Run) → 0 < length rs → q ≡ get_or rs (length rs - 1) q → ltb (stop q + 1) (start z) ≡ false → stretch_of q z ≡ q → rs ≡ addition rs z
same_added [] z q lt e is all = absurd (omega arith)
same_added (r ∷ rs) z q lt e is all =
    sym (set_final r rs) ∙ ap (λ x. slice_set (r ∷ rs) (length rs) x) (sym (last_is r rs q e) ∙ sym all)
    ∙ ap (λ x. slice_set (r ∷ rs) (length rs) (stretch_of x z)) (last_is r rs q e) ∙ set_behind r rs z (ap (λ x. ltb (stop x + 1) (start z)) (sym (last_is r rs q e)) ∙ is)

pub added_to_none : (rs : List Run) (z : Run) → length rs ≡ 0 → rs ++ z ∷ [] ≡ addition rs z
added_to_none [] z e = refl
added_to_none (r ∷ rs) z e = absurd (omega arith)

longer_is : (q z : Run) → q.hi < z.hi → let long : Run = record { replica = q.replica; lo = q.lo; hi = z.hi } in long ≡ stretch_of q z
longer_is q z lt = let long : Run = record { replica = q.replica; lo = q.lo; hi = z.hi } in ap (λ b. cond b long q) (sym (lt_by q.hi z.hi lt))

pub set_longer : (rs : List Run) (z q : Run) (n : ℕ) → n ≡ length rs → 0 < n → q ≡ get_or rs (n - 1) q → false ≡ ltb (stop q + 1) (start z) → q.hi < z.hi → let long : Run = record { replica = q.replica; lo = q.lo; hi = z.hi } in slice_set rs (n - 1) long ≡ addition rs z
set_longer rs z q n len lt e touch longer =
    let long : Run = record { replica = q.replica; lo = q.lo; hi = z.hi } in
    ap (λ m. slice_set rs (m - 1) long) len ∙ ap (λ v. slice_set rs (length rs - 1) v) (longer_is q z longer)
    ∙ set_added rs z q (omega arith) (e ∙ ap (λ m. get_or rs (m - 1) q) len) (sym touch)

pub same_inside : (rs : List Run) (z q : Run) (n : ℕ) → n ≡ length rs → 0 < n → q ≡ get_or rs (n - 1) q → false ≡ ltb (stop q + 1) (start z) → z.hi ≤ q.hi → rs ≡ addition rs z
same_inside rs z q n len lt e touch le =
    let long : Run = record { replica = q.replica; lo = q.lo; hi = z.hi } in
    same_added rs z q (omega arith) (e ∙ ap (λ m. get_or rs (m - 1) q) len) (sym touch) (ap (λ b. cond b long q) (not_lt q.hi z.hi le))

pub push_apart : (rs : List Run) (z q : Run) (n : ℕ) → n ≡ length rs → 0 < n → q ≡ get_or rs (n - 1) q → true ≡ ltb (stop q + 1) (start z) → rs ++ z ∷ [] ≡ addition rs z
push_apart rs z q n len lt e apart = push_added rs z q (omega arith) (e ∙ ap (λ m. get_or rs (m - 1) q) len) (sym apart)

start-final : (r : Run) (rs : List Run) → last_start_behind r rs ≡ start (final r rs)
unfolding final
start-final r [] = refl
start-final r (s ∷ rs) = start-final s rs

last_at : (rs : List Run) (q : Run) → slice_get rs (length rs - 1) ≡ Some q → q ≡ get_or rs (length rs - 1) q
last_at [] q is = absurd (let none : ⊥ = cc in none)
last_at (r ∷ rs) q is = let e = slice_get-get_or (r ∷ rs) (length (r ∷ rs) - 1) q (omega arith) in cc (e, is)

-- the last of the runs
pub last_is_run : (rs : List Run) → are_maximal rs ≡ true → (q : Run) → slice_get rs (length rs - 1) ≡ Some q → is_run q ≡ true
last_is_run rs max q is = let within = slice_get_within rs (length rs - 1) q is in ap is_run (last_at rs q is) ∙ run_at rs max q (length rs - 1) within

pub last_start_is : (rs : List Run) (q : Run) → slice_get rs (length rs - 1) ≡ Some q → last_start rs ≡ start q
last_start_is [] q is = absurd (let none : ⊥ = cc in none)
last_start_is (r ∷ rs) q is = start-final r rs ∙ ap start (sym (last_is r rs q (last_at (r ∷ rs) q is)))

pub none_begins_last : (rs : List Run) (n : ℕ) → slice_get rs (length rs - 1) ≡ None → true ≡ leb (last_start rs) n
none_begins_last [] n is = sym (le_by 0 n (omega arith))
none_begins_last (r ∷ rs) n is = (let e = slice_get-get_or (r ∷ rs) (length (r ∷ rs) - 1) r (omega arith) in let none : ⊥ = cc in absurd none)
