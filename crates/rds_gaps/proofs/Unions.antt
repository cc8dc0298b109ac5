-- The steps of a union of runs.
use Rattle.std.proofs.Common.{◌≡◌, ℕ, ◌+◌, ◌-◌, ◌<◌, ◌≤◌, Bool, true, false, ◌||◌, List, [], ◌∷◌, length, get_or, drop}
use Rattle.std.proofs.Common.{refl, sym, ◌∙◌, ap, subst, arith, leb, length-drop}
use Rattle.std.proofs.lemmas.List.{drop_more}
use Rattle.std.proofs.lemmas.Bool.Decides.{nat_tests}
use Rattle.rds_dots.specs.declared.dot.Run.{Run}
use Rattle.rds_dots.specs.Runs.{start, stop, are_maximal}
use Rattle.rds_dots.specs.RunFacts.{Bounds, RunParts, run_parts, spans, has, lt_of, start_stop}
use Rattle.rds_gaps.specs.Added.{addition, last_start, begins_from}
use Rattle.rds_gaps.specs.Operations.{IsUnion}
use Rattle.rds_gaps.proofs.Facts.{le_of, le_by, or_none, or_last}
use Rattle.rds_gaps.proofs.Adds.{maximal-addition, has-addition, last_start-addition}

-- runs made so far, what is left of both lists, and both lists as they were
pub record Merging (out left right l0 r0 : List Run) : Type 0 where
  pub out_are : are_maximal out ≡ true
  pub left_are : are_maximal left ≡ true
  pub right_are : are_maximal right ≡ true
  pub left_later : begins_from (last_start out) left ≡ true
  pub right_later : begins_from (last_start out) right ≡ true
  pub same : (n : ℕ) → (has out n || (has left n || has right n)) ≡ (has l0 n || has r0 n)

from_zero : (rs : List Run) → begins_from 0 rs ≡ true
from_zero [] = refl
from_zero (r ∷ rs) = zero_le (start r)
  where
    zero_le : (n : ℕ) → leb 0 n ≡ true
    zero_le n = grind (arith, nat_tests)

pub begin_merging : (l r : List Run) → are_maximal l ≡ true → are_maximal r ≡ true → Merging [] l r l r
begin_merging l r a b = record { out_are = refl; left_are = a; right_are = b; left_later = from_zero l; right_later = from_zero r; same = λ n. refl }

-- what begins past a run begins from where the runs with it last_start
later_on : (out : List Run) (x : Run) (xs : List Run) → last_start out ≤ start x → RunParts x xs → begins_from (last_start (addition out x)) xs ≡ true
later_on out x [] le p = refl
later_on out x (y ∷ xs) le p =
    let to = last_start-addition out x le in
    let lt = lt_of (stop x + 1) (start y) p.apart in
    let rise = start_stop x p.bounds in
    le_by (last_start (addition out x)) (start y) (omega arith)

from_on : (n m : ℕ) (rs : List Run) → n ≤ m → begins_from m rs ≡ true → begins_from n rs ≡ true
from_on n m [] le h = refl
from_on n m (r ∷ rs) le h = let k = le_of m (start r) h in le_by n (start r) (omega arith)

moved : (o x l r : Bool) → ((o || x) || (l || r)) ≡ (o || ((x || l) || r))
moved true x l r = refl
moved false true l r = refl
moved false false l r = refl

pub merge_left : (out : List Run) (x : Run) (xs right l0 r0 : List Run) → Merging out (x ∷ xs) right l0 r0 → begins_from (start x) right ≡ true → Merging (addition out x) xs right l0 r0
merge_left out x xs right l0 r0 m first =
    let p = run_parts x xs m.left_are in
    let le = le_of (last_start out) (start x) m.left_later in
    record {
      out_are = maximal-addition out x m.out_are p.bounds le;
      left_are = p.rest;
      right_are = m.right_are;
      left_later = later_on out x xs le p;
      right_later = from_on (last_start (addition out x)) (start x) right (last_start-addition out x le) first;
      same = λ n. ap (λ b. b || (has xs n || has right n)) (has-addition out x m.out_are p.bounds le n) ∙ moved (has out n) (spans x n) (has xs n) (has right n) ∙ m.same n;
    }

or_comm : (a b : Bool) → (a || b) ≡ (b || a)
or_comm true true = refl
or_comm true false = refl
or_comm false true = refl
or_comm false false = refl

swapped : {out left right l0 r0 : List Run} → Merging out left right l0 r0 → Merging out right left r0 l0
swapped {out = out} {left = left} {right = right} {l0 = l0} {r0 = r0} m = record {
  out_are = m.out_are;
  left_are = m.right_are;
  right_are = m.left_are;
  left_later = m.right_later;
  right_later = m.left_later;
  same = λ n. ap (λ b. has out n || b) (or_comm (has right n) (has left n)) ∙ m.same n ∙ or_comm (has l0 n) (has r0 n);
}

pub merge_right : (out : List Run) (y : Run) (left ys l0 r0 : List Run) → Merging out left (y ∷ ys) l0 r0 → begins_from (start y) left ≡ true → Merging (addition out y) left ys l0 r0
merge_right out y left ys l0 r0 m first = swapped (merge_left out y ys left r0 l0 (swapped m) first)

-- all is hull in
pub end_merging : (out l0 r0 : List Run) → Merging out [] [] l0 r0 → IsUnion l0 r0 out
end_merging out l0 r0 m = record { maximal = m.out_are; same = λ n. sym (or_none (has out n)) ∙ m.same n }

-- the rest of one list was added
pub end_left : (out left l0 r0 runs : List Run) → Merging out left [] l0 r0 → IsUnion out left runs → IsUnion l0 r0 runs
end_left out left l0 r0 runs m u = record { maximal = u.maximal; same = λ n. u.same n ∙ ap (λ b. has out n || b) (sym (or_none (has left n))) ∙ m.same n }

pub end_right : (out right l0 r0 runs : List Run) → Merging out [] right l0 r0 → IsUnion out right runs → IsUnion l0 r0 runs
end_right out right l0 r0 runs m u = record { maximal = u.maximal; same = λ n. u.same n ∙ m.same n }

pub none_of : (rs : List Run) → length rs ≡ 0 → rs ≡ []
none_of [] e = refl
none_of (r ∷ rs) e = absurd (omega arith)

pub add_step : (rest : List Run) (i : ℕ) (d : Run) (out out' l0 r0 : List Run) → i < length rest → out' ≡ addition out (get_or rest i d) → Merging out (drop i rest) [] l0 r0 → Merging out' (drop (i + 1) rest) [] l0 r0
add_step rest i d out out' l0 r0 lt e m =
    let m' = subst (λ l. Merging out l [] l0 r0) (drop_more rest i d lt) m in
    subst (λ o. Merging o (drop (i + 1) rest) [] l0 r0) (sym e) (merge_left out (get_or rest i d) (drop (i + 1) rest) [] l0 r0 m' refl)

pub add_end : (rest : List Run) (i : ℕ) (out l0 r0 : List Run) → length rest ≤ i → Merging out (drop i rest) [] l0 r0 → IsUnion l0 r0 out
add_end rest i out l0 r0 le m = end_merging out l0 r0 (subst (λ l. Merging out l [] l0 r0) (none_of (drop i rest) (length-drop i rest ∙ sub_zero (length rest) i le)) m)
  where
    sub_zero : (a b : ℕ) → a ≤ b → a - b ≡ 0
    sub_zero a b le = omega arith

pub step_left : (left right out out' l0 r0 : List Run) (x : Run) (xs : List Run) (y : Run) (ys : List Run) → Merging out left right l0 r0 → left ≡ x ∷ xs → right ≡ y ∷ ys → leb (start x) (start y) ≡ true → out' ≡ addition out x → Merging out' xs right l0 r0
step_left left right out out' l0 r0 x xs y ys m e f first o =
    subst (λ q. Merging q xs right l0 r0) (sym o) (merge_left out x xs right l0 r0 (subst (λ l. Merging out l right l0 r0) e m) (subst (λ l. begins_from (start x) l ≡ true) (sym f) first))

not_le : (a b : ℕ) → leb a b ≡ false → leb b a ≡ true
not_le a b h = grind (arith, nat_tests)

pub step_right : (left right out out' l0 r0 : List Run) (x : Run) (xs : List Run) (y : Run) (ys : List Run) → Merging out left right l0 r0 → left ≡ x ∷ xs → right ≡ y ∷ ys → leb (start x) (start y) ≡ false → out' ≡ addition out y → Merging out' left ys l0 r0
step_right left right out out' l0 r0 x xs y ys m e f later o =
    subst (λ q. Merging q left ys l0 r0) (sym o) (merge_right out y left ys l0 r0 (subst (λ l. Merging out left l l0 r0) f m) (subst (λ l. begins_from (start y) l ≡ true) (sym e) (not_le (start x) (start y) later)))

pub out_of_left : (left right out l0 r0 runs : List Run) → Merging out left right l0 r0 → left ≡ [] → IsUnion out right runs → IsUnion l0 r0 runs
out_of_left left right out l0 r0 runs m e u = end_right out right l0 r0 runs (subst (λ l. Merging out l right l0 r0) e m) u

pub out_of_right : (left right out l0 r0 runs : List Run) → Merging out left right l0 r0 → right ≡ [] → IsUnion out left runs → IsUnion l0 r0 runs
out_of_right left right out l0 r0 runs m e u = end_left out left l0 r0 runs (subst (λ l. Merging out left l l0 r0) e m) u

-- a run added behind runs is a union with it
pub added_union : (rs : List Run) (z : Run) → are_maximal rs ≡ true → Bounds z → last_start rs ≤ start z → IsUnion rs (z ∷ []) (addition rs z)
added_union rs z max b le = record { maximal = maximal-addition rs z max b le; same = λ n. has-addition rs z max b le n ∙ or_last (has rs n) (spans z n) }
