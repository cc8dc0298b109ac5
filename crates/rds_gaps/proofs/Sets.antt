-- Unions and differences of runs as sets.
use Rattle.std.proofs.Common.{◌≡◌, ◌≤◌, Bool, true, false, not, ◌&&◌, ◌||◌, List, [], ◌∷◌, Option, None, refl, sym, ◌∙◌}
use Rattle.std.proofs.Common.{ap, slice_get}
use Rattle.std.specs.FinSet as set
use Rattle.rds_dots.specs.declared.dot.Dot.{Dot}
use Rattle.rds_dots.specs.declared.dot.Run.{Run}
use Rattle.rds_dots.specs.Dots.{is_dot, in_run, IsRun}
use Rattle.rds_dots.specs.Order.{dots_total, dots_exact}
use Rattle.rds_dots.specs.Runs.{runs_cover, dot_place, are_maximal, first_after, runs_of}
use Rattle.rds_dots.specs.RunFacts.{Bounds, has, covers_is, maximal_by}
use Rattle.std.proofs.Common.{Result, Ok, Err, OnOk, OnErr}
use Rattle.rds_gaps.specs.Added.{addition}
use Rattle.rds_gaps.specs.Operations.{IsUnion, IsDifference}
use Rattle.rds_gaps.specs.RunSets.{set_of, dots_in_runs, contains-set_of, runs_of-set_of}

and_or : (d a b : Bool) → (d && (a || b)) ≡ ((d && a) || (d && b))
and_or true a b = refl
and_or false a b = refl

and_not : (d a b : Bool) → (d && (a && not b)) ≡ ((d && a) && not (d && b))
and_not true a b = refl
and_not false a b = refl

covers_union : (l r u : List Run) → are_maximal l ≡ true → are_maximal r ≡ true → IsUnion l r u → (d : Dot) → runs_cover u d ≡ (runs_cover l d || runs_cover r d)
covers_union l r u lm rm is d =
    let n = dot_place d.replica d.seq in
    covers_is u is.maximal d ∙ ap (λ b. is_dot d && b) (is.same n) ∙ and_or (is_dot d) (has l n) (has r n)
    ∙ sym (ap (λ b. b || runs_cover r d) (covers_is l lm d) ∙ ap (λ b. (is_dot d && has l n) || b) (covers_is r rm d))

pub set_of-union : (l r u : List Run) → are_maximal l ≡ true → are_maximal r ≡ true → IsUnion l r u → set_of u ≡ set.union (set_of l) (set_of r)
set_of-union l r u lm rm is = set.same_set dots_total dots_exact (set_of u) (set.union (set_of l) (set_of r)) (λ d.
    contains-set_of u d ∙ covers_union l r u lm rm is d
    ∙ sym (set.contains-union dots_total (set_of l) (set_of r) d ∙ ap (λ b. b || set.contains (set_of r) d) (contains-set_of l d) ∙ ap (λ b. runs_cover l d || b) (contains-set_of r d)))

pub set_of-difference : (l r u : List Run) → are_maximal l ≡ true → are_maximal r ≡ true → IsDifference l r u → set_of u ≡ set.difference (set_of l) (set_of r)
set_of-difference l r u lm rm is = set.same_set dots_total dots_exact (set_of u) (set.difference (set_of l) (set_of r)) (λ d.
    let n = dot_place d.replica d.seq in
    contains-set_of u d ∙ covers_is u is.maximal d ∙ ap (λ b. is_dot d && b) (is.same n) ∙ and_not (is_dot d) (has l n) (has r n)
    ∙ sym (set.contains-difference dots_total (set_of l) (set_of r) d ∙ ap (λ b. b && not (set.contains (set_of r) d)) (contains-set_of l d ∙ covers_is l lm d) ∙ ap (λ b. (is_dot d && has l n) && not b) (contains-set_of r d ∙ covers_is r rm d)))

or_comm : (a b : Bool) → (a || (b || false)) ≡ (b || a)
or_comm true true = refl
or_comm true false = refl
or_comm false true = refl
or_comm false false = refl

pub set_of-insert : (old : List Run) (run : Run) (new : List Run) → are_maximal old ≡ true → are_maximal (run ∷ []) ≡ true → IsUnion old (run ∷ []) new → (d : Dot) → set.contains (set_of new) d ≡ (in_run run d || set.contains (set_of old) d)
set_of-insert old run new om rm is d =
    contains-set_of new d ∙ covers_union old (run ∷ []) new om rm is d ∙ or_comm (runs_cover old d) (in_run run d) ∙ ap (λ b. in_run run d || b) (sym (contains-set_of old d))

pub run_bounds : (run : Run) → IsRun run → run.replica ≤ 255 → Bounds run
run_bounds run is small = let a = is.from_one in let b = is.rises in let c = is.within in record { small = small; one = a; rises = b; most = c }

pub one_run : (run : Run) → IsRun run → run.replica ≤ 255 → are_maximal (run ∷ []) ≡ true
one_run run is small = let a = is.from_one in let b = is.rises in let c = is.within in maximal_by run [] (record { small = small; one = a; rises = b; most = c }) refl refl

pub first_of-set_of : (rs : List Run) → are_maximal rs ≡ true → (after : Option Dot) → first_after after rs ≡ first_after after (runs_of (set_of rs))
first_of-set_of rs max after = ap (first_after after) (sym (runs_of-set_of rs max))

pub set_of-none : (rs : List Run) → rs ≡ [] → set_of rs ≡ set.empty
unfolding set_of dots_in_runs
set_of-none rs e = ap set_of e

pub front_of : (rs : List Run) → slice_get rs 0 ≡ first_after None rs
front_of [] = refl
front_of (r ∷ rs) = refl

-- added or left alone, the runs are maximal
pub either_maximal : {T E : Type 0} (r : Result T E) (old new : List Run) (z : Run) → OnOk r (new ≡ addition old z) → OnErr r (new ≡ old) → are_maximal old ≡ true → are_maximal (addition old z) ≡ true → are_maximal new ≡ true
either_maximal (Ok x) old new z a b om am = ap are_maximal a ∙ am
either_maximal (Err x) old new z a b om am = ap are_maximal b ∙ om
