-- Sets with the same runs.
use Rattle.std.proofs.Common.{◌≡◌, ℕ, true, false, not, ◌&&◌, List, ◌∷◌, Option, Some, sym, ◌∙◌, ap, arith, eqb}
use Rattle.std.specs.FinSet as set
use Rattle.std.proofs.lemmas.Bool.Decides.{nat_tests}
use Rattle.rds_dots.specs.declared.dot.Dot.{Dot}
use Rattle.rds_dots.specs.declared.dot.Run.{Run}
use Rattle.rds_dots.specs.Dots.{Dots, is_dot, last_of}
use Rattle.rds_dots.specs.Order.{dots_total, dots_exact}
use Rattle.rds_dots.specs.Runs.{runs_cover, are_maximal, first_after, runs_of}
use Rattle.rds_dots.specs.RunsAfter.{runs_left}
use Rattle.rds_dots.specs.RunsOf.{are_runs}
use Rattle.rds_dots.proofs.RunWalks.{one_left}

-- sets with the same runs are the same
pub same_runs : (s t : Dots) → ((d : Dot) → set.contains s d ≡ true → is_dot d ≡ true) → ((d : Dot) → set.contains t d ≡ true → is_dot d ≡ true) → runs_of s ≡ runs_of t → s ≡ t
same_runs s t p q e = set.same_set dots_total dots_exact s t (λ d. sym ((are_runs s p).same d) ∙ ap (λ rs. runs_cover rs d) e ∙ (are_runs t q).same d)

-- where the first run that is left is the same, so are all that are left, if those after it are
pub same_left : (after : Option Dot) (rs ts : List Run) → are_maximal rs ≡ true → are_maximal ts ≡ true → (r : Run) → first_after after rs ≡ Some r → first_after after ts ≡ Some r → runs_left (Some (last_of r)) rs ≡ runs_left (Some (last_of r)) ts → runs_left after rs ≡ runs_left after ts
same_left after rs ts rm tm r p q e = one_left after rs rm r p ∙ ap (λ l. r ∷ l) e ∙ sym (one_left after ts tm r q)

first_same : (a b p q x y : ℕ) → false ≡ not (eqb a b && (eqb p q && eqb x y)) → a ≡ b
first_same a b p q x y h = grind (arith, nat_tests)

second_same : (a b p q x y : ℕ) → false ≡ not (eqb a b && (eqb p q && eqb x y)) → p ≡ q
second_same a b p q x y h = grind (arith, nat_tests)

third_same : (a b p q x y : ℕ) → false ≡ not (eqb a b && (eqb p q && eqb x y)) → x ≡ y
third_same a b p q x y h = grind (arith, nat_tests)

-- runs that `!=` doesn't tell apart are one
pub one_run_of : (r t : Run) → false ≡ not (eqb r.replica t.replica && (eqb r.lo t.lo && eqb r.hi t.hi)) → r ≡ t
one_run_of r t h i = record {
  replica = first_same r.replica t.replica r.lo t.lo r.hi t.hi h i;
  lo = second_same r.replica t.replica r.lo t.lo r.hi t.hi h i;
  hi = third_same r.replica t.replica r.lo t.lo r.hi t.hi h i;
}
