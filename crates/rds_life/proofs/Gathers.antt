-- Dots gathered into runs: a set, and the run that is drawn out.
use Rattle.std.proofs.Common.{◌≡◌, ℕ, true, ◌&&◌, ◌||◌, List, [], ◌∷◌, sym, ◌∙◌, ap, arith, eqb, leb}
use Rattle.std.proofs.Math.Bool.{or-false}
use Rattle.std.specs.FinSet as set
use Rattle.std.specs.List.{list_all}
use Rattle.std.specs.Ordering.{eq_by_cmp}
use Rattle.std.proofs.lemmas.Bool.Decides.{nat_tests}
use Rattle.rds_names.specs.Conditions.{and_left, and_right}
use Rattle.rds_dots.specs.declared.dot.Dot.{Dot}
use Rattle.rds_dots.specs.declared.dot.Run.{Run}
use Rattle.rds_dots.specs.Dots.{dot_cmp, Dots, IsRun, is_dot, in_run}
use Rattle.rds_dots.specs.Listed.{lists}
use Rattle.rds_dots.specs.Order.{dots_total, dots_exact}
use Rattle.rds_dots.specs.Sets.{tied_is, dot_limits, contains_list}
use Rattle.rds_life.specs.Gathered.{single}

-- all dots are those of the set, of the run and those that are left
pub record AreGathered (s : Dots) (run : Run) (rest all : List Dot) : Type 0 where
  pub is_run : IsRun run
  pub dots : list_all is_dot rest ≡ true
  pub same : (d : Dot) → lists all d ≡ ((in_run run d || set.contains s d) || lists rest d)

in_single : (a r s x : ℕ) → (eqb a r && eqb x s) ≡ (eqb a r && leb s x && leb x s)
in_single a r s x = grind (arith, nat_tests)

single_run : (d : Dot) → is_dot d ≡ true → IsRun (single d)
single_run d is = let b = dot_limits d is in record { from_one = b.from_one; rises = omega arith; within = b.within }

in_single_run : (d q : Dot) → eq_by_cmp dot_cmp q d ≡ in_run (single d) q
in_single_run d q = tied_is q.replica d.replica q.seq d.seq ∙ in_single q.replica d.replica d.seq q.seq

-- the first dot
pub gathered_first : (s : Dots) (d : Dot) (rest : List Dot) → s ≡ set.empty → list_all is_dot (d ∷ rest) ≡ true → AreGathered s (single d) rest (d ∷ rest)
gathered_first s d rest none all = record {
  is_run = single_run d (and_left (is_dot d) _ all);
  dots = and_right (is_dot d) _ all;
  same = λ q.
      ap (λ b. b || lists rest q) (in_single_run d q ∙ sym (or-false (in_run (single d) q)))
      ∙ ap (λ b. (in_run (single d) q || b) || lists rest q) (sym (ap (λ t. set.contains t q) none ∙ set.contains-empty dot_cmp q));
}

-- none is left
pub gathered_all : (s t : Dots) (run : Run) (rest all : List Dot) → AreGathered s run rest all → rest ≡ [] → ((d : Dot) → set.contains t d ≡ (in_run run d || set.contains s d)) → t ≡ set.from_list all
gathered_all s t run rest all are none put = set.same_set dots_total dots_exact _ _ (λ q.
    put q ∙ sym (or-false (in_run run q || set.contains s q)) ∙ ap (λ l. (in_run run q || set.contains s q) || lists l q) (sym none) ∙ sym (are.same q) ∙ sym (contains_list all q))
