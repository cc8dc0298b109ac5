-- Runs as a set of dots.
use Rattle.std.proofs.Common.{◌≡◌, ℕ, ◌+◌, ◌-◌, true, ◌&&◌, ◌||◌, List, [], ◌∷◌, ◌++◌, refl, sym, ◌∙◌, ap, arith, eqb}
use Rattle.std.proofs.Common.{leb}
use Rattle.std.specs.Ordering.{eq_by_cmp}
use Rattle.std.specs.FinSet as set
use Rattle.std.proofs.lemmas.Bool.Decides.{nat_tests}
use Rattle.std.proofs.lemmas.List.Folds.{list_any-append}
use Rattle.rds_dots.specs.declared.dot.Dot.{Dot}
use Rattle.rds_dots.specs.declared.dot.Run.{Run}
use Rattle.rds_dots.specs.Dots.{Dots, dot_cmp, is_dot, in_run}
use Rattle.rds_dots.specs.Listed.{lists, dots_from}
use Rattle.rds_dots.specs.Sets.{contains_list, lists-dots_from}
use Rattle.rds_dots.specs.Runs.{runs_cover, are_maximal, runs_of}
use Rattle.rds_dots.specs.RunsOf.{covered_is_dot, runs_are}

-- the dots of the runs, one after another
unfoldable pub dots_in_runs : List Run → List Dot
dots_in_runs [] = []
dots_in_runs (r ∷ rs) = dots_from r.replica r.lo (r.hi + 1 - r.lo) ++ dots_in_runs rs

-- the set of the dots of the runs
unfoldable pub set_of : List Run → Dots
set_of rs = set.from_list (dots_in_runs rs)

-- counted from its first dot, a run ends with its last
bounds : (a r s lo hi : ℕ) → (eqb a r && (leb lo s && leb (s + 1) (lo + (hi + 1 - lo)))) ≡ (eqb a r && leb lo s && leb s hi)
bounds a r s lo hi = grind (arith, nat_tests)

-- the list has the dots of the runs
pub lists-dots_of : (rs : List Run) (d : Dot) → lists (dots_in_runs rs) d ≡ runs_cover rs d
unfolding dots_in_runs
lists-dots_of [] d = refl
lists-dots_of (r ∷ rs) d =
    list_any-append (eq_by_cmp dot_cmp d) (dots_from r.replica r.lo (r.hi + 1 - r.lo)) (dots_in_runs rs)
    ∙ ap (λ b. b || lists (dots_in_runs rs) d) (lists-dots_from r.replica r.lo (r.hi + 1 - r.lo) d ∙ bounds d.replica r.replica d.seq r.lo r.hi)
    ∙ ap (λ b. in_run r d || b) (lists-dots_of rs d)

-- the set has the dots of the runs
pub contains-set_of : (rs : List Run) (d : Dot) → set.contains (set_of rs) d ≡ runs_cover rs d
unfolding set_of
contains-set_of rs d = contains_list (dots_in_runs rs) d ∙ lists-dots_of rs d

-- and these are dots
pub within_runs : (rs : List Run) → are_maximal rs ≡ true → (d : Dot) → set.contains (set_of rs) d ≡ true → is_dot d ≡ true
within_runs rs max d h = covered_is_dot rs max d (sym (contains-set_of rs d) ∙ h)

-- and the runs are its runs
pub runs_of-set_of : (rs : List Run) → are_maximal rs ≡ true → runs_of (set_of rs) ≡ rs
runs_of-set_of rs max = runs_are (set_of rs) rs (record { maximal = max; same = λ d. sym (contains-set_of rs d) })
