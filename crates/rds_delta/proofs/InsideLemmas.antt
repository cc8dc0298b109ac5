-- One set lies inside another where the other has all of its runs.
use Rattle.std.proofs.Common.{◌≡◌, true, false, ◌||◌, List, [], ◌∷◌, refl, sym, ◌∙◌, ap}
use mathlib.Core.Bool.{false≢true}
use Rattle.std.specs.FinSet as set
use Rattle.std.proofs.lemmas.Bool.{or_left, or_right}
use Rattle.rds_dots.specs.declared.dot.Dot.{Dot}
use Rattle.rds_dots.specs.declared.dot.Run.{Run}
use Rattle.rds_dots.specs.Dots.{Dots, IsRun, in_run}
use Rattle.rds_dots.specs.Runs.{AreRuns, are_maximal, runs_cover}
use Rattle.rds_dots.specs.RunFacts.{run_parts}
use Rattle.rds_delta.specs.Digested.{IsInside}

-- runs of the first set, all of whose other dots the second has
pub record AreLeft (s t : Dots) (rs : List Run) : Type 0 where
  pub maximal : are_maximal rs ≡ true
  pub part : (d : Dot) → runs_cover rs d ≡ true → set.contains s d ≡ true
  pub others : (d : Dot) → set.contains s d ≡ true → runs_cover rs d ≡ false → set.contains t d ≡ true

-- a run that the second set has
abbrev pub HasRun : Dots → Run → Type 0
HasRun t r = (d : Dot) → in_run r d ≡ true → set.contains t d ≡ true

module _ (s t : Dots) where
  pub all_left : (rs : List Run) → AreRuns s rs → AreLeft s t rs
  all_left rs are = record { maximal = are.maximal; part = λ d h. sym (are.same d) ∙ h; others = λ d h none. absurd (false≢true (sym none ∙ are.same d ∙ h)) }

  pub none_left : AreLeft s t [] → IsInside s t
  none_left left = record { each_dot = λ d h. left.others d h refl }

  module _ (r : Run) (rs : List Run) (left : AreLeft s t (r ∷ rs)) where
    pub first_is_run : IsRun r
    first_is_run = let b = (run_parts r rs left.maximal).bounds in record { from_one = b.one; rises = b.rises; within = b.most }

    pub first_inside : IsInside s t → HasRun t r
    first_inside inside = λ d h. inside.each_dot d (left.part d (or_left (in_run r d) (runs_cover rs d) h))

    pub fewer_left : HasRun t r → AreLeft s t rs
    fewer_left has = record {
      maximal = (run_parts r rs left.maximal).rest;
      part = λ d h. left.part d (or_right (in_run r d) (runs_cover rs d) h);
      others = λ d h none. elim (in_run r d) as (λ b. in_run r d ≡ b → set.contains t d ≡ true) [
        | true ↦ λ is. has d is
        | false ↦ λ isn't. left.others d h (ap (λ b. b || runs_cover rs d) isn't ∙ none)
      ] refl;
    }
