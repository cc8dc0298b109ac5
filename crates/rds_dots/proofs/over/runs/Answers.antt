use Rattle.std.proofs.Common.{◌∙◌, sym, subst}
use Rattle.rds_dots.specs.Runs.{runs_of}
use Rattle.rds_dots.specs.RunsOf.{AreRuns, are_runs, runs_are}
use Rattle.rds_dots.proofs.RunWalks.{all_left}
use Rattle.rds_dots.proofs.over.runs.Goals as goal

pub returns-clause-all : goal.returns-clause-all
returns-clause-all g c = all_left (runs_of (g.S.DotSet.contents c.args.set.now))

pub returns-clause-maximal : goal.returns-clause-maximal
returns-clause-maximal g c =
    let s = g.S.DotSet.contents c.args.set.now in
    subst (AreRuns s) (sym (all_left (runs_of s))) (are_runs s (g.met.S.DotSet.within c.args.set.now))

pub returns-clause-unique : goal.returns-clause-unique
returns-clause-unique g c = λ rs are.
    let s = g.S.DotSet.contents c.args.set.now in
    sym (all_left (runs_of s) ∙ runs_are s rs are)
