use Rattle.std.proofs.Common.{length, ◌∷◌, Some, ap, sym, ◌∙◌, arith}
use Rattle.rds_dots.specs.Runs.{runs_of}
use Rattle.rds_dots.specs.RunsAfter.{runs_left}
use Rattle.rds_dots.specs.RunsOf.{are_runs}
use Rattle.rds_dots.proofs.RunWalks.{none_left, one_left}
use Rattle.rds_dots.proofs.walk.RunsIterator.next.Goals as goal

pub returns-in_err-run-clause-steps : goal.returns-in_err-run-clause-steps
returns-in_err-run-clause-steps g c =
    let e = none_left c.self.inside.after (runs_of (g.S.DotSet.contents c.self.inside.set.now)) (sym c.in_err-run.ensures) in
    let left = sym c.self.view_is ∙ e in
    rw c.from_residual.ensures (left, left)

pub returns-clause-steps : goal.returns-clause-steps
returns-clause-steps g c =
    let s = c.self.inside.set.now in
    let rs = runs_of (g.S.DotSet.contents s) in
    let e = one_left c.self.inside.after rs (are_runs (g.S.DotSet.contents s) (g.met.S.DotSet.within s)).maximal c.in_ok-run.run' (sym c.in_ok-run.ensures) in
    sym c.self.view_is ∙ e ∙ ap (λ d. c.in_ok-run.run' ∷ runs_left (Some d) rs) (sym c.last.ensures)

pub returns-clause-goes : goal.returns-clause-goes
returns-clause-goes g c =
    let s = c.self.inside.set.now in
    let rs = runs_of (g.S.DotSet.contents s) in
    let e = one_left c.self.inside.after rs (are_runs (g.S.DotSet.contents s) (g.met.S.DotSet.within s)).maximal c.in_ok-run.run' (sym c.in_ok-run.ensures) in
    let n = ap length (sym c.self.view_is ∙ e ∙ ap (λ d. c.in_ok-run.run' ∷ runs_left (Some d) rs) (sym c.last.ensures)) in
    record { on = λ _. (tt, tt, omega (arith, n)); keeps = tt; rests = λ _. tt }
