use Rattle.std.proofs.Common.{ap, sym, ◌∙◌}
use Rattle.rds_dots.specs.Runs.{first_after, runs_of_dots}
use Rattle.rds_dots.specs.RunsOf.{list_runs}
use Rattle.rds_dots.proofs.list_set.ListSetDotSet.run_after.Goals as goal

pub returns : goal.returns
returns c =
    let s = c.args.self.now in
    c.run_after.ensures ∙ ap (λ ds. first_after c.args.after (runs_of_dots ds)) c.deref.ensures.value ∙ ap (first_after c.args.after) (sym (list_runs s.dots.items s.ascending s.are_dots))
