use Rattle.std.proofs.Common.{ap, sym, ◌∙◌, leb}
use Rattle.rds_dots.specs.Runs.{start}
use Rattle.rds_gaps.proofs.Lasts.{last_is_run, last_start_is, none_begins_last}
use Rattle.rds_gaps.proofs.inserting.begins_last.Goals as goal

pub begins_first-requires-clause-run_is : goal.begins_first-requires-clause-run_is
begins_first-requires-clause-run_is c = last_is_run c.args.runs.now c.requires.runs_are c.in-Some.last.now (sym c.in-Some.ensures.value)

pub returns-in-Some : goal.returns-in-Some
returns-in-Some c =
    c.begins_first.ensures ∙ ap (λ n. leb n (start c.args.run.now)) (sym (last_start_is c.args.runs.now c.in-Some.last.now (sym c.in-Some.ensures.value)))

pub returns-in-None : goal.returns-in-None
returns-in-None c = none_begins_last c.args.runs.now (start c.args.run.now) (sym c.in-None.ensures.value)
