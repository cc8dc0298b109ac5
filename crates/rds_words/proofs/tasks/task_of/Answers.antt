use Rattle.std.proofs.Common.{◌∙◌, ap}
use Rattle.std.proofs.lemmas.Result.{err_from_is_err_and}
use Rattle.rds_words.specs.Task.{words_in}
use Rattle.rds_words.proofs.CommandWords.{is_memory}
use Rattle.rds_words.proofs.NamedTasks.{is_edit, is_join, is_sim}
use Rattle.rds_words.proofs.tasks.task_of.Goals as goal

pub returns-in_err-matches-clause-join : goal.returns-in_err-matches-clause-join
returns-in_err-matches-clause-join g c =
    let p = err_from_is_err_and c.from_residual.result c.from_residual.ensures.1 in
    λ names. rw (p.1, p.2) (is_memory _ c.in_err-matches.field-0.0 names.0 c.in_err-matches.ensures.kinds)

pub returns-in_err-matches-clause-sim : goal.returns-in_err-matches-clause-sim
returns-in_err-matches-clause-sim g c =
    let p = err_from_is_err_and c.from_residual.result c.from_residual.ensures.1 in
    λ names. rw (p.1, p.2) (is_memory _ c.in_err-matches.field-0.0 names.0 c.in_err-matches.ensures.kinds)

pub returns-clause-join : goal.returns-clause-join
returns-clause-join g c = λ names. is_join c.in_ok-named_task.field-0 (c.in_ok-named_task.ensures ∙ ap words_in c.in_ok-matches.ensures.rows ∙ names.1)

pub returns-clause-sim : goal.returns-clause-sim
returns-clause-sim g c = λ names. is_sim c.in_ok-named_task.field-0 (c.in_ok-named_task.ensures ∙ ap words_in c.in_ok-matches.ensures.rows ∙ names.1)

pub returns-in_err-matches-clause-edit : goal.returns-in_err-matches-clause-edit
returns-in_err-matches-clause-edit g c =
    let p = err_from_is_err_and c.from_residual.result c.from_residual.ensures.1 in
    λ file names. rw (p.1, p.2) (is_memory _ c.in_err-matches.field-0.0 names.0 c.in_err-matches.ensures.kinds)

pub returns-clause-edit : goal.returns-clause-edit
returns-clause-edit g c = λ file names. is_edit file c.in_ok-named_task.field-0 (c.in_ok-named_task.ensures ∙ ap words_in c.in_ok-matches.ensures.rows ∙ names.1)
