use Rattle.std.proofs.Common.{inl, inr}
use Rattle.std.proofs.lemmas.Result.{err_from_is_err_and}
use Rattle.rds_lines.specs.Lines.{lines_in}
use Rattle.rds_commands.proofs.Batches.{edits_file_by}
use Rattle.rds_commands.proofs.batch.edit_file_by.Goals as goal

pub returns-in_err-opened-clause-fault : goal.returns-in_err-opened-clause-fault
returns-in_err-opened-clause-fault g c =
    let p = err_from_is_err_and c.from_residual.result c.from_residual.ensures.1 in
    rw (p.1, p.2) (inl c.in_err-opened.ensures.fault)

pub returns-in_err-done-clause-fault : goal.returns-in_err-done-clause-fault
returns-in_err-done-clause-fault g c =
    let p = err_from_is_err_and c.from_residual-in_err-done.result c.from_residual-in_err-done.ensures.1 in
    rw (p.1, p.2) (inr (c.in_ok-opened.opened.kept, c.in_err-done.ensures.fault))

pub returns-clause-edited : goal.returns-clause-edited
returns-clause-edited g c =
    edits_file_by c.args.path.now (lines_in c.args.input.now) c.in_ok-opened.opened c.in_ok-done.done.file c.in_ok-done.done.answers.items c.in_ok-opened.ensures.held c.in_ok-done.ensures.path
    c.in_ok-done.ensures.before c.in_ok-done.ensures.edited
