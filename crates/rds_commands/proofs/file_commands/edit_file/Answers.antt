use Rattle.std.proofs.lemmas.Result.{err_from_is_err_and}
use Rattle.rds_names.specs.declared.fault.Fault.TheVariants.{Memory}
use Rattle.rds_words.proofs.OneMeaning.{why_no_command}
use Rattle.rds_commands.proofs.Replaced.{edits_file}
use Rattle.rds_commands.proofs.Refused.{no_edit, no_replica, not_both}
use Rattle.rds_commands.proofs.Told.{not_refused}
use Rattle.rds_commands.proofs.file_commands.edit_file.Goals as goal

pub returns-in_err-command-clause-words : goal.returns-in_err-command-clause-words
returns-in_err-command-clause-words g c =
    let p = err_from_is_err_and c.from_residual.result c.from_residual.ensures.1 in
    λ fault due. why_no_command c.args.words.now c.in_err-command.field-0.0 p.0 fault c.from_residual.result c.in_err-command.ensures p.1 p.2 due

pub returns-in_err-opened-clause-fault : goal.returns-in_err-opened-clause-fault
returns-in_err-opened-clause-fault g c =
    let p = err_from_is_err_and c.from_residual-in_err-opened.result c.from_residual-in_err-opened.ensures.1 in
    rw (p.1, p.2) (no_replica c.args.path.now c.args.words.now c.in_ok-command.command c.in_ok-command.ensures c.in_err-opened.field-0.0 c.in_err-opened.ensures.fault)

pub returns-in_err-done-clause-fault : goal.returns-in_err-done-clause-fault
returns-in_err-done-clause-fault g c =
    let p = err_from_is_err_and c.from_residual-in_err-done.result c.from_residual-in_err-done.ensures.1 in
    rw (p.1, p.2) (no_edit c.args.path.now c.args.words.now c.in_ok-command.command c.in_ok-command.ensures c.in_err-done.field-0.0 c.in_ok-opened.opened.kept c.in_err-done.ensures.fault)

pub returns-clause-edited : goal.returns-clause-edited
returns-clause-edited g c =
    edits_file c.args.path.now c.args.words.now c.in_ok-command.command c.in_ok-opened.opened c.in_ok-done.done.file c.in_ok-done.done.answer c.in_ok-opened.ensures.held (not_refused c.in_ok-command.command Memory c.in_ok-command.ensures)
    c.in_ok-done.ensures.path c.in_ok-done.ensures.before c.in_ok-done.ensures.due c.in_ok-done.ensures.edited

pub returns-in_err-opened-clause-words : goal.returns-in_err-opened-clause-words
returns-in_err-opened-clause-words g c = λ fault due. not_both c.args.path.now c.args.words.now c.in_ok-command.command c.in_ok-command.ensures fault due

pub returns-in_err-done-clause-words : goal.returns-in_err-done-clause-words
returns-in_err-done-clause-words g c = λ fault due. not_both c.args.path.now c.args.words.now c.in_ok-command.command c.in_ok-command.ensures fault due

pub returns-clause-words : goal.returns-clause-words
returns-clause-words g c = λ fault due. not_both c.args.path.now c.args.words.now c.in_ok-command.command c.in_ok-command.ensures fault due
