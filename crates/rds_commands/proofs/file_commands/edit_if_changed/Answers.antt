use Rattle.std.proofs.Common.{◌∙◌, inl, inr, refl}
use Rattle.std.proofs.lemmas.Result.{err_from_is_err_and}
use Rattle.rds_names.specs.declared.fault.Fault.TheVariants.{Device, Memory}
use Rattle.rds_commands.proofs.Refused.{no_edit, no_replica}
use Rattle.rds_commands.proofs.Told.{not_refused}
use Rattle.rds_commands.proofs.Values.{stands_in}
use Rattle.rds_commands.proofs.file_commands.edit_if_changed.Goals as goal

pub returns-then-is_site-clause-fault : goal.returns-then-is_site-clause-fault
returns-then-is_site-clause-fault g c =
    no_replica c.args.path.now c.args.words.now c.in_ok-command.command c.in_ok-command.ensures Device (inr (inl refl))

pub returns-in_err-opened-clause-fault : goal.returns-in_err-opened-clause-fault
returns-in_err-opened-clause-fault g c =
    let p = err_from_is_err_and c.from_residual-in_err-opened.result c.from_residual-in_err-opened.ensures.1 in
    rw (p.1, p.2) (no_replica c.args.path.now c.args.words.now c.in_ok-command.command c.in_ok-command.ensures c.in_err-opened.field-0.0 c.in_err-opened.ensures.fault)

pub returns-in_err-file-clause-fault : goal.returns-in_err-file-clause-fault
returns-in_err-file-clause-fault g c =
    let p = err_from_is_err_and c.from_residual-in_err-file.result c.from_residual-in_err-file.ensures.1 in
    rw (p.1, p.2) (no_edit c.args.path.now c.args.words.now c.in_ok-command.command c.in_ok-command.ensures c.in_err-file.field-0.0 c.in_ok-opened.opened.kept c.in_err-file.ensures.fault)

pub returns-then-same-clause-edited : goal.returns-then-same-clause-edited
returns-then-same-clause-edited g c = (
  (
    c.in_ok-opened.opened,
    record {
      held = c.in_ok-opened.ensures.held;
      command = c.in_ok-command.command;
      asked = not_refused c.in_ok-command.command Memory c.in_ok-command.ensures;
      stands = stands_in c.in_ok-opened.opened.kept c.state.result.now c.view_of.result.now c.in_ok-command.command c.in_ok-same.same c.in_ok-same.ensures.exact c.if-same.true c.state.ensures.state (c.view_of.ensures.replica ∙ c.kept.ensures);
    },
  ),
  refl,
)
