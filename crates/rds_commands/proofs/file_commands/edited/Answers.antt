use Rattle.std.proofs.Common.{rules}
use Rattle.rds_commands.proofs.Changed.{edited_changed, edited_told}
use Rattle.rds_commands.proofs.file_commands.edited.Goals as goal

pub returns-clause-edited : goal.returns-clause-edited
returns-clause-edited g c =
    edited_told c.args.replica.now c.edit_with_delta.new.replica c.args.command.now c.in_ok-edited.edited c.in_ok-edited.delta c.in_ok-edited.ensures c.roster.result.now c.of_edit-answer.result c.roster.ensures c.of_edit-answer.ensures

pub returns-clause-changed : goal.returns-clause-changed
returns-clause-changed g c =
    edited_changed c.args.replica.now c.edit_with_delta.new.replica c.args.command.now c.in_ok-edited.edited c.in_ok-edited.delta c.in_ok-edited.ensures

pub returns-in_err-edited-clause-refusal : goal.returns-in_err-edited-clause-refusal
returns-in_err-edited-clause-refusal g c = search rules steps 1000000
