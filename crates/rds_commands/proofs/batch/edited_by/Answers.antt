use Rattle.rds_delta.specs.Digested.{ranks_in}
use Rattle.rds_state.specs.Value.{coordinates}
use Rattle.rds_lines.specs.Lines.{lines_in}
use Rattle.rds_commands.proofs.Batches.{kept_lines}
use Rattle.rds_commands.proofs.Changed.{least_against, lines_changed}
use Rattle.rds_commands.proofs.batch.edited_by.Goals as goal

pub returns-clause-edited : goal.returns-clause-edited
returns-clause-edited c =
    kept_lines (lines_in c.args.input.now) c.args.replica c.in_ok-index.index c.edit_lines.new.editor c.into_replica-replica.result c.in_ok-answers.answers.items c.in_ok-index.ensures.ok c.in_ok-answers.ensures.edited
    c.into_replica-replica.ensures

pub returns-clause-changed : goal.returns-clause-changed
returns-clause-changed c =
    let edits = kept_lines (lines_in c.args.input.now) c.args.replica c.in_ok-index.index c.edit_lines.new.editor c.into_replica-replica.result c.in_ok-answers.answers.items c.in_ok-index.ensures.ok c.in_ok-answers.ensures.edited
    c.into_replica-replica.ensures in
    lines_changed (lines_in c.args.input.now) c.args.replica c.into_replica-replica.result c.in_ok-answers.answers.items c.in_ok-delta.delta edits
    (least_against c.into_replica-replica.result.state c.args.replica.state c.state-2.result.now c.state.result.now (coordinates c.in_ok-delta.delta) (ranks_in c.in_ok-before.before) c.in_ok-delta.ensures.ok c.in_ok-before.ensures.ranks c.state-2.ensures.state c.state.ensures.state)
    c.state-2.ensures.fits
