use Rattle.rds_tree.proofs.EffectMade.{edits_with_delta}
use Rattle.rds_tree.proofs.edit_delta.edit_tree_with_delta.Goals as goal

pub returns-clause-edited : goal.returns-clause-edited
returns-clause-edited g c = edits_with_delta c.args.replica.now c.edit_marked.new.replica c.args.command.now c.in_ok-edited.edited c.in_ok-delta.delta c.in_ok-edited.ensures.edited c.in_ok-delta.ensures.ok c.state-within.ensures.fits
