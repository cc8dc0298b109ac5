use Rattle.std.proofs.Common.{◌∙◌}
use Rattle.rds_tree.proofs.Holding.{finds, holds_killed}
use Rattle.rds_tree.proofs.indexing.kill.Goals as goal

pub edit_found-requires : goal.edit_found-requires
edit_found-requires g c = record {
  found = finds c.args.command.now c.args.path.now c.args.replica.now.state.lives c.args.tree.now c.requires.path c.requires.holds;
}

pub returns-clause-holds : goal.returns-clause-holds
returns-clause-holds g c =
    let old = c.args.replica.now in
    holds_killed c.args.command.now c.keys.result.now old.state c.edit_found.new.self.state old.own c.args.tree.now c.cut.new.self (c.keys.ensures.keys ∙ c.requires.path) c.requires.parts c.requires.holds c.cut.ensures c.in_ok-edited.ensures.edited.joined
