use Rattle.std.proofs.Common.{sym, subst}
use Rattle.rds_life.specs.Life.{live_rows}
use Rattle.rds_state.specs.Fits.{ReplicaValue}
use Rattle.rds_tree.specs.Growing.{Holds}
use Rattle.rds_tree.proofs.Holding.{either_way, holds_raised, raise_covers, raise_parts}
use Rattle.rds_tree.proofs.indexing.raise.Goals as goal

pub returns-clause-holds : goal.returns-clause-holds
returns-clause-holds g c =
    let command = c.args.command.now in
    let old = c.args.replica.now in
    let tree = c.args.tree.now in
    either_way c.edit_by.result c.edit_by.ensures.edited.joined c.edit_by.ensures.err
    (λ joins. holds_raised command old.state c.edit_by.new.self.state old.own tree (raise_parts command c.requires.raise) (raise_covers command c.requires.raise) c.requires.holds joins)
    (λ same. subst (λ (v : ReplicaValue). Holds (live_rows v.state.lives) tree) (sym same) c.requires.holds)
