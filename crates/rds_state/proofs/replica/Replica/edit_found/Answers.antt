use Rattle.std.proofs.Common.{length}
use Rattle.rds_state.proofs.EditFits.{edit_fits}
use Rattle.rds_state.proofs.replica.Replica.edit_found.Goals as goal

pub invariant_of-self : goal.invariant_of-self
invariant_of-self g c = record {
  own = c.self.invariant.own;
  fits = edit_fits (length c.self.inside.roster.names) c.self.inside.state c.edit.new.state c.self.inside.own c.args.command.now c.edit.result c.edit.ensures.joined c.edit.ensures.err c.self.invariant.fits c.self.invariant.own;
}
