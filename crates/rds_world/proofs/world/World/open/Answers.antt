use Rattle.std.proofs.Common.{ap, inl, length, subst, sym}
use Rattle.rds_world.specs.Stands.{AreNew}
use Rattle.rds_world.proofs.Openings.{none_new}
use Rattle.rds_world.proofs.world.World.open.Goals as goal

pub opened-requires-in-Err-clause-memory : goal.opened-requires-in-Err-clause-memory
opened-requires-in-Err-clause-memory g c =
    subst (AreNew c.args.roster c.new.result.items) (sym (ap length c.new.ensures.items)) (none_new c.args.roster c.new.result.items c.new.ensures.items)

pub opened-requires-in-Err-clause-kept : goal.opened-requires-in-Err-clause-kept
opened-requires-in-Err-clause-kept g c =
    subst (AreNew c.args.roster c.new-in-Err.result.items) (sym (ap length c.new.ensures.items)) (none_new c.args.roster c.new-in-Err.result.items c.new-in-Err.ensures.items)

pub opened-requires-in-Err-clause-whole : goal.opened-requires-in-Err-clause-whole
opened-requires-in-Err-clause-whole g c = inl (ap length c.new.ensures.items)
