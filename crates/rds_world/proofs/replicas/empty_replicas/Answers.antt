use Rattle.std.proofs.Common.{rules, ◌≡◌, subst, length}
use Rattle.rds_world.specs.Stands.{AreNew}
use Rattle.rds_world.proofs.Openings.{more_new, none_new}
use Rattle.rds_world.proofs.replicas.empty_replicas.Goals as goal

pub making-init : goal.making-init
making-init g c = (none_new c.args.roster.now c.new-memory.result.items c.new-memory.ensures.items, none_new c.args.roster.now c.new-kept.result.items c.new-kept.ensures.items)

pub making-preserved : goal.making-preserved
making-preserved g c = (
  more_new c.args.roster.now c.making.memory.items c.push-in-making.new.self.items c.in_ok-index.index c.making.number c.making.invariant.0 c.in_ok-index.ensures.memory c.in_ok-push-2.ensures.items,
  more_new c.args.roster.now c.making.kept.items c.push.new.self.items c.in_ok-index.empty c.making.number c.making.invariant.1 c.in_ok-index.ensures.kept c.in_ok-push.ensures.items,
)

pub returns-clause-memory : goal.returns-clause-memory
returns-clause-memory g c =
    let all : c.making.number ≡ length c.args.roster.now.names = search rules in
    subst (AreNew c.args.roster.now c.making.memory.items) all c.making.invariant.0

pub returns-clause-kept : goal.returns-clause-kept
returns-clause-kept g c =
    let all : c.making.number ≡ length c.args.roster.now.names = search rules in
    subst (AreNew c.args.roster.now c.making.kept.items) all c.making.invariant.1
