use Rattle.rds_world.specs.Stored.{WorldValue}
use Rattle.rds_world.proofs.Openings.{stands_start, start_world}
use Rattle.rds_world.proofs.world.World.opened.Goals as goal

pub invariant_of-result : goal.invariant_of-result
invariant_of-result g c =
    let v : WorldValue = record { roster = c.args.roster; memory = c.args.memory.items; kept = c.args.kept.items; asks = c.new.result.items; answers = c.new-2.result.items } in
    start_world v c.requires.memory c.requires.kept c.requires.whole c.new.ensures.items c.new-2.ensures.items

pub returns-clause-start : goal.returns-clause-start
returns-clause-start g c =
    let v : WorldValue = record { roster = c.args.roster; memory = c.args.memory.items; kept = c.args.kept.items; asks = c.new.result.items; answers = c.new-2.result.items } in
    stands_start v c.requires.memory c.requires.kept c.requires.whole c.new.ensures.items c.new-2.ensures.items
