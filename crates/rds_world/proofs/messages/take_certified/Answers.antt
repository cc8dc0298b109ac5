use Rattle.std.proofs.Common.{rules}
use Rattle.rds_state.specs.Ahead.{TakeGives}
use Rattle.rds_codec.proofs.ExchangeLemmas.{taken_as_ever}
use Rattle.rds_world.proofs.messages.take_certified.Goals as goal

pub returns-clause-taken : goal.returns-clause-taken
returns-clause-taken g c =
    let gives : TakeGives c.args.asker.now.state c.args.asker.now.own c.answer.inside.state c.take_with.result =
    taken_as_ever c.args.asker.now.roster c.args.roster c.args.asker.now.state c.args.asker.now.own c.answer.inside.state c.take_with.result c.requires.meet c.take_with.ensures.gives in
    search rules
