use Rattle.rds_state.proofs.AheadLemmas.{lacking_ahead}
use Rattle.rds_state.proofs.ahead.seq_ahead.Goals as goal

pub returns : goal.returns
returns g c = lacking_ahead c.args.lives.now c.args.delta.now (g.S.DotSet.contents c.seen.result.now) (g.S.DotSet.contents c.seen-2.result.now) c.args.own c.seen.ensures c.seen-2.ensures c.first_lacking.result c.first_lacking.ensures
