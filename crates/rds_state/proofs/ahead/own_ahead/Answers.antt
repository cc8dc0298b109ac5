use Rattle.std.proofs.Common.{None, subst}
use Rattle.rds_life.specs.Life.{Lived}
use Rattle.rds_counts.specs.Counted.{Counted, number}
use Rattle.rds_state.specs.Ahead.{SeqAhead, NumberAhead}
use Rattle.rds_state.proofs.AheadLemmas.{ahead_of_numbers}
use Rattle.rds_state.proofs.ahead.own_ahead.Goals as goal

pub returns-in-None : goal.returns-in-None
returns-in-None g c =
    let own = c.args.own in
    let answer = c.number_above.result in
    let knows = subst (λ (l : Lived). SeqAhead c.args.state.now.lives own l None) c.lives-2.ensures (subst (λ (l : Lived). SeqAhead l own c.lives-2.result.now None) c.lives.ensures c.in-None.ensures) in
    let ahead = subst (λ (m : Counted). NumberAhead (number c.args.state.now.counts) own (number m) answer) c.counts-in-None.ensures (subst (λ (m : Counted). NumberAhead (number m) own (number c.counts-in-None.result.now) answer) c.counts.ensures c.number_above.ensures) in
    ahead_of_numbers c.args.state.now own c.args.delta.now knows answer ahead
