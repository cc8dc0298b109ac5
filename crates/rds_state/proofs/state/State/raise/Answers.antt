use Rattle.rds_counts.specs.Counted.{number, place}
use Rattle.rds_counts.specs.declared.row.Which.TheVariants.{P, N}
use Rattle.rds_state.proofs.RaiseLemmas.{are_raised, raise_has_room}
use Rattle.rds_state.proofs.state.State.raise.Goals as goal

pub returns-clause-numbers : goal.returns-clause-numbers
returns-clause-numbers g c = rw (← c.self.view_is) (are_raised c.self.inside.counts c.raise.new.self (place c.args.key.now c.args.replica c.args.which) c.args.by c.raise.result c.raise.ensures.raised c.raise.ensures.others)

pub returns-clause-room : goal.returns-clause-room
returns-clause-room g c = rw (← c.self.view_is) (raise_has_room (number c.self.inside.counts (place c.args.key.now c.args.replica P)) (number c.self.inside.counts (place c.args.key.now c.args.replica N)) c.args.by c.raise.result (λ none. (c.raise.ensures.nothing none).0) (c.raise.ensures.there P) (c.raise.ensures.there N))
