use Rattle.std.proofs.Common.{◌≡◌, length}
use Rattle.rds_session.specs.Steps.{IsNoDevice, Ran}
use Rattle.rds_session.proofs.session.Session.run.Given as goal

abbrev pub invariant-loop-rest : goal.invariant-loop-rest
invariant-loop-rest g l = Ran l.initial.self l.initial.send.items l.initial.rest l.self l.send.items l.rest × (IsNoDevice l.initial.self.ended → IsNoDevice l.self.ended) × (l.self.kept ≡ l.initial.self.kept)

abbrev pub decreases-loop-rest : goal.decreases-loop-rest
decreases-loop-rest g l = length l.rest
