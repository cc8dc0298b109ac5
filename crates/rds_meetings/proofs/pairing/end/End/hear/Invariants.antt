use Rattle.std.proofs.Common.{◌≡◌}
use Rattle.rds_meetings.specs.Ends.{HearsOn}
use Rattle.rds_meetings.specs.Pairing.{StaysEnd}
use Rattle.rds_meetings.proofs.Hearing.{HasCome}
use Rattle.rds_meetings.proofs.pairing.end.End.hear.Given as goal

abbrev pub invariant-reads : goal.invariant-reads
invariant-reads g l =
    StaysEnd l.fn.self.session l.fn.self.ended l.self.session l.self.ended
    × HearsOn (g.T.Read.remaining l.fn.self.stream) (g.T.Read.remaining l.self.stream) l.fn.self l.self
    × HasCome l.fn.count l.left (g.T.Read.remaining l.fn.self.stream) (g.T.Read.remaining l.self.stream)
    × (l.self.is_shut ≡ l.fn.self.is_shut)

abbrev pub decreases-reads : goal.decreases-reads
decreases-reads g l = l.left
