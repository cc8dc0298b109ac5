use Rattle.rds_session.specs.Received.{delivery_of}
use Rattle.rds_meetings.proofs.Paired.{at_last, left}
use Rattle.rds_meetings.proofs.pairing.end.End.leave.Goals as goal

pub returns-clause-leaves : goal.returns-clause-leaves
returns-clause-leaves g c =
    let last = at_last c.self.inside.ended c.of.result.ended (rw c.of.ensures.ended c.at_last.ensures.over) (rw c.of.ensures.ended c.at_last.ensures.going) in
    rw (← c.self.view_is) (λ side kept is. left side kept c.self.inside.session c.self.inside.ended c.of.result.ended (delivery_of c.of.result.received c.of.result.roster) is c.of.ensures.received c.of.ensures.checked c.of.ensures.done last.0 last.1)

pub returns-clause-over : goal.returns-clause-over
returns-clause-over g c = rw (← c.self.view_is) (λ over. rw c.of.ensures.ended (c.at_last.ensures.over over))

pub returns-clause-going : goal.returns-clause-going
returns-clause-going g c = rw (← c.self.view_is) (λ going. rw c.of.ensures.ended (c.at_last.ensures.going going))
