use Rattle.rds_meetings.proofs.pairing.meeting.talk.Goals as goal

pub returns-in-Err-clause-client : goal.returns-in-Err-clause-client
returns-in-Err-clause-client g c = λ side kept is. c.cut.ensures.end side kept (c.take_turns.ensures.client side kept is)

pub returns-in-Err-clause-server : goal.returns-in-Err-clause-server
returns-in-Err-clause-server g c = λ side kept is. c.cut-in-Err.ensures.end side kept (c.take_turns.ensures.server side kept is)
