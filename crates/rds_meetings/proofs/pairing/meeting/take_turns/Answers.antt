use Rattle.rds_meetings.proofs.pairing.meeting.take_turns.Goals as goal

pub returns-in_err-pass-clause-client : goal.returns-in_err-pass-clause-client
returns-in_err-pass-clause-client g c = λ side kept is. c.pass.ensures.from side kept (c.turns.invariant.0 side kept is)

pub returns-in_err-pass-clause-server : goal.returns-in_err-pass-clause-server
returns-in_err-pass-clause-server g c = λ side kept is. c.pass.ensures.to side kept (c.turns.invariant.1 side kept is)

pub returns-in_err-pass-2-clause-client : goal.returns-in_err-pass-2-clause-client
returns-in_err-pass-2-clause-client g c = λ side kept is. c.pass-in-turns.ensures.to side kept (c.pass.ensures.from side kept (c.turns.invariant.0 side kept is))

pub returns-in_err-pass-2-clause-server : goal.returns-in_err-pass-2-clause-server
returns-in_err-pass-2-clause-server g c = λ side kept is. c.pass-in-turns.ensures.from side kept (c.pass.ensures.to side kept (c.turns.invariant.1 side kept is))

pub turns-preserved : goal.turns-preserved
turns-preserved g c = (
  λ side kept is. c.pass-in-turns.ensures.to side kept (c.pass.ensures.from side kept (c.turns.invariant.0 side kept is)),
  λ side kept is. c.pass-in-turns.ensures.from side kept (c.pass.ensures.to side kept (c.turns.invariant.1 side kept is)),
)
