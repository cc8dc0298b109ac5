use Rattle.rds_meetings.specs.Pairing.{StaysEnd}
use Rattle.rds_meetings.proofs.pairing.meeting.take_turns.Given as goal

abbrev pub invariant-turns : goal.invariant-turns
invariant-turns g l =
    StaysEnd l.fn.client.session l.fn.client.ended l.client.session l.client.ended × StaysEnd l.fn.server.session l.fn.server.ended l.server.session l.server.ended
