use Rattle.std.proofs.Common.{refl}
use Rattle.rds_session.specs.Session.{Nothing}
use Rattle.rds_meetings.proofs.Hearing.{begins}
use Rattle.rds_meetings.proofs.Paired.{begun}
use Rattle.rds_meetings.proofs.pairing.end.End.begin.Goals as goal

pub returns-clause-end : goal.returns-clause-end
returns-clause-end g c =
    begun c.args.side c.args.kept.now c.new-session.result c.step-output.new.self c.step-output.result.ended _ _ c.new-session.ensures.standing
    (c.step-output.ensures.course c.args.side c.args.kept.now Nothing c.new-session.ensures.standing) c.step-output.ensures.kept c.step-output.ensures.ended

pub returns-clause-hears : goal.returns-clause-hears
returns-clause-hears g c =
    begins c.args.side c.args.kept.now (g.T.Read.remaining c.args.stream) c.new-session.result _ _ refl c.new-session.ensures.standing
    (λ side kept heard is. rw c.of.ensures (c.step-output.ensures.course side kept heard is)) c.step-output.ensures.ended
