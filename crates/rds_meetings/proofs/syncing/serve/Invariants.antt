use Rattle.std.proofs.Common.{◌≡◌}
use Rattle.rds_session.specs.declared.talk.Side.TheVariants.{Server}
use Rattle.rds_meetings.proofs.Serving.{HasServed}
use Rattle.rds_meetings.proofs.syncing.serve.Given as goal

abbrev pub invariant-sessions : goal.invariant-sessions
invariant-sessions g l =
    record { served : HasServed Server l.fn.path l.path l.counter l.told (g.W.Write.contents l.fn.writer.inner) (g.W.Write.contents l.writer.inner); steady : l.writer.failed ≡ l.fn.writer.failed }
