use Rattle.std.proofs.Common.{sym}
use Rattle.rds_session.proofs.Began.{other_version_refused}
use Rattle.rds_session.proofs.message.greeting.Goals as goal

pub returns-in-None-clause-ok : goal.returns-in-None-clause-ok
returns-in-None-clause-ok g c = other_version_refused c.args.side c.args.run.now c.in-len1-up.len_at_least (sym c.in-None.ensures)
