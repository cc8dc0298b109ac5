use Rattle.rds_session.proofs.Moves.{server_opened}
use Rattle.rds_session.proofs.session.Session.open.Goals as goal

pub returns-in-Server-clause-does : goal.returns-in-Server-clause-does
returns-in-Server-clause-does g c = rw (← c.self.view_is) (server_opened _ _ c.if-self.false c.in-Server.is)
