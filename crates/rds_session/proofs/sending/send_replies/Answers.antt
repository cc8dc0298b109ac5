use Rattle.rds_session.proofs.Sendings.{last_sent}
use Rattle.rds_session.proofs.sending.send_replies.Goals as goal

pub returns-in-Learn-Whole : goal.returns-in-Learn-Whole
returns-in-Learn-Whole g c = rw (c.in-Learn-Whole.is-0, c.in-Learn-Whole.is-1, c.in-Server.is) (last_sent _ _ _ _ c.send_delta.ensures)
