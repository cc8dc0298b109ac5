use Rattle.rds_session.proofs.sending.send_digest.Goals as goal

pub returns : goal.returns
returns g c = c.send_body.ensures _ c.own_digest.ensures
