use Rattle.rds_session.proofs.Sendings.{first_long, last_sent, more_sent}
use Rattle.rds_session.proofs.sending.send_opening.Goals as goal

pub returns-then-not-branch : goal.returns-then-not-branch
returns-then-not-branch g c =
    let h = rw c.if-not-branch.true at c.in_ok-send_hello.ensures in
    first_long _ _ _ _ h.0 h.1

pub returns : goal.returns
returns g c =
    let h = rw c.if-not-branch.false at c.in_ok-send_hello.ensures in
    more_sent _ _ _ _ _ _ h.0 h.1 (last_sent _ _ _ _ c.send_own.ensures)
