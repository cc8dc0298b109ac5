use Rattle.rds_session.proofs.Sendings.{first_long, first_sent, last_sent, more_sent}
use Rattle.rds_session.proofs.sending.answer_digest.Goals as goal

pub returns-then-not-branch : goal.returns-then-not-branch
returns-then-not-branch g c =
    let h = rw c.if-not-branch.true at c.in_ok-send_hello.ensures in
    first_long _ _ _ _ h.0 h.1

pub returns-then-not-branch-2 : goal.returns-then-not-branch-2
returns-then-not-branch-2 g c =
    let h = rw c.if-not-branch.false at c.in_ok-send_hello.ensures in
    let e = rw c.if-not-branch-2.true at c.in_ok-send_own.ensures in
    first_sent _ _ _ _ _ h.0 h.1 (first_long _ _ _ _ e.0 e.1)

pub returns : goal.returns
returns g c =
    let h = rw c.if-not-branch.false at c.in_ok-send_hello.ensures in
    let e = rw c.if-not-branch-2.false at c.in_ok-send_own.ensures in
    more_sent _ _ _ _ _ _ h.0 h.1 (more_sent _ _ _ _ _ _ e.0 e.1 (last_sent _ _ _ _ c.send_delta.ensures))
