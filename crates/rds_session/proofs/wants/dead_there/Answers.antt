use Rattle.std.proofs.Common.{◌∙◌}
use Rattle.std.specs.FinSet as set
use Rattle.rds_session.proofs.Wanting.{both_in, if_ok_so}
use Rattle.rds_session.proofs.wants.dead_there.Goals as goal

pub returns-clause-ok : goal.returns-clause-ok
returns-clause-ok g c =
    let own = c.args.own.now in
    let peer = c.args.peer.now in
    let gone = c.in_ok-gone.ensures.ok in
    let unseen = c.in_ok-unseen.ensures.ok in
    if_ok_so c.minus-3.result _ _ c.minus-3.ensures.ok (λ s is.
    is ∙ rw (unseen, gone, c.live.ensures, c.live-2.ensures, c.seen.ensures.dots) (both_in (set.difference own.live peer.live) peer.seen))
