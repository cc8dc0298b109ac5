use Rattle.std.proofs.Common.{◌∙◌, ap, min}
use Rattle.rds_delta.specs.Digested.{rank_in}
use Rattle.rds_delta.proofs.NextLemmas.{next_none, next_live, next_dead, seen_dots}
use Rattle.rds_delta.proofs.step.next_row.Goals as goal

pub returns-in_err-part-clause-next : goal.returns-in_err-part-clause-next
returns-in_err-part-clause-next g c = rw c.from_residual.ensures (next_none c.args.lives.now (g.S.DotSet.contents c.seen.result.now) c.seen.ensures c.args.after c.in_err-part.ensures)

pub returns-in-None-clause-next : goal.returns-in-None-clause-next
returns-in-None-clause-next g c = next_live c.args.lives.now (g.S.DotSet.contents c.seen.result.now) c.seen.ensures c.args.after (rank_in c.args.digest.now) c.in_ok-part.part c.in_ok-part.ensures c.peer_from-peer.result.rank c.peer_from-peer.result.until c.peer_from-peer.ensures.alike c.in-None.ensures

pub returns-in-Some-clause-next : goal.returns-in-Some-clause-next
returns-in-Some-clause-next g c =
    next_dead c.args.lives.now (g.S.DotSet.contents c.seen.result.now) c.seen.ensures c.args.after (rank_in c.args.digest.now) c.in_ok-part.part c.in_ok-part.ensures c.peer_from-peer.result.rank c.peer_from-peer.result.until c.peer_from-peer.ensures.alike
    c.in-Some.until c.min-in-Some.result c.in-Some.ensures (c.min-in-Some.ensures ∙ ap (λ n. min n c.in-Some.until) c.min.ensures)

pub returns-in_err-part-clause-dots : goal.returns-in_err-part-clause-dots
returns-in_err-part-clause-dots g c = seen_dots c.args.lives.now (g.S.DotSet.contents c.seen.result.now) c.seen.ensures c.args.after (g.met.S.DotSet.within c.seen.result.now)

pub returns-in-None-clause-dots : goal.returns-in-None-clause-dots
returns-in-None-clause-dots g c = seen_dots c.args.lives.now (g.S.DotSet.contents c.seen.result.now) c.seen.ensures c.args.after (g.met.S.DotSet.within c.seen.result.now)

pub returns-in-Some-clause-dots : goal.returns-in-Some-clause-dots
returns-in-Some-clause-dots g c = seen_dots c.args.lives.now (g.S.DotSet.contents c.seen.result.now) c.seen.ensures c.args.after (g.met.S.DotSet.within c.seen.result.now)
