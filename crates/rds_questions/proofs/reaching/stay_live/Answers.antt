use Rattle.rds_questions.proofs.Reached.{all_stay, none_unseen}
use Rattle.rds_questions.proofs.reaching.stay_live.Goals as goal

pub returns-clause-ok : goal.returns-clause-ok
returns-clause-ok g c =
    let s = g.S.DotSet.contents in
    let live = s c.args.live.now in
    let seen = s c.args.seen.now in
    let still = s c.args.still.now in
    let others = s c.in_ok-others.others in
    let unseen = s c.in_ok-unseen.unseen in (
      λ same. all_stay live seen still others unseen c.in_ok-others.ensures.ok c.in_ok-unseen.ensures.ok (c.same.ensures.0 same),
      λ stay. c.same.ensures.1 (none_unseen live seen still others unseen c.in_ok-others.ensures.ok c.in_ok-unseen.ensures.ok stay),
    )
