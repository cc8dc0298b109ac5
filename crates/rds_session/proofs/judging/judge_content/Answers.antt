use Rattle.rds_session.specs.Judging.{wait_of}
use Rattle.rds_session.proofs.judging.judge_content.Goals as goal

pub returns-in-Hello-turn-clause-brings : goal.returns-in-Hello-turn-clause-brings
returns-in-Hello-turn-clause-brings g c = λ knows read. c.judge_member.ensures.brings (wait_of c.args.turn.now)

pub returns-in-Delta-turn-clause-brings : goal.returns-in-Delta-turn-clause-brings
returns-in-Delta-turn-clause-brings g c = λ knows read.
    c.judge_delta.ensures.brings (wait_of c.args.turn.now) (rw c.in-Delta-turn.is at knows) (rw (c.in-Delta-turn.is, c.in-Delta.is) at read)
