use Rattle.std.proofs.Common.{ap}
use Rattle.rds_questions.specs.Receiving.{ReceivedValue}
use Rattle.rds_questions.proofs.Forked.{told_by}
use Rattle.rds_questions.proofs.forks.tells_fork.Goals as goal

pub returns-clause-told : goal.returns-clause-told
returns-clause-told g c =
    told_by c.args.held.now c.args.received.now c.received.inside.tag c.in_ok-own.own c.is_fork_of.result (ap (λ (x : ReceivedValue). x.tag) c.received.view_is) c.in_ok-own.ensures.tag c.is_fork_of.ensures
