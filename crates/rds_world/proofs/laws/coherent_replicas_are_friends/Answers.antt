use Rattle.rds_world.proofs.Friends.{friends, may_take, not_refused}
use Rattle.rds_world.proofs.laws.coherent_replicas_are_friends.Goals as goal

pub returns-clause-friends : goal.returns-clause-friends
returns-clause-friends c = λ w i. friends w i

pub returns-clause-take : goal.returns-clause-take
returns-clause-take c = λ w i. may_take w i

pub returns-clause-accepted : goal.returns-clause-accepted
returns-clause-accepted c = λ w i. not_refused w i
