use Rattle.rds_state.proofs.FriendLemmas.{friends_are_taken}
use Rattle.rds_state.proofs.laws.friends_take_each_other.Goals as goal

pub returns : goal.returns
returns c = friends_are_taken
