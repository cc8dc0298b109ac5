use Rattle.rds_state.proofs.OneResult.{one_merge, one_taken, one_edit}
use Rattle.rds_state.proofs.laws.a_change_has_one_result.Goals as goal

pub returns : goal.returns
returns c = record { merge = one_merge; take = one_taken; edit = one_edit }
