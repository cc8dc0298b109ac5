use Rattle.std.proofs.Common.{◌∙◌, sym}
use Rattle.rds_state.proofs.JoinLaws.{same_value}
use Rattle.rds_delta.proofs.laws.a_delta_has_one_result.Goals as goal

pub returns : goal.returns
returns c = λ a b v w one other. same_value v w (one ∙ sym other)
