use Rattle.std.proofs.Common.{◌∙◌, sym}
use Rattle.rds_counts.proofs.SameCounts.{same_counts}
use Rattle.rds_counts.proofs.laws.a_merge_of_counts_has_one_result.Goals as goal

pub returns : goal.returns
returns c = λ a b v w one other. same_counts v w (λ q. one q ∙ sym (other q))
