use Rattle.std.proofs.Common.{List, ℕ, subst}
use Rattle.rds_c.proofs.Done.{does_text}
use Rattle.rds_c.proofs.editing.edit_text.Goals as goal
use Rattle.rds_c.specs.Promises.{draft_in}
use Rattle.rds_names.specs.Gives.{Gives}
use Rattle.rds_names.specs.Scalar.{scalar_of_text}

pub returns : goal.returns
returns c = record {
  done = λ ended.
      does_text c.args.verb c.args.path.now c.args.text.now c.text.result (draft_in c.args.slot.now) (draft_in c.edit_value.new.slot) c.edit_value.new.edited
      (subst (λ (t : List ℕ). Gives c.text.result (scalar_of_text t)) c.in-Ok.ensures.cases.0 c.text.ensures) (c.edit_value.ensures.done ended);
  kept = c.edit_value.ensures.kept;
}
