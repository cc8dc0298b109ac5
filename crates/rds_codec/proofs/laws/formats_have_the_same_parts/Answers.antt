use Rattle.std.proofs.Common.{refl}
use Rattle.rds_codec.specs.StateTexts.{state_at_in, state_text_in}
use Rattle.rds_codec.proofs.laws.formats_have_the_same_parts.Goals as goal

pub returns : goal.returns
unfolding state_at_in state_text_in
returns c = record { texts = λ v. refl; readers = λ replicas. refl }
