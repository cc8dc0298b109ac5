use Rattle.rds_codec.proofs.Longer.{state_longer, digest_longer, certificate_longer, answer_longer}
use Rattle.rds_codec.proofs.laws.texts_outlive_growth.Goals as goal

pub returns : goal.returns
returns c = record {
  states = λ format few more bytes v le t. record { is_value = state_longer few more le v t.is_value; spelled = t.spelled };
  digests = λ few more bytes g le t. record { is_value = digest_longer few more le g t.is_value; spelled = t.spelled };
  certificates = λ few more bytes rows le t. record { is_value = certificate_longer few more le rows t.is_value; spelled = t.spelled };
  answers = λ format few more bytes a le t. record { is_value = answer_longer few more le a t.is_value; spelled = t.spelled };
}
