-- The text of an answer in each format, how it is read, and which answers have one.
use Rattle.std.specs.Prelude.{ℕ, List, ◌++◌}
use Rattle.rds_state.specs.Value.{StateValue}
use Rattle.rds_delta.specs.declared.row.Row.{Row}
use Rattle.rds_codec.specs.AnswerValues.{AnswerValue}
use Rattle.rds_codec.specs.CertificateTexts.{IsReplicaOf, IsCertificateOf, certificate_text, certificate_at}
use Rattle.rds_codec.specs.Kinds.{Kind}
use Rattle.rds_bytes.specs.Reading.{Reader, pair_at, made_at, replica_at}
use Rattle.rds_codec.specs.StateTexts.{state_at_in, state_text_in, IsStateOf}
use Rattle.rds_codec.specs.declared.formats.Format.{Format}
use Rattle.rds_codec.specs.declared.formats.Format.TheVariants.{Two}
use Rattle.rds_bytes.specs.Spelling.{byte_text}

-- who asked, the delta, and its certificate
unfoldable pub answer_text_in : Format → AnswerValue → List ℕ
answer_text_in format a = byte_text a.asker ++ (state_text_in format a.state ++ certificate_text a.certificate)

abbrev pub answer_text : AnswerValue → List ℕ
answer_text = answer_text_in Two

abbrev pub answer : ℕ → StateValue → List Row → AnswerValue
answer asker state certificate = record { asker = asker; state = state; certificate = certificate }

abbrev pub AnswerParts : Type 0
AnswerParts = ℕ × (StateValue × List Row)

abbrev pub answer_by : AnswerParts → AnswerValue
answer_by p = answer p.0 p.1.0 p.1.1

unfoldable pub answer_at_in : Format → ℕ → Reader AnswerValue
answer_at_in format replicas =
    made_at answer_by (pair_at (replica_at replicas) (pair_at (state_at_in format replicas) (certificate_at replicas)))

abbrev pub answer_at : ℕ → Reader AnswerValue
answer_at = answer_at_in Two

-- the asker is one of so many replicas, and so are those of the parts
pub record IsAnswerOf (replicas : ℕ) (a : AnswerValue) : Type 0 where
  pub asker : IsReplicaOf replicas a.asker
  pub state : IsStateOf replicas a.state
  pub certificate : IsCertificateOf replicas a.certificate

abbrev pub answer_kind : ℕ → Kind AnswerValue
answer_kind replicas = record { is_value = IsAnswerOf replicas; text = answer_text }
