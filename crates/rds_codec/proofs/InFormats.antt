-- States and answers in each format are what their readers read.
use Rattle.std.proofs.Common.{◌≡◌, ℕ, ◌^◌, ◌<◌, ◌≤◌, List, ◌++◌, length, refl, arith}
use Rattle.rds_state.specs.Value.{StateValue}
use Rattle.rds_delta.specs.declared.row.Row.{Row}
use Rattle.rds_codec.specs.declared.formats.Format.{Format}
use Rattle.rds_codec.specs.declared.limits.TheConstants.{LIMIT}
use Rattle.rds_codec.specs.AnswerTexts.{AnswerParts, IsAnswerOf, answer_by, answer_at_in, answer_text_in}
use Rattle.rds_codec.specs.AnswerValues.{AnswerValue}
use Rattle.rds_codec.specs.CertificateTexts.{IsReplicaOf, certificate_text, certificate_at}
use Rattle.rds_codec.specs.FormatTexts.{answer_kind_in, state_kind_in}
use Rattle.rds_codec.specs.StateTexts.{state_at_in, state_text_in}
use Rattle.rds_bytes.specs.Reading.{Reader, pair_at, replica_at}
use Rattle.rds_bytes.specs.Spelling.{byte_text}
use Rattle.rds_bytes.proofs.Format.{IsFormat, pair_format, made_format}
use Rattle.rds_bytes.proofs.PartFormats.{replica_format}
use Rattle.rds_bytes.proofs.Sequences.{three_lengths}
use Rattle.rds_codec.proofs.CertificateFormats.{FitsCertificate, certificate_format, certificate_within}
use Rattle.rds_codec.proofs.StateFormats.{CanCountIn, FitsIn, state_in_format, state_in_within}
use Rattle.rds_codec.proofs.Whole.{IsReaderOf, reader_of}

pub state_in_reader : (format : Format) (replicas : ℕ) → IsReaderOf (state_kind_in format replicas) (state_at_in format replicas)
state_in_reader format replicas =
    reader_of (state_kind_in format replicas) (state_at_in format replicas) (FitsIn format replicas) (state_in_format format replicas) (λ v h. h.0) (λ v is le. (is, state_in_within format v le))

-- ---- an answer

module _ (format : Format) where
  abbrev CanCountAnswer : AnswerValue → Type 0
  CanCountAnswer a = CanCountIn format a.state × (length a.certificate < 2 ^ 32)

  -- within the limit its rows can be counted in their fields
  pub answer_in_within : (a : AnswerValue) → length (answer_text_in format a) ≤ LIMIT → CanCountAnswer a
  unfolding answer_text_in
  answer_in_within a le =
      let all = three_lengths (byte_text a.asker) (state_text_in format a.state) (certificate_text a.certificate) in
      (state_in_within format a.state (omega (arith, all, le)), certificate_within a.certificate (omega (arith, all, le)))

  module _ (replicas : ℕ) where
    abbrev Sent : Type 0
    Sent = StateValue × List Row

    abbrev sent_at : Reader Sent
    sent_at = pair_at (state_at_in format replicas) (certificate_at replicas)

    abbrev sent_text : Sent → List ℕ
    sent_text p = state_text_in format p.0 ++ certificate_text p.1

    abbrev IsSent : Sent → Type 0
    IsSent p = FitsIn format replicas p.0 × FitsCertificate replicas p.1

    sent_format : IsFormat sent_at sent_text IsSent
    sent_format =
        pair_format (state_at_in format replicas) (certificate_at replicas) (state_text_in format) certificate_text (FitsIn format replicas) (FitsCertificate replicas) (state_in_format format replicas)
        (certificate_format replicas)

    abbrev parts_text : AnswerParts → List ℕ
    parts_text p = byte_text p.0 ++ sent_text p.1

    abbrev AreParts : AnswerParts → Type 0
    AreParts p = IsReplicaOf replicas p.0 × IsSent p.1

    parts_format : IsFormat (pair_at (replica_at replicas) sent_at) parts_text AreParts
    parts_format = pair_format (replica_at replicas) sent_at byte_text sent_text (IsReplicaOf replicas) IsSent (replica_format replicas) sent_format

    abbrev parts_of : AnswerValue → AnswerParts
    parts_of a = (a.asker, (a.state, a.certificate))

    abbrev FitsAnswer : AnswerValue → Type 0
    FitsAnswer a = IsAnswerOf replicas a × CanCountAnswer a

    there : (a : AnswerValue) → FitsAnswer a → AreParts (parts_of a) × (answer_by (parts_of a) ≡ a)
    there a h = ((h.0.asker, ((h.0.state, h.1.0), (h.1.1, h.0.certificate))), refl)

    back : (p : AnswerParts) → AreParts p → FitsAnswer (answer_by p) × (parts_of (answer_by p) ≡ p)
    back p h = ((record { asker = h.0; state = h.1.0.0; certificate = h.1.1.1 }, (h.1.0.1, h.1.1.0)), refl)

    answer_format : IsFormat (answer_at_in format replicas) (answer_text_in format) FitsAnswer
    unfolding answer_at_in answer_text_in
    answer_format = made_format answer_by parts_of _ parts_text AreParts FitsAnswer there back parts_format

    pub answer_in_reader : IsReaderOf (answer_kind_in format replicas) (answer_at_in format replicas)
    answer_in_reader =
        reader_of (answer_kind_in format replicas) (answer_at_in format replicas) FitsAnswer answer_format (λ a h. h.0) (λ a is le. (is, answer_in_within a le))
