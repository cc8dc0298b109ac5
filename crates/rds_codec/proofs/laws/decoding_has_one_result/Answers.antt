use Rattle.rds_codec.specs.CertificateTexts.{certificate_kind, certificate_at}
use Rattle.rds_codec.specs.DigestTexts.{digest_kind, digest_at}
use Rattle.rds_codec.specs.FormatTexts.{state_kind_in, state_at_in, answer_kind_in, answer_at_in, snapshot_kind_in, snapshot_in_at}
use Rattle.rds_codec.specs.HelloTexts.{hello_kind, hello_at}
use Rattle.rds_codec.proofs.DecodedOnce.{decodes_once}
use Rattle.rds_codec.proofs.laws.decoding_has_one_result.Goals as goal

pub returns : goal.returns
returns c = record {
  states = λ format n. decodes_once (state_kind_in format n) (state_at_in format n);
  snapshots = decodes_once snapshot_kind_in snapshot_in_at;
  digests = λ n. decodes_once (digest_kind n) (digest_at n);
  certificates = λ n. decodes_once (certificate_kind n) (certificate_at n);
  answers = λ format n. decodes_once (answer_kind_in format n) (answer_at_in format n);
  hellos = decodes_once hello_kind hello_at;
}
