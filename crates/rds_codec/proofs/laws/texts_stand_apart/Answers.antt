use Rattle.rds_codec.specs.CertificateTexts.{certificate_at, certificate_kind}
use Rattle.rds_codec.specs.DigestTexts.{digest_at, digest_kind}
use Rattle.rds_codec.specs.FormatTexts.{state_kind_in, state_at_in, answer_kind_in, answer_at_in, snapshot_kind_in, snapshot_in_at}
use Rattle.rds_codec.specs.HelloTexts.{hello_at, hello_kind}
use Rattle.rds_codec.proofs.BothSnapshots.{snapshot_in_reader, formats_differ}
use Rattle.rds_codec.proofs.CertificateFormats.{certificate_reader}
use Rattle.rds_codec.proofs.DigestFormats.{digest_reader}
use Rattle.rds_codec.proofs.HelloFormats.{hello_reader}
use Rattle.rds_codec.proofs.InFormats.{state_in_reader, answer_in_reader}
use Rattle.rds_codec.proofs.Whole.{stand_apart}
use Rattle.rds_codec.proofs.laws.texts_stand_apart.Goals as goal

pub returns : goal.returns
returns c = record {
  states = λ format n. stand_apart (state_kind_in format n) (state_at_in format n) (state_in_reader format n);
  snapshots = stand_apart snapshot_kind_in snapshot_in_at snapshot_in_reader;
  formats = formats_differ;
  digests = λ replicas. stand_apart (digest_kind replicas) (digest_at replicas) (digest_reader replicas);
  certificates = λ replicas. stand_apart (certificate_kind replicas) (certificate_at replicas) (certificate_reader replicas);
  answers = λ format n. stand_apart (answer_kind_in format n) (answer_at_in format n) (answer_in_reader format n);
  hellos = stand_apart hello_kind hello_at hello_reader;
}
