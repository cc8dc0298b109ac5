use Rattle.std.specs.Int.{w32}
use Rattle.rds_bytes.specs.Reading.{list_at, number_at}
use Rattle.rds_codec.specs.CertificateTexts.{certificate_row_at, certificate_at}
use Rattle.rds_codec.proofs.Parts.{certificate_read}
use Rattle.rds_codec.proofs.certificates.unfinished_certificate.Goals as goal

pub returns : goal.returns
unfolding certificate_at
returns c = certificate_read (record { replicas = c.args.replicas }) (list_at (number_at w32) (λ _. certificate_row_at c.args.replicas)) _ c.rows-from.ensures
