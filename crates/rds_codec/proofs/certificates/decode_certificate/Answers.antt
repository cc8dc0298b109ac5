use Rattle.std.proofs.Common.{arith}
use Rattle.rds_codec.specs.CertificateTexts.{certificate_at, certificate_kind}
use Rattle.rds_codec.proofs.CertificateFormats.{certificate_reader}
use Rattle.rds_codec.proofs.Whole.{decodes_whole, reads_whole}
use Rattle.rds_codec.proofs.certificates.decode_certificate.Goals as goal

pub returns-clause-text : goal.returns-clause-text
returns-clause-text c =
    decodes_whole (certificate_at c.args.replicas) _ c.unfinished_certificate.ensures c.args.bytes.now c.read_whole.result c.read_whole.ensures.read (certificate_kind c.args.replicas) (certificate_reader c.args.replicas) (λ i. omega (arith, c.type_inv.bytes i)) c.read_whole.ensures.long

pub returns-clause-read : goal.returns-clause-read
returns-clause-read c = reads_whole (certificate_at c.args.replicas) _ c.unfinished_certificate.ensures c.args.bytes.now c.read_whole.result c.read_whole.ensures.read
