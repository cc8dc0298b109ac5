use Rattle.std.proofs.Common.{arith}
use Rattle.rds_codec.proofs.CertificateFormats.{certificate_within}
use Rattle.rds_codec.proofs.certificates.encode_certificate.Goals as goal

pub put_certificate-requires : goal.put_certificate-requires
put_certificate-requires c = let room = c.in_ok-out.ensures in certificate_within c.args.certificate.now (omega (arith, room.1, c.certificate_length.ensures.length))
