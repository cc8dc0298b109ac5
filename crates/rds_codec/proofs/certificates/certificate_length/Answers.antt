use Rattle.std.proofs.Common.{subst, List}
use Rattle.std.specs.List.{AllByRecursion}
use Rattle.rds_delta.specs.declared.row.Row.{Row}
use Rattle.rds_codec.specs.CertificateTexts.{IsHeldRow}
use Rattle.rds_codec.proofs.ClaimTexts.{are_rows_of}
use Rattle.rds_codec.proofs.certificates.certificate_length.Goals as goal

pub returns-clause-value : goal.returns-clause-value
returns-clause-value c = λ replicas fits. are_rows_of replicas c.args.certificate.now (subst (λ (rows : List Row). AllByRecursion IsHeldRow rows) c.rows.ensures c.rows_length.ensures.held) fits
