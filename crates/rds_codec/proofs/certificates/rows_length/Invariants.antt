use Rattle.rds_bytes.proofs.Lengths.{IsMeasured}
use Rattle.rds_codec.specs.CertificateTexts.{IsHeldRow, row_text}
use Rattle.rds_codec.proofs.certificates.rows_length.Given as goal

abbrev pub invariant-loop-row : goal.invariant-loop-row
invariant-loop-row l = IsMeasured row_text 128 IsHeldRow l.rows l.row-index l.total
