use Rattle.rds_bytes.specs.Values.{IsKeyed}
use Rattle.rds_bytes.specs.Spelling.{count_row_text}
use Rattle.rds_bytes.proofs.Lengths.{IsMeasured}
use Rattle.rds_bytes.proofs.counters.count_rows_length.Given as goal

abbrev pub invariant-loop-row : goal.invariant-loop-row
invariant-loop-row l = IsMeasured count_row_text 128 IsKeyed l.rows l.row-index l.total
