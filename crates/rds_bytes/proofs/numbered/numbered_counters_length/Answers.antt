use Rattle.std.proofs.Common.{◌∙◌, ◌+◌, ◌*◌, ap, List, length}
use Rattle.rds_counts.specs.declared.row.CountRow.{CountRow}
use Rattle.rds_bytes.proofs.NumberedTexts.{counters_length}
use Rattle.rds_bytes.proofs.numbered.numbered_counters_length.Goals as goal

pub returns-clause-length : goal.returns-clause-length
returns-clause-length c = λ table. ap (λ (rows : List CountRow). 4 + 21 * length rows) c.rows.ensures.only ∙ counters_length c.args.counts.now table
