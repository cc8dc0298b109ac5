use Rattle.std.proofs.Common.{List, length, ap, ◌∙◌}
use Rattle.rds_counts.specs.declared.row.CountRow.{CountRow}
use Rattle.rds_bytes.specs.Packed.{packed_text}
use Rattle.rds_packed.specs.CountTexts.{numbers_counts_text}
use Rattle.rds_packed.proofs.CountsSpelled.{are_within, counters_measured}
use Rattle.rds_packed.proofs.counters.packed_counters_length.Goals as goal

pub rows_length-requires-clause-limits : goal.rows_length-requires-clause-limits
rows_length-requires-clause-limits c = are_within c.rows-rows.result.now c.rows-rows.ensures.are_rows

pub returns-clause-length : goal.returns-clause-length
returns-clause-length c = λ table are. (
    let only = c.rows-rows.ensures.only in
    let count = c.count_length.ensures.length ∙ ap (λ (rows : List CountRow). length (packed_text (length rows))) only in
    let all = c.rows_length.ensures.length ∙ ap (λ (rows : List CountRow). length (numbers_counts_text rows c.args.numbers.now)) only in
    counters_measured table c.args.counts.now c.args.numbers.now are c.count_length.result c.rows_length.result count all)
