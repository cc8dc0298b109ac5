use Rattle.std.proofs.Common.{◌++◌, List, length, ap, ◌∙◌}
use Rattle.rds_counts.specs.declared.row.CountRow.{CountRow}
use Rattle.rds_bytes.specs.Packed.{packed_text}
use Rattle.rds_packed.proofs.CountsSpelled.{are_within, counters_added}
use Rattle.rds_packed.proofs.counters.put_packed_counters.Goals as goal

pub put_count_rows-requires-clause-limits : goal.put_count_rows-requires-clause-limits
put_count_rows-requires-clause-limits c = are_within c.rows-rows.result.now c.rows-rows.ensures.are_rows

pub returns : goal.returns
returns c = λ table are. (
    let only = c.rows-rows.ensures.only in
    let old = c.args.out.now.items in
    let count = c.in_ok-put_packed.ensures ∙ ap (λ (rows : List CountRow). old ++ packed_text (length rows)) only in
    let all = rw only at c.put_count_rows.ensures in
    counters_added table c.args.counts.now c.args.numbers.now are c.put_count_rows.result old c.put_packed.new.out.items c.put_count_rows.new.out.items count all)
