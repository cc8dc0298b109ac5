use Rattle.std.proofs.Common.{◌∙◌, sym, ap, Some}
use Rattle.std.proofs.lemmas.Option.{slice_get-get_or}
use Rattle.rds_counts.specs.declared.row.CountRow.{CountRow}
use Rattle.rds_bytes.specs.Spelling.{count_row_text}
use Rattle.rds_bytes.proofs.Adding.{added-more}
use Rattle.rds_bytes.proofs.counters.put_count_rows.Goals as goal

pub loop-row-preserved : goal.loop-row-preserved
loop-row-preserved c =
    let rows = c.args.rows.now in
    let row = c.row-item.result in
    let item = slice_get-get_or rows c.loop-row.row-index row c.loop-row-test.true ∙ ap (λ (r : CountRow). Some r) (sym c.row-item.is) in
    added-more count_row_text rows c.loop-row.row-index row c.put_u32.new.out.items c.loop-row.out.items c.put_count_row.new.out.items item c.loop-row.invariant c.in_ok-put_count_row.ensures
