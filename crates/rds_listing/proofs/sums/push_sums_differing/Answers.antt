use Rattle.std.proofs.Common.{◌++◌, ◌∙◌, ap, map, refl}
use Rattle.std.specs.Prelude.{string_bytes}
use Rattle.rds_listing.specs.Differences.{counter_lines, first_line, second_lines, sum_met, sums_before, sums_behind, sums_from}
use Rattle.rds_listing.specs.Pieces.{lines_text}
use Rattle.rds_listing.proofs.Merged.{step_at}
use Rattle.rds_listing.proofs.sums.push_sums_differing.Goals as goal

pub loop-row-preserved : goal.loop-row-preserved
loop-row-preserved c =
    let row = c.row-item.result in
    let rest = c.loop-row.rest.now in
    rw (c.sums_behind-rest.ensures, c.split_sums.ensures.from) (step_at counter_lines rest (sums_behind row.0 (sums_from row.0 rest)) c.args.seconds.now c.loop-row.row-index row
    (map first_line (sums_before row.0 rest)) (second_lines (sum_met row.0 (sums_from row.0 rest)) row)
    (string_bytes c.loop-row.text) (string_bytes c.push_firsts.new.text) (string_bytes c.push_second_sum.new.text)
    (string_bytes c.args.text.now ++ lines_text (counter_lines c.args.firsts.now c.args.seconds.now))
    c.loop-row-test.true c.row-item.is (λ later. refl) c.loop-row.invariant
    (c.in_ok-push_firsts.ensures.text ∙ ap (λ ls. string_bytes c.loop-row.text ++ lines_text (map first_line ls)) c.split_sums.ensures.before)
    (c.in_ok-push_second_sum.ensures.text ∙ ap (λ ls. string_bytes c.push_firsts.new.text ++ lines_text (second_lines (sum_met row.0 ls) row)) c.split_sums.ensures.from))
