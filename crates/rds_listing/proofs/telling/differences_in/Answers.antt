use Rattle.std.proofs.Common.{◌≡◌, ◌∙◌, ◌++◌, sym}
use Rattle.std.specs.Prelude.{string_bytes}
use Rattle.rds_tree.specs.Shown.{shown_view}
use Rattle.rds_tree.specs.Shows.{counters_in}
use Rattle.rds_listing.specs.Differences.{counter_lines, leaf_lines, leaves, sums_in}
use Rattle.rds_listing.specs.Pieces.{lines_text}
use Rattle.rds_listing.specs.Standings.{standings}
use Rattle.rds_listing.proofs.Merged.{lines_append}
use Rattle.rds_listing.proofs.telling.differences_in.Goals as goal

pub returns-clause-text : goal.returns-clause-text
returns-clause-text c =
    let first = shown_view c.args.first.now in
    let second = shown_view c.args.second.now in
    let firsts = c.as_slice.ensures.value ∙ c.in_ok-firsts.ensures.ok in
    let seconds = c.as_slice-2.ensures.value ∙ c.in_ok-seconds.ensures.ok in
    let none = c.new-text.ensures.bytes in
    let own = leaf_lines (leaves (standings c.args.path.now first)) (leaves (standings c.args.path.now second)) in
    let front : string_bytes c.push_differing.new.text ≡ lines_text own = c.in_ok-push_differing.ensures.text ∙ (λ i. none i ++ lines_text (leaf_lines (firsts i) (seconds i))) in
    let sums = c.sums_of.ensures in
    let others = c.sums_of-2.ensures in
    c.in_ok-push_sums_differing.ensures.text
    ∙ (λ i. front i ++ lines_text (counter_lines (sums i) (others i)))
    ∙ sym (lines_append own (counter_lines (sums_in (counters_in first)) (sums_in (counters_in second))))
