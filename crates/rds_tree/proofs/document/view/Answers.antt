use Rattle.std.proofs.Common.{◌∙◌, ap}
use Rattle.rds_life.specs.Life.{live_rows}
use Rattle.rds_tree.specs.Document.{entries_in, sums_of}
use Rattle.rds_tree.specs.Row.{placed_all}
use Rattle.rds_tree.specs.View.{below_path, counters_shown, entries_view, shown_to}
use Rattle.rds_tree.proofs.Growing.{shows_rows}
use Rattle.rds_tree.proofs.document.view.Goals as goal

pub returns-clause-shown : goal.returns-clause-shown
unfolding entries_view
returns-clause-shown g c =
    let path = c.args.path.now in
    let state = c.args.state.now in
    let counters = c.in_ok-counters.ensures.ok ∙ ap (λ counts. counters_shown path (sums_of counts)) c.counts.ensures in
    let rows = c.live.ensures.rows ∙ ap live_rows c.lives.ensures in
    c.in_ok-view.ensures.ok
    ∙ ap (λ keys. shown_to 8 c.in_ok-counters.counters (below_path keys (placed_all c.in_ok-tree.tree))) c.keys.ensures.keys
    ∙ shows_rows c.in_ok-counters.counters path _ c.in_ok-tree.tree c.in_ok-tree.ensures.ok
    ∙ ap (λ sums. entries_view sums path (entries_in c.live.result)) counters
    ∙ ap (λ live. entries_view (counters_shown path (sums_of state.counts)) path (entries_in live)) rows
