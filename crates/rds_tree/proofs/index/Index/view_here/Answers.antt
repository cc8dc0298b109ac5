use Rattle.std.proofs.Common.{◌∙◌, ap}
use Rattle.rds_life.specs.Life.{live_rows}
use Rattle.rds_tree.specs.Document.{document, entries_in, sums_of}
use Rattle.rds_tree.specs.Parts.{closed}
use Rattle.rds_tree.specs.Row.{placed_all}
use Rattle.rds_tree.specs.View.{below_path, counters_shown, entries_view, shown_to, view_of}
use Rattle.rds_tree.proofs.Closed.{closed_view}
use Rattle.rds_tree.proofs.Whole.{shows_whole}
use Rattle.rds_tree.proofs.index.Index.view_here.Goals as goal

pub returns-clause-shown : goal.returns-clause-shown
returns-clause-shown g c =
    let path = c.args.path.now in
    let inside = c.self.inside in
    let state = inside.replica.state in
    let counters = c.in_ok-counters.ensures.ok ∙ ap (λ counts. counters_shown path (sums_of counts)) (c.counts.ensures ∙ ap (λ s. s.counts) c.state.ensures.state) in
    c.in_ok-view.ensures.ok
    ∙ ap (λ keys. shown_to 1 c.in_ok-counters.counters (below_path keys (placed_all inside.tree))) c.keys.ensures.keys
    ∙ closed_view c.in_ok-counters.counters path (placed_all inside.tree)
    ∙ ap closed (shows_whole c.in_ok-counters.counters path (live_rows state.lives) inside.tree c.self.invariant.0
    ∙ ap (λ sums. entries_view sums path (entries_in (live_rows state.lives))) counters
    ∙ ap (λ v. view_of (document v.state) path) c.self.view_is)
