use Rattle.std.proofs.Common.{◌∙◌, ◌++◌, ◌∷◌, [], ap, sym}
use Rattle.std.specs.Option.{option_map}
use Rattle.rds_life.specs.Life.{live_rows}
use Rattle.rds_tree.specs.Document.{document, entries_in, sums_of}
use Rattle.rds_tree.specs.Gathered.{view_under}
use Rattle.rds_tree.specs.Parts.{only_key, only_rows}
use Rattle.rds_tree.specs.View.{below_path, counters_shown, view_of}
use Rattle.rds_tree.proofs.Growing.{same_members}
use Rattle.rds_tree.proofs.OneKey.{only_view, same_under}
use Rattle.rds_tree.proofs.SameView.{same_below_path}
use Rattle.rds_tree.proofs.index.Index.view_of_key.Goals as goal

pub returns-clause-shown : goal.returns-clause-shown
returns-clause-shown g c =
    let above = c.args.above.now in
    let key = c.args.key.now in
    let path = above ++ key ∷ [] in
    let inside = c.self.inside in
    let state = inside.replica.state in
    let counts = c.counts.ensures ∙ ap (λ s. s.counts) c.state.ensures.state in
    c.in_ok-view.ensures.ok
    ∙ same_under key c.in_ok-counters.counters _ _ (same_below_path path _ _ (same_members (live_rows state.lives) inside.tree c.self.invariant.0))
    ∙ ap (λ counters. view_under key counters (below_path path (entries_in (live_rows state.lives)))) (c.in_ok-counters.ensures.ok ∙ ap (λ counts. option_map (only_rows key) (counters_shown above (sums_of counts))) counts)
    ∙ sym (only_view key (counters_shown above (sums_of state.counts)) above (entries_in (live_rows state.lives)))
    ∙ ap (λ v. only_key key (view_of (document v.state) above)) c.self.view_is
