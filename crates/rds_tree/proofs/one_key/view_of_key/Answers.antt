use Rattle.std.proofs.Common.{◌∙◌, ◌++◌, ◌∷◌, [], ap, sym}
use Rattle.std.specs.Option.{option_map}
use Rattle.rds_life.specs.Life.{live_rows}
use Rattle.rds_tree.specs.Document.{entries_in, sums_of}
use Rattle.rds_tree.specs.Gathered.{view_under}
use Rattle.rds_tree.specs.Parts.{only_rows}
use Rattle.rds_tree.specs.View.{below_path, counters_shown}
use Rattle.rds_tree.proofs.Growing.{seen_rows}
use Rattle.rds_tree.proofs.OneKey.{only_view, same_under}
use Rattle.rds_tree.proofs.one_key.view_of_key.Goals as goal

pub returns-clause-shown : goal.returns-clause-shown
returns-clause-shown g c =
    let above = c.args.above.now in
    let key = c.args.key.now in
    let path = above ++ key ∷ [] in
    let state = c.args.state.now in
    let rows = c.live.ensures.rows ∙ ap live_rows c.lives.ensures in
    c.in_ok-view.ensures.ok
    ∙ same_under key c.in_ok-counters.counters _ _ (seen_rows path c.live.result c.in_ok-tree.tree c.in_ok-tree.ensures.ok)
    ∙ ap (λ live. view_under key c.in_ok-counters.counters (below_path path (entries_in live))) rows
    ∙ ap (λ counters. view_under key counters (below_path path (entries_in (live_rows state.lives)))) (c.in_ok-counters.ensures.ok ∙ ap (λ counts. option_map (only_rows key) (counters_shown above (sums_of counts))) c.counts.ensures)
    ∙ sym (only_view key (counters_shown above (sums_of state.counts)) above (entries_in (live_rows state.lives)))
