use Rattle.std.proofs.Common.{◌∙◌, ap, rules}
use Rattle.rds_life.specs.Life.{live_rows}
use Rattle.rds_tree.proofs.Whole.{holds_root}
use Rattle.rds_tree.proofs.index.whole_tree.Goals as goal

pub returns-clause-ok : goal.returns-clause-ok
returns-clause-ok g c =
    let rows = c.live.ensures.rows ∙ ap live_rows (c.lives.ensures ∙ ap (λ s. s.lives) c.state.ensures.state) in
    holds_root c.in_ok-root.root c.live.result _ c.in_ok-tree.tree (search rules) rows c.in_ok-tree.ensures.ok
