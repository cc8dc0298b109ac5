use Rattle.std.proofs.Common.{◌≡◌, ◌∙◌, [], ap, subst, sym}
use Rattle.std.specs.Prelude.{MatchOption}
use Rattle.rds_tree.specs.Row.{placed_all}
use Rattle.rds_tree.specs.View.{below, below_path}
use Rattle.rds_tree.proofs.MapsShown.{below_path-end}
use Rattle.rds_tree.proofs.one_key.node_at.Goals as goal

pub returns-in-None : goal.returns-in-None
returns-in-None c =
    below_path-end c.args.above.now c.args.key.now (placed_all c.args.tree.now)
    ∙ ap (below c.args.key.now) (ap (λ keys. below_path keys (placed_all c.args.tree.now)) (sym c.keys.ensures.keys) ∙ c.in-None.ensures)

pub returns-in-Some : goal.returns-in-Some
returns-in-Some c =
    subst (λ es. MatchOption c.at-in-Some.result (es ≡ []) (λ node. placed_all node.now ≡ es))
    (ap (λ keys. below_path keys (placed_all c.in-Some.top.now)) c.from_ref.ensures.value
    ∙ ap (below c.args.key.now) (c.in-Some.ensures ∙ ap (λ keys. below_path keys (placed_all c.args.tree.now)) c.keys.ensures.keys)
    ∙ sym (below_path-end c.args.above.now c.args.key.now (placed_all c.args.tree.now)))
    c.at-in-Some.ensures
