use Rattle.std.proofs.Common.{◌≡◌, ◌∷◌, [], sym, ◌∙◌, ap, subst}
use Rattle.std.specs.Prelude.{MatchOption}
use Rattle.rds_tree.specs.View.{below_path}
use Rattle.rds_tree.specs.Row.{placed_all}
use Rattle.rds_tree.proofs.Kids.{below-child, below-no_child, below_path-nil}
use Rattle.rds_tree.proofs.node.Node.+at.Goals as goal

pub returns-in-None-get : goal.returns-in-None-get
returns-in-None-get t c =
    ap (λ path. below_path path (placed_all c.args.self.now)) c.in-Some.ensures.cases.0
    ∙ ap (λ rows. below_path (c.in-Some.key.now ∷ c.in-Some.rest.now) (placed_all rows)) (sym c.self.view_is)
    ∙ ap (below_path c.in-Some.rest.now) (below-no_child c.in-Some.key.now c.self.inside.leaves c.self.inside.children.entries c.in-None-get.ensures.value) ∙ below_path-nil c.in-Some.rest.now

pub returns-in-Some-get : goal.returns-in-Some-get
returns-in-Some-get t c =
    let there = below-child c.in-Some.key.now c.in-Some-get.child.now c.self.inside.leaves c.self.inside.children.entries c.len-in_order.ensures.ordered c.in-Some-get.ensures.value in
    subst (λ es. MatchOption c.at.result (es ≡ []) (λ node. placed_all node.now ≡ es))
    (ap (below_path c.in-Some.rest.now) there
    ∙ ap (λ rows. below_path (c.in-Some.key.now ∷ c.in-Some.rest.now) (placed_all rows)) c.self.view_is
    ∙ ap (λ path. below_path path (placed_all c.args.self.now)) (sym c.in-Some.ensures.cases.0))
    c.at.ensures
