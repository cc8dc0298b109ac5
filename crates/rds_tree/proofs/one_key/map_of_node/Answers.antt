use Rattle.std.proofs.Common.{◌∙◌, ◌++◌, ◌∷◌, [], cond, ap, sym}
use Rattle.std.specs.Prelude.{None}
use Rattle.rds_tree.specs.Gathered.{map_under}
use Rattle.rds_tree.specs.Row.{placed_all}
use Rattle.rds_tree.specs.Shown.{a_map, maps_of, no_maps, shown_view, views_shown}
use Rattle.rds_tree.specs.View.{shown_to}
use Rattle.rds_tree.proofs.one_key.map_of_node.Goals as goal

pub returns-then-not-goes_on-clause-ok : goal.returns-then-not-goes_on-clause-ok
unfolding map_under
returns-then-not-goes_on-clause-ok c =
    c.from_rows.ensures ∙ ap (λ rows. maps_of (views_shown rows)) c.new.ensures.items
    ∙ ap (λ b. cond b (a_map c.args.key.now (shown_to 7 None (placed_all c.args.node.now)) no_maps) no_maps) (sym c.if-not-goes_on.true ∙ c.goes_on.ensures)

pub returns-clause-ok : goal.returns-clause-ok
unfolding map_under
returns-clause-ok c =
    c.from_rows-2.ensures
    ∙ ap (λ rows. maps_of (views_shown rows)) (c.in_ok-push.ensures.items ∙ ap (λ rows. rows ++ (c.in_ok-copy.field-0, c.in_ok-view.field-0) ∷ []) c.new-maps.ensures.items)
    ∙ ap (λ k. a_map k (shown_view c.in_ok-view.field-0) no_maps) c.in_ok-copy.ensures.ok
    ∙ ap (λ shown. a_map c.args.key.now shown no_maps) c.in_ok-view.ensures.ok
    ∙ ap (λ b. cond b (a_map c.args.key.now (shown_to 7 None (placed_all c.args.node.now)) no_maps) no_maps) (sym c.if-not-goes_on.false ∙ c.goes_on.ensures)
