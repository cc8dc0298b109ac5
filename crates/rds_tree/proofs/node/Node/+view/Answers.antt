use Rattle.std.proofs.Common.{◌++◌, ◌∷◌, ◌-◌, [], sym, ◌∙◌, ap, arith}
use Rattle.std.specs.Option.{option_to_list}
use Rattle.rds_tree.specs.View.{with_key, shown_to}
use Rattle.rds_tree.specs.Row.{placed_all}
use Rattle.rds_tree.specs.Shown.{shown_view, views_shown, maps_of, shows}
use Rattle.rds_tree.proofs.Walked.{shown_view-roll, walked_to, walked_on, walked_whole, views_push, with_map}
use Rattle.rds_tree.proofs.Walked.{without_map}
use Rattle.rds_tree.proofs.node.Node.+view.Goals as goal

pub loop-key-preserved-in_ok-push : goal.loop-key-preserved-in_ok-push
loop-key-preserved-in_ok-push t c = (
  walked_on _ _ _ _ (c.in-Some.key.now, c.in-Some.child.now) _ _ _ _ _ _ c.loop-key.invariant.0 c.in-Some.ensures.steps
      (c.in_ok-push_values.ensures.ok ∙ ap (λ vs. c.loop-key.regs.items ++ option_to_list (with_key c.in-Some.key.now vs)) c.in_ok-values.ensures.ok)
      (c.in_ok-push_values-2.ensures.ok ∙ ap (λ vs. c.loop-key.sets.items ++ option_to_list (with_key c.in-Some.key.now vs)) c.in_ok-values-2.ensures.ok)
      (ap views_shown c.in_ok-push.ensures.items ∙ views_push c.loop-key.maps.items _ _ ∙ ap (λ k. views_shown c.loop-key.maps.items ++ (k, shown_view c.in_ok-view.field-0) ∷ []) c.in_ok-copy.ensures.ok
      ∙ with_map c.in-Some.key.now c.in-Some.child.now _ _ (sym c.goes_on.ensures ∙ c.if-goes_on.true) _ c.in_ok-view.ensures.ok),
  c.loop-key.invariant.1,
)

pub loop-key-preserved : goal.loop-key-preserved
loop-key-preserved t c = (
  walked_on _ _ _ _ (c.in-Some.key.now, c.in-Some.child.now) _ _ _ _ _ _ c.loop-key.invariant.0 c.in-Some.ensures.steps
      (c.in_ok-push_values.ensures.ok ∙ ap (λ vs. c.loop-key.regs.items ++ option_to_list (with_key c.in-Some.key.now vs)) c.in_ok-values.ensures.ok)
      (c.in_ok-push_values-2.ensures.ok ∙ ap (λ vs. c.loop-key.sets.items ++ option_to_list (with_key c.in-Some.key.now vs)) c.in_ok-values-2.ensures.ok)
      (without_map c.in-Some.key.now c.in-Some.child.now _ (sym c.goes_on.ensures ∙ c.if-goes_on.false) _),
  c.loop-key.invariant.1,
)

pub returns-clause-ok : goal.returns-clause-ok
returns-clause-ok t c =
    shown_view-roll _ _ _ _ ∙ ap (λ m. shows m c.from_rows-2.result c.from_rows-3.result c.loop-key.counters-1) c.from_rows.ensures
    ∙ ap (λ rs. shows (maps_of (views_shown c.loop-key.maps.items)) rs c.from_rows-3.result c.loop-key.counters-1) c.from_rows-2.ensures
    ∙ ap (λ ss. shows (maps_of (views_shown c.loop-key.maps.items)) c.loop-key.regs.items ss c.loop-key.counters-1) c.from_rows-3.ensures
    ∙ ap (shows (maps_of (views_shown c.loop-key.maps.items)) c.loop-key.regs.items c.loop-key.sets.items) c.loop-key.invariant.1
    ∙ walked_whole (c.args.depth - 1) c.args.depth c.args.counters c.self.inside.leaves c.self.inside.children.entries _ _ _ (omega (arith, c.if-depth-eq0.false)) c.self.invariant c.iter-key-items.ensures.ordered
    (walked_to _ _ _ _ _ _ _ c.loop-key.invariant.0 (c.into_iter-key-iterator.ensures.into_iter_gives ∙ c.iter-key-items.ensures.rest) c.in-None.ensures.steps.0)
    ∙ ap (λ rows. shown_to c.args.depth c.args.counters (placed_all rows)) c.self.view_is
