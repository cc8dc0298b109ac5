use Rattle.std.proofs.Common.{sym, ◌∙◌, ap, subst}
use Rattle.rds_life.specs.Life.{live_rows}
use Rattle.rds_state.specs.Coordinates.{Coordinates}
use Rattle.rds_state.specs.Fits.{ReplicaValue}
use Rattle.rds_state.specs.Value.{StateValue}
use Rattle.rds_tree.specs.Growing.{Holds}
use Rattle.rds_tree.proofs.Deltas.{holds_joined, holds_nothing, holds_refused}
use Rattle.rds_tree.proofs.MarkEdits.{nothing_marked, taken_mark}
use Rattle.rds_tree.proofs.taking.take_with.Goals as goal

pub returns-then-components-eq0-clause-holds : goal.returns-then-components-eq0-clause-holds
returns-then-components-eq0-clause-holds g c = holds_nothing c.args.replica.now c.take_with.new.self c.args.delta.now c.args.tree.now c.take_with.result (sym c.components.ensures ∙ c.if-components-eq0.true) c.take_with.ensures.ok c.take_with.ensures.err c.requires.holds

pub returns-in-Err-clause-holds : goal.returns-in-Err-clause-holds
returns-in-Err-clause-holds g c =
    subst (λ (v : ReplicaValue). Holds (live_rows v.state.lives) c.undo.new.tree) (sym c.in-Err.ensures.err)
    (holds_refused (c.lives.ensures ∙ ap (λ (s : StateValue). s.lives) c.state.ensures.state) c.lives-2.ensures c.in_ok-change.ensures.coming c.requires.holds c.in_ok-begin.ensures.some c.undo.ensures)

pub returns-clause-holds : goal.returns-clause-holds
returns-clause-holds g c =
    holds_joined (c.lives.ensures ∙ ap (λ (s : StateValue). s.lives) c.state.ensures.state) c.lives-2.ensures c.in_ok-change.ensures.coming c.requires.holds c.take_with-2.new.self.state.lives c.in_ok-change.ensures.dying c.in_ok-begin.ensures.ok c.finish.ensures
    (λ d. ap (λ (x : Coordinates). x.life d) c.in_default.ensures.ok)

pub returns-then-components-eq0-clause-marked : goal.returns-then-components-eq0-clause-marked
returns-then-components-eq0-clause-marked g c =
    c.requires.marked ∙ sym (nothing_marked c.args.replica.now c.take_with.new.self c.args.delta.now c.take_with.result (sym c.components.ensures ∙ c.if-components-eq0.true) c.take_with.ensures.ok c.take_with.ensures.err)

pub returns-clause-marked : goal.returns-clause-marked
returns-clause-marked g c =
    let new = c.take_with-2.new.self.state in
    let here = c.lives.ensures ∙ ap (λ (s : StateValue). s.lives) c.state.ensures.state in
    taken_mark here c.lives-2.ensures c.in_ok-change.ensures.dying c.in_ok-change.ensures.coming c.args.mark.now new c.counted-before.result c.counted.result c.requires.marked
    c.counted-before.ensures.mark c.counted.ensures.mark c.counted-before.ensures.here c.counted-before.ensures.there c.counted.ensures.here c.in_default.ensures.ok c.marked.ensures
