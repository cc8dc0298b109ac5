use Rattle.std.proofs.Common.{sym, ◌∙◌, ap, subst, refl}
use Rattle.rds_life.specs.Life.{live_rows}
use Rattle.rds_state.specs.Coordinates.{Coordinates}
use Rattle.rds_state.specs.Fits.{ReplicaValue}
use Rattle.rds_state.specs.Value.{StateValue}
use Rattle.rds_state.proofs.Nothing.{joins_nothing, takes_nothing}
use Rattle.rds_tree.specs.Growing.{Holds}
use Rattle.rds_tree.proofs.Deltas.{holds_joined, holds_refused}
use Rattle.rds_tree.proofs.MarkEdits.{taken_mark}
use Rattle.rds_tree.proofs.taking.take.Goals as goal

pub returns-then-components-eq0-clause-taken : goal.returns-then-components-eq0-clause-taken
returns-then-components-eq0-clause-taken g c =
    let none = sym c.components.ensures ∙ c.if-components-eq0.true in
    record {
      ok = joins_nothing c.args.delta.now none c.args.replica.now.state;
      gives = takes_nothing c.args.delta.now none c.args.replica.now.state c.args.replica.now.own;
      nothing = λ _. refl;
      roster = refl;
      own = refl;
      err = tt;
    }

pub returns-in-Err-clause-holds : goal.returns-in-Err-clause-holds
returns-in-Err-clause-holds g c =
    subst (λ (v : ReplicaValue). Holds (live_rows v.state.lives) c.undo.new.tree) (sym c.in-Err.ensures.err)
    (holds_refused (c.lives.ensures ∙ ap (λ (s : StateValue). s.lives) c.state.ensures.state) c.lives-2.ensures c.in_ok-change.ensures.coming c.requires.holds c.in_ok-begin.ensures.some c.undo.ensures)

pub returns-clause-holds : goal.returns-clause-holds
returns-clause-holds g c =
    holds_joined (c.lives.ensures ∙ ap (λ (s : StateValue). s.lives) c.state.ensures.state) c.lives-2.ensures c.in_ok-change.ensures.coming c.requires.holds c.take.new.self.state.lives c.in_ok-change.ensures.dying c.in_ok-begin.ensures.ok c.finish.ensures
    (λ d. ap (λ (x : Coordinates). x.life d) c.in_default.ensures.ok)

pub returns-clause-marked : goal.returns-clause-marked
returns-clause-marked g c =
    let new = c.take.new.self.state in
    let here = c.lives.ensures ∙ ap (λ (s : StateValue). s.lives) c.state.ensures.state in
    taken_mark here c.lives-2.ensures c.in_ok-change.ensures.dying c.in_ok-change.ensures.coming c.args.mark.now new c.counted-before.result c.counted.result c.requires.marked
    c.counted-before.ensures.mark c.counted.ensures.mark c.counted-before.ensures.here c.counted-before.ensures.there c.counted.ensures.here c.in_default.ensures.ok c.marked.ensures
