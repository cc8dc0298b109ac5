use Rattle.std.proofs.Common.{◌≡◌, ◌==◌, ◌∙◌, [], length, sym, ap, arith}
use mathlib.Core.Bool.{false≢true}
use Rattle.std.specs.FinMap as map
use Rattle.rds_counts.specs.Counted.{number}
use Rattle.rds_counts.proofs.Nothing.{none_by_test, no_rows, raises_nothing}
use Rattle.rds_state.specs.Value.{StateValue}
use Rattle.rds_state.proofs.Nothing.{joins_lives}
use Rattle.rds_state.proofs.state.State.merge_compatible.Goals as goal

pub returns-then-is_empty-clause-ok : goal.returns-then-is_empty-clause-ok
returns-then-is_empty-clause-ok g c =
    let a : StateValue = record { lives = c.self.inside.lives; counts = c.self.inside.counts } in
    let b : StateValue = record { lives = c.other.inside.lives; counts = c.other.inside.counts } in
    let new : StateValue = record { lives = c.merge_compatible.new.self; counts = c.self.inside.counts } in
    let none : c.rows.result.now ≡ [] = none_by_test c.rows.result.now (sym c.is_empty.ensures ∙ c.if-is_empty.true) in
    rw (← c.self.view_is, ← c.other.view_is)
    (joins_lives a b new c.merge_compatible.result c.merge_compatible.ensures.ok (λ q. raises_nothing c.rows.result.now c.other.inside.counts none (sym c.rows.ensures.value) (number c.self.inside.counts q) q))

pub returns-in_err-counts-clause-nothing : goal.returns-in_err-counts-clause-nothing
returns-in_err-counts-clause-nothing g c = λ none.
    let second : map.len c.args.other.now.counts ≡ 0 = omega (arith, none) in
    let rows = no_rows c.rows.result.now c.other.inside.counts c.rows.ensures.are_rows (sym c.rows.ensures.value) (ap (λ (v : StateValue). map.len v.counts) c.other.view_is ∙ second) in
    absurd (false≢true (sym c.if-is_empty.false ∙ c.is_empty.ensures ∙ ap (λ l. length l == 0) rows))

pub returns-clause-ok : goal.returns-clause-ok
returns-clause-ok g c =
    rw (← c.self.view_is, ← c.other.view_is) (λ i. record { life = λ q. c.in_ok-merge_compatible.ensures.ok.each_dot q i; number = λ q. c.in_ok-counts.ensures.ok q i })
