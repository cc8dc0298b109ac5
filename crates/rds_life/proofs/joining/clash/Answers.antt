use Rattle.std.proofs.Common.{◌∙◌, sym}
use mathlib.Core.Bool.{false≢true}
use Rattle.rds_life.proofs.Clashes.{step_left, step_right, step_both, step_clash}
use Rattle.rds_life.proofs.joining.clash.Goals as goal

pub looking-preserved-in-Less : goal.looking-preserved-in-Less
looking-preserved-in-Less c = step_left c.args.left.now c.args.right.now c.looking.left.now c.looking.right.now c.in_ok-x.x.now c.in_ok-y.y.now c.in_ok-x.xs.now c.in_ok-y.ys.now c.in_ok-x.ensures.cases.0 c.in_ok-y.ensures.cases.0 c.looking.invariant (sym c.cmp.ensures ∙ c.in-Less.is)

pub looking-preserved : goal.looking-preserved
looking-preserved c = step_right c.args.left.now c.args.right.now c.looking.left.now c.looking.right.now c.in_ok-x.x.now c.in_ok-y.y.now c.in_ok-x.xs.now c.in_ok-y.ys.now c.in_ok-x.ensures.cases.0 c.in_ok-y.ensures.cases.0 c.looking.invariant (sym c.cmp.ensures ∙ c.in-Greater.is)

pub returns-then-not-same : goal.returns-then-not-same
returns-then-not-same c = step_clash c.args.left.now c.args.right.now c.looking.left.now c.looking.right.now c.in_ok-x.x.now c.in_ok-y.y.now c.in_ok-x.xs.now c.in_ok-y.ys.now c.in_ok-x.ensures.cases.0 c.in_ok-y.ensures.cases.0 c.looking.invariant (sym c.cmp.ensures ∙ c.in-Equal.is) (λ e. false≢true (sym c.if-not-same.true ∙ c.same.ensures.1 e))

pub looking-preserved-in-Equal : goal.looking-preserved-in-Equal
looking-preserved-in-Equal c = step_both c.args.left.now c.args.right.now c.looking.left.now c.looking.right.now c.in_ok-x.x.now c.in_ok-y.y.now c.in_ok-x.xs.now c.in_ok-y.ys.now c.in_ok-x.ensures.cases.0 c.in_ok-y.ensures.cases.0 c.looking.invariant (sym c.cmp.ensures ∙ c.in-Equal.is) (c.same.ensures.0 c.if-not-same.false)
