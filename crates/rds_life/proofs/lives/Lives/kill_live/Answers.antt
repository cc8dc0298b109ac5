use Rattle.rds_life.specs.Killed.{is_the}
use Rattle.rds_life.proofs.Kills.{get-left}
use Rattle.std.proofs.Common.{sym, subst}
use Rattle.std.specs.Ordering.{eq_by_cmp}
use Rattle.rds_dots.specs.Dots.{dot_cmp}
use Rattle.rds_life.specs.KnownDead.{HasMore}
use Rattle.rds_life.proofs.DeadSets.{kept-kill, unseen_stays}
use Rattle.rds_life.proofs.lives.Lives.kill_live.Goals as goal

pub invariant_of-self : goal.invariant_of-self
invariant_of-self g c =
    rw c.remove.ensures (kept-kill (g.S.DotSet.contents c.self.inside.seen) c.self.inside.rows c.self.inside.dead c.self.invariant c.args.dot (sym c.if-not-contains.ensures) c.with_dot.result
    (subst (λ dead. HasMore (λ d. eq_by_cmp dot_cmp d c.args.dot) dead c.with_dot.result) c.take.ensures.value c.with_dot.ensures))

pub returns : goal.returns
returns g c = λ d.
    rw c.remove.ensures (get-left (is_the c.args.dot) (g.S.DotSet.contents c.self.inside.seen) c.self.inside.rows c.self.invariant.rows c.args.self.now c.self.view_is d)

pub returns-then-not-contains : goal.returns-then-not-contains
returns-then-not-contains g c = unseen_stays (g.S.DotSet.contents c.self.inside.seen) c.self.inside.rows c.args.self.now c.self.view_is c.args.dot (sym c.if-not-contains.ensures)
