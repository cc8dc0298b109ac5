use Rattle.std.proofs.Common.{◌∙◌, sym, ap, refl, subst}
use mathlib.Core.Bool.{false≢true}
use Rattle.std.specs.FinMap as map
use Rattle.rds_life.specs.Life.{Dead, lives_of}
use Rattle.rds_life.proofs.LivedLemmas.{seen_is}
use Rattle.rds_life.proofs.Changes.{lives_of-without, lives_of-insert}
use Rattle.std.specs.Ordering.{eq_by_cmp}
use Rattle.rds_dots.specs.Dots.{dot_cmp}
use Rattle.rds_life.specs.KnownDead.{HasMore}
use Rattle.rds_life.proofs.DeadSets.{kept-kill, kept-insert}
use Rattle.rds_life.proofs.lives.Lives.kill.Goals as goal

pub invariant_of-self : goal.invariant_of-self
invariant_of-self g c =
    rw c.remove.ensures (kept-kill (g.S.DotSet.contents c.self.inside.seen) c.self.inside.rows c.self.inside.dead c.self.invariant c.args.dot (sym c.if-contains.ensures) c.with_dot.result
    (subst (λ dead. HasMore (λ d. eq_by_cmp dot_cmp d c.args.dot) dead c.with_dot.result) c.take.ensures.value c.with_dot.ensures))

pub returns-then-contains-clause-ok : goal.returns-then-contains-clause-ok
returns-then-contains-clause-ok g c =
    let s = g.S.DotSet.contents c.self.inside.seen in
    ap (lives_of s) c.remove.ensures
    ∙ lives_of-without s c.self.inside.rows c.args.dot c.self.invariant.rows (sym c.if-contains.ensures)
    ∙ ap (λ v. map.insert v c.args.dot Dead) c.self.view_is

pub invariant_of-self-2 : goal.invariant_of-self-2
invariant_of-self-2 g c =
    rw c.in_ok-insert_dot.ensures.ok (kept-insert (g.S.DotSet.contents c.self.inside.seen) c.self.inside.rows c.self.inside.dead c.self.invariant c.args.dot (sym c.if-contains.ensures) c.with_dot-2.result
    (subst (λ dead. HasMore (λ d. eq_by_cmp dot_cmp d c.args.dot) dead c.with_dot-2.result) c.take-2.ensures.value c.with_dot-2.ensures))

pub returns-clause-ok : goal.returns-clause-ok
returns-clause-ok g c =
    let s = g.S.DotSet.contents c.self.inside.seen in
    rw c.in_ok-insert_dot.ensures.ok
    (lives_of-insert s c.self.inside.rows c.args.dot c.self.invariant.rows (sym c.if-contains.ensures)
    ∙ ap (λ v. map.insert v c.args.dot Dead) c.self.view_is)

pub returns-clause-seen : goal.returns-clause-seen
returns-clause-seen g c = λ _. refl

pub returns-in_err-insert_dot-clause-seen : goal.returns-in_err-insert_dot-clause-seen
returns-in_err-insert_dot-clause-seen g c = λ seen.
    absurd (false≢true (c.if-contains.ensures ∙ seen_is (g.S.DotSet.contents c.self.inside.seen) c.self.inside.rows c.args.self.now c.self.view_is c.args.dot ∙ seen))
