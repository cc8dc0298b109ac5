use Rattle.std.proofs.Common.{◌≡◌, ◌-◌, ◌+◌, ◌<◌, refl, subst, arith}
use mathlib.Core.Bool.{false≢true}
use Rattle.rds_dots.proofs.NextRuns.{none_later, one_later}
use Rattle.rds_dots.proofs.questions.are_below.Goals as goal

pub returns-in-None : goal.returns-in-None
returns-in-None g c =
    let one = c.requires.one in
    let next : c.args.replicas - 1 + 1 ≡ c.args.replicas = omega (arith, one) in
    (λ _ d h. subst (λ n. d.replica < n) next (none_later (g.S.DotSet.contents c.args.dots.now) (g.met.S.DotSet.within c.args.dots.now) (c.args.replicas - 1) c.in-None.ensures d h), λ _. refl)

pub returns-in-Some : goal.returns-in-Some
returns-in-Some g c =
    let one = c.requires.one in
    let next : c.args.replicas ≡ c.args.replicas - 1 + 1 = omega (arith, one) in
    (λ e. absurd (false≢true e), λ each. absurd (one_later (g.S.DotSet.contents c.args.dots.now) (g.met.S.DotSet.within c.args.dots.now) (c.args.replicas - 1) c.in-Some.field-0 c.in-Some.ensures (λ d h. subst (λ n. d.replica < n) next (each d h))))
