use Rattle.std.proofs.Common.{subst}
use Rattle.rds_gaps.specs.Operations.{IsDifference}
use Rattle.rds_gaps.proofs.Sets.{set_of-difference}
use Rattle.rds_gaps.proofs.gap_set.GapSetDotSet.minus.Goals as goal

pub returns-clause-ok : goal.returns-clause-ok
returns-clause-ok c =
    let l = c.args.self.now in
    let r = c.args.other.now in
    let u = c.in_ok-difference_of.field-0.items in
    let a = subst (λ x. IsDifference x c.deref-2.result.now u) c.deref.ensures.value c.in_ok-difference_of.ensures in
    set_of-difference l.runs.items r.runs.items u l.maximal r.maximal (subst (λ x. IsDifference l.runs.items x u) c.deref-2.ensures.value a)
