use Rattle.std.proofs.Common.{subst}
use Rattle.rds_gaps.specs.Operations.{IsUnion}
use Rattle.rds_gaps.proofs.Sets.{set_of-union}
use Rattle.rds_gaps.proofs.gap_set.GapSetDotSet.union.Goals as goal

pub returns-clause-ok : goal.returns-clause-ok
returns-clause-ok c =
    let l = c.args.self.now in
    let r = c.args.other.now in
    let u = c.in_ok-union_of.field-0.items in
    let a = subst (λ x. IsUnion x c.deref-2.result.now u) c.deref.ensures.value c.in_ok-union_of.ensures in
    set_of-union l.runs.items r.runs.items u l.maximal r.maximal (subst (λ x. IsUnion l.runs.items x u) c.deref-2.ensures.value a)
