use Rattle.std.proofs.Common.{rules, ◌≡◌, ◌≤◌, ◌<◌, ◌∙◌, ap, sym, subst, length, Some, Err, slice_get, slice_set}
use Rattle.rds_names.specs.declared.fault.Fault.TheVariants.{NoSuch}
use Rattle.rds_world.specs.declared.event.Event.TheVariants.{Save}
use Rattle.rds_world.specs.declared.event.Done.TheVariants.{Plain}
use Rattle.rds_world.specs.Stands.{IsWorld}
use Rattle.rds_world.specs.Steps.{IsStep, IsStopped}
use Rattle.rds_world.specs.Stored.{WorldValue}
use Rattle.rds_world.proofs.Performed.{IsDoneTo, save_absent, save_done, save_stopped, value_of}
use Rattle.rds_world.proofs.Sendings.{fault_is}
use Rattle.rds_world.proofs.Tables.{read_there}
use Rattle.rds_world.proofs.world.World.save.Given.{Over}
use Rattle.rds_world.proofs.world.World.save.Goals.{After-replica, In_ok-kept}
use Rattle.rds_world.proofs.world.World.save.Goals as goal

-- what is saved is in memory at its place
there : (g : Over) (c : After-replica g) → (c.args.number < length c.self.inside.memory.items) × (slice_get c.self.inside.memory.items c.args.number ≡ Some c.replica.result.now)
there g c =
    let below : c.args.number < length c.self.inside.memory.items = search rules in
    let read = read_there c.self.inside.memory.items c.from-at.result c.args.number c.index.result.now c.from-at.ensures below c.index.ensures in
    (below, read ∙ ap (λ m. Some m) (sym c.replica.ensures))

done : (g : Over) (c : In_ok-kept g) → (c.args.number < length c.self.inside.memory.items) × (slice_get c.self.inside.memory.items c.args.number ≡ Some c.replica.result.now)
    → IsDoneTo (value_of c.self.inside) (Save c.args.number) Plain (record (value_of c.self.inside) { kept = slice_set c.self.inside.kept.items c.args.number c.in_ok-kept.kept })
done g c at =
    save_done (value_of c.self.inside) c.self.invariant c.args.number c.replica.result.now at.0 at.1 c.in_ok-kept.kept c.in_ok-kept.ensures.ok c.in_ok-kept.ensures.short

pub returns-then-at-len-clause-err : goal.returns-then-at-len-clause-err
returns-then-at-len-clause-err g c =
    let v = value_of c.self.inside in
    let absent : length v.memory ≤ c.args.number = search rules in
    subst (λ (u : WorldValue). IsStopped u (Save c.args.number) NoSuch u) c.self.view_is (save_absent v c.args.number absent)

pub returns-in_err-kept-clause-err : goal.returns-in_err-kept-clause-err
returns-in_err-kept-clause-err g c =
    let at = there g (goal.at.returns-in_err-kept-clause-err g c).After-replica in
    let n = c.args.number in
    let f = c.in_err-kept.field-0.0 in
    let is : c.from_residual.result ≡ Err f = search rules in
    fault_is _ _ f is (subst (λ (u : WorldValue). IsStopped u (Save n) f u) c.self.view_is
    (save_stopped (value_of c.self.inside) c.self.invariant n c.replica.result.now at.0 at.1 f c.in_err-kept.ensures.fault))

pub invariant_of-self : goal.invariant_of-self
invariant_of-self g c =
    let x = goal.at.invariant_of-self g c in
    subst (λ k. IsWorld (record (value_of c.self.inside) { kept = slice_set c.self.inside.kept.items k c.in_ok-kept.kept })) (sym c.from-at.ensures) (done g x.In_ok-kept (there g x.After-replica)).world

pub returns-clause-ok : goal.returns-clause-ok
returns-clause-ok g c =
    let x = goal.at.returns-clause-ok g c in
    let v = value_of c.self.inside in
    let y = c.in_ok-kept.kept in
    subst (λ (u : WorldValue). IsStep u (Save c.args.number) Plain (record v { kept = slice_set v.kept c.from-at.result y })) c.self.view_is
    (subst (λ k. IsStep v (Save c.args.number) Plain (record v { kept = slice_set v.kept k y })) (sym c.from-at.ensures) (done g x.In_ok-kept (there g x.After-replica)).step)
