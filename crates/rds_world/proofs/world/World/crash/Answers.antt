use Rattle.std.proofs.Common.{rules, ◌≡◌, ◌≤◌, ◌<◌, ◌∙◌, refl, sym, subst, length, Some, Err, slice_get, slice_set}
use Rattle.rds_names.specs.declared.fault.Fault.TheVariants.{Memory, NoSuch}
use Rattle.rds_world.specs.declared.event.Event.TheVariants.{Crash}
use Rattle.rds_world.specs.declared.event.Done.TheVariants.{Plain}
use Rattle.rds_world.specs.Stands.{IsWorld}
use Rattle.rds_world.specs.Steps.{IsStep, IsStopped}
use Rattle.rds_world.specs.Stored.{WorldValue}
use Rattle.rds_world.proofs.Performed.{IsDoneTo, crash_absent, crash_done, no_memory, of_roster, value_of}
use Rattle.rds_world.proofs.Sendings.{fault_is}
use Rattle.rds_world.proofs.Tables.{read_there}
use Rattle.rds_world.proofs.world.World.crash.Given.{Over}
use Rattle.rds_world.proofs.world.World.crash.Goals.{In_ok-replica}
use Rattle.rds_world.proofs.world.World.crash.Goals as goal

done : (g : Over) (c : In_ok-replica g) → IsDoneTo (value_of c.self.inside) (Crash c.args.number) Plain (record (value_of c.self.inside) { memory = slice_set c.self.inside.memory.items c.args.number c.in_ok-replica.replica })
done g c =
    let n = c.args.number in
    let kept = c.self.inside.kept.items in
    let lt : n < length c.self.inside.memory.items = search rules in
    let there : slice_get kept n ≡ Some c.index.result.now = read_there kept c.from-at.result n c.index.result.now c.from-at.ensures (subst (λ k. n < k) (sym c.self.invariant.same_length) lt) c.index.ensures in
    crash_done (value_of c.self.inside) c.self.invariant n c.index.result.now lt there c.in_ok-replica.replica (c.in_ok-replica.ensures.ok ∙ c.view_of.ensures.replica)

pub returns-then-at-len-clause-err : goal.returns-then-at-len-clause-err
returns-then-at-len-clause-err g c =
    let v = value_of c.self.inside in
    let absent : length v.memory ≤ c.args.number = search rules in
    subst (λ (u : WorldValue). IsStopped u (Crash c.args.number) NoSuch u) c.self.view_is (crash_absent v c.args.number absent)

pub returns-in_err-replica-clause-err : goal.returns-in_err-replica-clause-err
returns-in_err-replica-clause-err g c =
    let v = value_of c.self.inside in
    let n = c.args.number in
    let lt : n < length v.memory = search rules in
    let is : c.from_residual.result ≡ Err Memory = search rules in
    fault_is _ _ Memory is (subst (λ (u : WorldValue). IsStopped u (Crash n) Memory u) c.self.view_is (no_memory v (Crash n) Memory refl (of_roster v n lt) (λ w. tt)))

pub invariant_of-self : goal.invariant_of-self
invariant_of-self g c =
    subst (λ k. IsWorld (record (value_of c.self.inside) { memory = slice_set c.self.inside.memory.items k c.in_ok-replica.replica })) (sym c.from-at.ensures) (done g (goal.at.invariant_of-self g c).In_ok-replica).world

pub returns-clause-ok : goal.returns-clause-ok
returns-clause-ok g c =
    let v = value_of c.self.inside in
    let x = c.in_ok-replica.replica in
    subst (λ (u : WorldValue). IsStep u (Crash c.args.number) Plain (record v { memory = slice_set v.memory c.from-at.result x })) c.self.view_is
    (subst (λ k. IsStep v (Crash c.args.number) Plain (record v { memory = slice_set v.memory k x })) (sym c.from-at.ensures) (done g (goal.at.returns-clause-ok g c).In_ok-replica).step)
