use Rattle.std.proofs.Common.{rules, ◌≡◌, ◌≤◌, ◌<◌, refl, sym, subst, length, Some, Err, slice_get}
use Rattle.rds_names.specs.declared.fault.Fault.TheVariants.{Memory, NoSuch}
use Rattle.rds_world.specs.declared.event.Event.TheVariants.{Ask}
use Rattle.rds_world.specs.declared.event.Done.TheVariants.{Asked}
use Rattle.rds_world.specs.Steps.{IsStep, IsStopped}
use Rattle.rds_world.specs.Stored.{WorldValue}
use Rattle.rds_world.proofs.Performed.{IsDoneTo, ask_absent, ask_done, ask_stopped, no_memory, of_roster, stopped_same}
use Rattle.rds_world.proofs.Performed.{value_of}
use Rattle.rds_world.proofs.Sendings.{fault_is}
use Rattle.rds_world.proofs.Tables.{read_there}
use Rattle.rds_world.proofs.world.World.ask.Given.{Over}
use Rattle.rds_world.proofs.world.World.ask.Goals.{After-index, In_ok-push}
use Rattle.rds_world.proofs.world.World.ask.Goals as goal

-- what is kept at its place
there : (g : Over) (c : After-index g) → (c.args.number < length c.self.inside.memory.items) × (slice_get c.self.inside.kept.items c.args.number ≡ Some c.index.result.now)
there g c =
    let below : c.args.number < length c.self.inside.memory.items = search rules in
    (below, read_there c.self.inside.kept.items c.from-at.result c.args.number c.index.result.now c.from-at.ensures (subst (λ k. c.args.number < k) (sym c.self.invariant.same_length) below) c.index.ensures)

done : (g : Over) (c : In_ok-push g) → (c.args.number < length c.self.inside.memory.items) × (slice_get c.self.inside.kept.items c.args.number ≡ Some c.index.result.now)
    → IsDoneTo (value_of c.self.inside) (Ask c.args.number) (Asked c.len-question.result) (record (value_of c.self.inside) { asks = c.push.new.self.items })
done g c at =
    let v = value_of c.self.inside in
    let short = rw c.view_of-kept.ensures.replica at c.in_ok-ask.ensures.short in
    let holds = rw c.view_of-kept.ensures.replica at c.in_ok-ask.ensures.ok in
    let question : c.len-question.result ≡ length v.asks = search rules in
    ask_done v c.self.invariant c.args.number c.index.result.now at.0 at.1 c.in_ok-ask.ask c.push.new.self.items c.len-question.result c.in_ok-push.ensures.items question holds short

pub returns-then-at-len-clause-err : goal.returns-then-at-len-clause-err
returns-then-at-len-clause-err g c =
    let v = value_of c.self.inside in
    let absent : length v.memory ≤ c.args.number = search rules in
    subst (λ (u : WorldValue). IsStopped u (Ask c.args.number) NoSuch u) c.self.view_is (ask_absent v c.args.number absent)

pub returns-in_err-ask-clause-err : goal.returns-in_err-ask-clause-err
returns-in_err-ask-clause-err g c =
    let at = there g (goal.at.returns-in_err-ask-clause-err g c).After-index in
    let v = value_of c.self.inside in
    let n = c.args.number in
    let f = c.in_err-ask.field-0.0 in
    let is : c.from_residual.result ≡ Err f = search rules in
    fault_is _ _ f is (subst (λ (u : WorldValue). IsStopped u (Ask n) f u) c.self.view_is
    (ask_stopped v c.self.invariant n c.index.result.now at.0 at.1 f (rw c.view_of-kept.ensures.replica at c.in_err-ask.ensures.fault)))

pub returns-in_err-push-clause-err : goal.returns-in_err-push-clause-err
returns-in_err-push-clause-err g c =
    let v = value_of c.self.inside in
    let n = c.args.number in
    let is : c.from_residual-in_err-push.result ≡ Err Memory = search rules in
    let asks = c.in_err-push.ensures.items in
    fault_is _ _ Memory is (subst (λ (u : WorldValue). IsStopped u (Ask n) Memory (record v { asks = c.push.new.self.items })) c.self.view_is
    (stopped_same v (record v { asks = c.push.new.self.items }) (Ask n) Memory (λ j. record v { asks = asks j })
    (no_memory v (Ask n) Memory refl (of_roster v n (there g (goal.at.returns-in_err-push-clause-err g c).After-index).0) (λ w. tt))))

pub invariant_of-self-2 : goal.invariant_of-self-2
invariant_of-self-2 g c = let x = goal.at.invariant_of-self-2 g c in (done g x.In_ok-push (there g x.After-index)).world

pub returns-clause-ok : goal.returns-clause-ok
returns-clause-ok g c =
    let x = goal.at.returns-clause-ok g c in
    subst (λ (u : WorldValue). IsStep u (Ask c.args.number) (Asked c.len-question.result) (record (value_of c.self.inside) { asks = c.push.new.self.items })) c.self.view_is (done g x.In_ok-push (there g x.After-index)).step
