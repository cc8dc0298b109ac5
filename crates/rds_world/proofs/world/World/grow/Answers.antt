use Rattle.std.proofs.Common.{rules, ◌≡◌, ◌∙◌, length, sym, subst, Err, slice_set}
use Rattle.rds_names.specs.declared.fault.Fault.TheVariants.{Memory}
use Rattle.rds_world.specs.declared.event.Event.TheVariants.{Grow}
use Rattle.rds_world.specs.declared.event.Done.TheVariants.{Plain}
use Rattle.rds_world.specs.Stands.{IsNew}
use Rattle.rds_world.specs.Steps.{IsStep, IsStopped, MayGrow}
use Rattle.rds_world.specs.Stored.{WorldValue}
use Rattle.rds_world.proofs.Grown.{grow_memory, grown_so, never_refused}
use Rattle.rds_world.proofs.Performed.{IsDoneTo, stopped_same, value_of}
use Rattle.rds_world.proofs.Sendings.{fault_is}
use Rattle.rds_world.proofs.world.World.grow.Given.{Over}
use Rattle.rds_world.proofs.world.World.grow.Goals.{In_ok-roster, In_err-grow, In_ok-grow}
use Rattle.rds_world.proofs.world.World.grow.Goals as goal

may : (g : Over) (c : In_ok-roster g) → MayGrow (value_of c.self.inside) c.args.number c.args.name c.in_ok-roster.roster
may g c = subst (λ (u : WorldValue). MayGrow u c.args.number c.args.name c.in_ok-roster.roster) (sym c.self.view_is) c.in_ok-roster.ensures.ok

no_memory : (g : Over) (c : In_ok-roster g) → IsStopped c.args.self.now (Grow c.args.number c.args.name) Memory c.args.self.now
no_memory g c =
    subst (λ (u : WorldValue). IsStopped u (Grow c.args.number c.args.name) Memory u) c.self.view_is (grow_memory (value_of c.self.inside) c.args.number c.args.name c.in_ok-roster.roster (may g c))

-- a longer roster is never refused
refused : (g : Over) (c : In_err-grow g) → MayGrow (value_of c.self.inside) c.args.number c.args.name c.in_ok-roster.roster → ⊥
refused g c so =
    never_refused (value_of c.self.inside) c.self.invariant c.args.number c.args.name c.in_ok-roster.roster so c.push_both.new.first.items c.push_both.new.second.items c.in_ok-index.index c.in_ok-index.kept
    c.in_ok-push_both.ensures.first c.in_ok-push_both.ensures.second c.from.result c.from.ensures c.index_mut.result.now c.index_mut.ensures.value c.in_ok-own.own c.in_ok-own.ensures.ok c.in_err-grow.field-0.0 c.in_err-grow.ensures.gives

done : (g : Over) (c : In_ok-grow g) → MayGrow (value_of c.self.inside) c.args.number c.args.name c.in_ok-roster.roster → IsDoneTo (value_of c.self.inside) (Grow c.args.number c.args.name) Plain (record {
  roster = c.in_ok-roster.roster;
  memory = slice_set c.push_both.new.first.items c.from.result c.grow.new.self;
  kept = c.push_both.new.second.items;
  asks = c.self.inside.asks.items;
  answers = c.self.inside.answers.items;
})
done g c so =
    let v = value_of c.self.inside in
    let roster = c.in_ok-roster.roster in
    let number : c.len.result ≡ length v.memory = search rules in
    let new : IsNew roster (length v.memory) c.in_ok-index.index = subst (λ k. IsNew roster k c.in_ok-index.index) number c.in_ok-index.ensures.memory in
    let kept : IsNew roster (length v.memory) c.in_ok-index.kept = subst (λ k. IsNew roster k c.in_ok-index.kept) number c.in_ok-index.ensures.kept in
    grown_so v c.self.invariant c.args.number c.args.name roster so c.push_both.new.first.items c.push_both.new.second.items c.in_ok-index.index c.in_ok-index.kept c.in_ok-push_both.ensures.first c.in_ok-push_both.ensures.second
    c.from.result c.from.ensures c.index_mut.result.now c.index_mut.ensures.value c.grow.new.self (c.in_ok-grow.ensures.roster ∙ c.in_ok-own.ensures.ok) c.in_ok-grow.ensures.own c.in_ok-grow.ensures.state new kept

pub returns-in_err-index-clause-err : goal.returns-in_err-index-clause-err
returns-in_err-index-clause-err g c =
    let is : c.from_residual-in_err-index.result ≡ Err Memory = search rules in
    fault_is _ _ Memory is (no_memory g (goal.at.returns-in_err-index-clause-err g c).In_ok-roster)

pub returns-in_err-own-clause-err : goal.returns-in_err-own-clause-err
returns-in_err-own-clause-err g c =
    let is : c.from_residual-in_err-own.result ≡ Err Memory = search rules in
    fault_is _ _ Memory is (no_memory g (goal.at.returns-in_err-own-clause-err g c).In_ok-roster)

pub returns-in_err-push_both-clause-err : goal.returns-in_err-push_both-clause-err
returns-in_err-push_both-clause-err g c =
    let v = value_of c.self.inside in
    let n = c.args.number in
    let name = c.args.name in
    let is : c.from_residual-in_err-push_both.result ≡ Err Memory = search rules in
    let same = c.in_err-push_both.ensures.unchanged in
    let u : WorldValue = record v { memory = c.push_both.new.first.items; kept = c.push_both.new.second.items } in
    let so = may g (goal.at.returns-in_err-push_both-clause-err g c).In_ok-roster in
    fault_is _ _ Memory is (subst (λ (w : WorldValue). IsStopped w (Grow n name) Memory u) c.self.view_is
    (stopped_same v u (Grow n name) Memory (λ j. record v { memory = same.0 j; kept = same.1 j }) (grow_memory v n name c.in_ok-roster.roster so)))

pub invariant_of-self-in_err-grow : goal.invariant_of-self-in_err-grow
invariant_of-self-in_err-grow g c = let x = goal.at.invariant_of-self-in_err-grow g c in absurd (refused g x.In_err-grow (may g x.In_ok-roster))

pub returns-in_err-grow-clause-err : goal.returns-in_err-grow-clause-err
returns-in_err-grow-clause-err g c = let x = goal.at.returns-in_err-grow-clause-err g c in absurd (refused g x.In_err-grow (may g x.In_ok-roster))

pub invariant_of-self-2 : goal.invariant_of-self-2
invariant_of-self-2 g c = let x = goal.at.invariant_of-self-2 g c in (done g x.In_ok-grow (may g x.In_ok-roster)).world

pub returns-clause-ok : goal.returns-clause-ok
returns-clause-ok g c =
    let x = goal.at.returns-clause-ok g c in
    let v = value_of c.self.inside in
    subst (λ (u : WorldValue). IsStep u (Grow c.args.number c.args.name) Plain (record { roster = c.in_ok-roster.roster; memory = slice_set c.push_both.new.first.items c.from.result c.grow.new.self; kept = c.push_both.new.second.items; asks = v.asks; answers = v.answers })) c.self.view_is
    (done g x.In_ok-grow (may g x.In_ok-roster)).step
