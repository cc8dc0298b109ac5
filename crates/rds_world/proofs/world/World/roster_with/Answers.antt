use Rattle.std.proofs.Common.{rules, ◌≡◌, ◌≤◌, ◌<◌, ◌∙◌, ◌∷◌, [], IfOk, IfErr, ap, subst, length}
use Rattle.rds_names.specs.Gives.{Gives}
use Rattle.rds_names.specs.Roster.{RosterValue, grown_of}
use Rattle.rds_names.specs.declared.fault.Fault.TheVariants.{NoSuch, WrongRoster}
use Rattle.rds_state.specs.Fits.{ReplicaValue}
use Rattle.rds_world.specs.declared.event.Event.TheVariants.{Grow}
use Rattle.rds_world.specs.Steps.{IsStopped, MayGrow}
use Rattle.rds_world.specs.Stored.{WorldValue}
use Rattle.rds_world.proofs.Grown.{IsGrower, grow_absent, grow_behind, may_grow_if, may_not_if}
use Rattle.rds_world.proofs.Performed.{value_of}
use Rattle.rds_world.proofs.Tables.{read_there}
use Rattle.rds_world.proofs.world.World.roster_with.Given.{Over}
use Rattle.rds_world.proofs.world.World.roster_with.Goals.{After-roster-own, After-grown}
use Rattle.rds_world.proofs.world.World.roster_with.Goals as goal

-- who grows
grower : (g : Over) (c : After-roster-own g) → IsGrower (value_of c.self.inside) c.args.number c.index.result.now c.roster-own.result.now
grower g c =
    let below : c.args.number < length c.self.inside.memory.items = search rules in
    record {
      below = below;
      there = read_there c.self.inside.memory.items c.from-at.result c.args.number c.index.result.now c.from-at.ensures below c.index.ensures;
      roster = c.roster-own.ensures ∙ ap (λ (z : ReplicaValue). z.roster) c.replica.ensures;
    }

-- it knows all names
knows : (g : Over) (c : After-grown g) → c.roster-own.result.now ≡ c.index.result.now.roster
    → (length c.self.inside.memory.items ≤ length c.index.result.now.roster.names) × Gives c.grown.result (grown_of c.index.result.now.roster (c.args.name ∷ []))
knows g c same =
    let all : length c.self.inside.memory.items ≤ length c.roster-own.result.now.names = search rules in
    (subst (λ (o : RosterValue). length c.self.inside.memory.items ≤ length o.names) same all, subst (λ (o : RosterValue). Gives c.grown.result (grown_of o (c.args.name ∷ []))) same c.grown.ensures)

pub returns-then-at-len-clause-err : goal.returns-then-at-len-clause-err
returns-then-at-len-clause-err g c =
    let v = value_of c.self.inside in
    let absent : length v.memory ≤ c.args.number = search rules in
    subst (λ (u : WorldValue). IsStopped u (Grow c.args.number c.args.name) NoSuch u) c.self.view_is (grow_absent v c.args.number c.args.name absent)

pub returns-then-from-len-clause-err : goal.returns-then-from-len-clause-err
returns-then-from-len-clause-err g c =
    let v = value_of c.self.inside in
    let is = grower g (goal.at.returns-then-from-len-clause-err g c).After-roster-own in
    let m = c.index.result.now in
    let less : length c.roster-own.result.now.names < length v.memory = search rules in
    let short : length m.roster.names < length v.memory = subst (λ (o : RosterValue). length o.names < length v.memory) is.roster less in
    subst (λ (u : WorldValue). IsStopped u (Grow c.args.number c.args.name) WrongRoster u) c.self.view_is (grow_behind v c.self.invariant c.args.number c.args.name m is.below is.there short)

pub returns-clause-ok : goal.returns-clause-ok
returns-clause-ok g c =
    let x = goal.at.returns-clause-ok g c in
    let v = value_of c.self.inside in
    let is = grower g x.After-roster-own in
    let so = knows g x.After-grown is.roster in
    subst (λ (u : WorldValue). IfOk c.grown.result (MayGrow u c.args.number c.args.name)) c.self.view_is (may_grow_if v c.self.invariant c.args.number c.args.name c.index.result.now is.below is.there so.0 c.grown.result so.1)

pub returns-clause-err : goal.returns-clause-err
returns-clause-err g c =
    let x = goal.at.returns-clause-err g c in
    let v = value_of c.self.inside in
    let is = grower g x.After-roster-own in
    let so = knows g x.After-grown is.roster in
    subst (λ (u : WorldValue). IfErr c.grown.result (λ fault. IsStopped u (Grow c.args.number c.args.name) fault u)) c.self.view_is
    (may_not_if v c.self.invariant c.args.number c.args.name c.index.result.now is.below is.there so.0 c.grown.result so.1)
