use Rattle.std.proofs.Common.{◌≡◌, None, Some, refl, slice_get, subst}
use Rattle.rds_names.specs.Roster.{Begins}
use Rattle.rds_world.specs.Stored.{WorldValue}
use Rattle.rds_world.proofs.Tables.{looked_up, looked_past}
use Rattle.rds_world.proofs.world.World.kept.Given.{Over}
use Rattle.rds_world.proofs.world.World.kept.Goals.{In-Some}
use Rattle.rds_world.proofs.world.World.kept.Goals as goal

there : (g : Over) (c : In-Some g) → slice_get c.self.inside.kept.items c.args.number ≡ Some c.in-Some.kept.now
there g c = let look = c.in-Some.ensures.lookup in looked_up c.deref.result.now c.self.inside.kept.items c.from.result c.args.number c.in-Some.kept.now c.deref.ensures.value c.from.ensures look.3.0 look.1

pub returns-in-Some-clause-own : goal.returns-in-Some-clause-own
returns-in-Some-clause-own g c = (c.self.invariant.kept c.args.number c.in-Some.kept.now (there g (goal.at.returns-in-Some-clause-own g c).In-Some)).1

pub returns-in-Some-clause-roster : goal.returns-in-Some-clause-roster
returns-in-Some-clause-roster g c =
    let is = there g (goal.at.returns-in-Some-clause-roster g c).In-Some in
    subst (λ (v : WorldValue). Begins c.in-Some.kept.now.roster v.roster) c.self.view_is (c.self.invariant.kept c.args.number c.in-Some.kept.now is).0

pub returns-in-None-clause-absent : goal.returns-in-None-clause-absent
returns-in-None-clause-absent g c =
    (refl, subst (λ (v : WorldValue). slice_get v.kept c.args.number ≡ None) c.self.view_is (looked_past c.deref.result.now c.self.inside.kept.items c.from.result c.args.number c.deref.ensures.value c.from.ensures c.in-None.ensures.lookup.3))
