use Rattle.std.proofs.Common.{◌∙◌, length, sym, subst, refl}
use Rattle.rds_state.specs.Fits.{ReplicaValue, Fits}
use Rattle.rds_state.specs.Value.{coordinates}
use Rattle.rds_state.proofs.FitsLemmas.{merge_fits}
use Rattle.rds_state.proofs.Nothing.{joins_nothing, takes_nothing}
use Rattle.rds_state.proofs.replica.Replica.take.Goals as goal

pub invariant_of-self : goal.invariant_of-self
invariant_of-self g c =
    let delta = c.args.delta.now in
    let fits = subst (λ (v : ReplicaValue). Fits (length v.roster.names) (coordinates delta)) (sym c.self.view_is) c.requires in
    record {
      own = c.self.invariant.own;
      fits = merge_fits (length c.self.inside.roster.names) c.self.inside.state delta c.merge.new.self c.merge.result c.merge.ensures.ok c.merge.ensures.err c.self.invariant.fits fits;
    }

pub returns-then-components-eq0 : goal.returns-then-components-eq0
returns-then-components-eq0 g c =
    let none = sym c.components.ensures ∙ c.if-components-eq0.true in
    record {
      ok = joins_nothing c.args.delta.now none c.args.self.now.state;
      gives = takes_nothing c.args.delta.now none c.args.self.now.state c.args.self.now.own;
      nothing = λ _. refl;
      roster = refl;
      own = refl;
      err = tt;
    }
