use Rattle.std.proofs.Common.{subst, rules}
use Rattle.rds_state.specs.Fits.{ReplicaValue}
use Rattle.rds_names.specs.Roster.{OneBegins}
use Rattle.rds_state.proofs.GrownLemmas.{gives_with}
use Rattle.rds_state.proofs.replica.Replica.take_with.Goals as goal

pub returns-then-len : goal.returns-then-len
returns-then-len g c =
    let old = c.args.self.now in
    let meets = subst (λ (v : ReplicaValue). OneBegins v.roster c.args.roster) c.self.view_is c.in_ok-may_meet.ensures in
    record {
      ok = search rules;
      gives = gives_with old.roster c.args.roster old.state old.own c.args.delta.now c.take.result meets c.take.ensures.gives;
      nothing = search rules;
      roster = search rules;
      own = search rules;
      err = search rules;
    }
