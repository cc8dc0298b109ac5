use Rattle.std.proofs.Common.{List, length, option_map, sym, subst}
use Rattle.rds_state.specs.Fits.{Fits, ReplicaValue}
use Rattle.rds_state.specs.Value.{StateValue, coordinates}
use Rattle.rds_store.proofs.ChangeLemmas.{IsAll, change_of}
use Rattle.rds_store.proofs.drafts.noted_in.Goals as goal

pub returns-in-Ok : goal.returns-in-Ok
returns-in-Ok c =
    let fits = subst (λ (v : ReplicaValue). Fits (length v.roster.names) (coordinates v.state)) c.replica.ensures c.state-within.ensures.fits in
    let all = subst (λ (ds : List StateValue). IsAll c.in-Ok.delta ds) c.deref.ensures.value c.in-Ok.ensures in
    change_of c.args.changes.now c.args.document.now c.in_ok-deltas.deltas.now c.in-Ok.delta (option_map (λ r. r.now) c.roster.result) c.requires.since (sym c.in_ok-deltas.ensures.value) all fits c.roster.ensures
