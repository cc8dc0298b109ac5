use Rattle.std.proofs.Common.{◌≡◌, ◌∙◌, ◌↔◌, ap, cond, length, nat_le, subst, sym}
use Rattle.std.specs.Prelude.{IsTrue, None, Some}
use Rattle.std.proofs.lemmas.Result.{err_from_is_err_and}
use Rattle.rds_names.specs.Roster.{RosterValue}
use Rattle.rds_state.specs.Fits.{ReplicaValue}
use Rattle.rds_state.specs.Value.{coordinates}
use Rattle.rds_keep.specs.Changes.{IsChanged}
use Rattle.rds_files.specs.Files.{KeptFile, ReplacedValue}
use Rattle.rds_questions.specs.Forks.{TellsFork}
use Rattle.rds_questions.specs.Receiving.{ReceivedValue}
use Rattle.rds_offline.specs.Letters.{IsTakenFrom}
use Rattle.rds_offline.proofs.Lettered.{is_taken, no_take, unkept_take, untold_take}
use Rattle.rds_offline.proofs.Changed.{is_changed}
use Rattle.rds_offline.proofs.Longer.{longer_fits}
use Rattle.rds_offline.proofs.letters.take_in.Goals as goal

pub keep-requires : goal.keep-requires
keep-requires g c =
    let old = c.into_parts-replica.result.0 in
    let new = c.take_response.new.held in
    let replicas = c.len-replicas.result in
    let change = c.change_by-change.result in
    let came = c.args.received.now in
    let took = c.in_ok-take_response.ensures in
    let many : replicas ≡ length old.roster.names = c.len-replicas.ensures.names ∙ ap (λ (r : RosterValue). length r.names) c.roster.ensures in
    let told = c.change_by-change.ensures.roster ∙ ap (λ (x : ReceivedValue). cond (nat_le (length x.roster.names) replicas) None (Some x.roster)) c.received.view_is in
    let delta = c.change_by-change.ensures.delta ∙ ap (λ (x : ReceivedValue). x.delta) c.received.view_is in
    record {
      changed = subst (λ (v : ReplicaValue). IsChanged v change new) (c.into_parts-replica.ensures.replica ∙ sym (ap (λ (f : KeptFile). f.kept) c.into_parts-replica.ensures.file))
          (is_changed old new came.roster came.delta replicas change many told delta took.takes.1.0 took.roster took.own took.ok
          (longer_fits old.roster came.roster new.roster (coordinates came.delta) took.roster c.requires.fits));
    }

pub returns-in_err-take_response-clause-fault : goal.returns-in_err-take_response-clause-fault
returns-in_err-take_response-clause-fault g c =
    let p = err_from_is_err_and c.from_residual.result c.from_residual.ensures.1 in
    rw (p.1, p.2) (no_take c.args.asked.now c.args.received.now c.args.file.kept _ c.in_err-take_response.field-0.0 c.into_parts-replica.ensures.replica c.in_err-take_response.ensures.takes)

pub returns-in_err-forked-clause-fault : goal.returns-in_err-forked-clause-fault
returns-in_err-forked-clause-fault g c =
    let p = err_from_is_err_and c.from_residual-in_err-forked.result c.from_residual-in_err-forked.ensures.1 in
    rw (p.1, p.2) (untold_take c.args.asked.now c.args.received.now c.args.file.kept _ c.take_response.new.held c.in_err-forked.field-0.0 c.into_parts-replica.ensures.replica c.in_ok-take_response.ensures.takes
    c.in_ok-take_response.ensures.ok c.in_ok-take_response.ensures.roster c.in_ok-take_response.ensures.own c.in_err-forked.ensures.fault)

pub returns-in_err-file-clause-fault : goal.returns-in_err-file-clause-fault
returns-in_err-file-clause-fault g c =
    let p = err_from_is_err_and c.from_residual-in_err-file.result c.from_residual-in_err-file.ensures.1 in
    rw (p.1, p.2) (unkept_take c.args.asked.now c.args.received.now c.args.file.kept _ c.take_response.new.held c.in_err-file.field-0.0 c.into_parts-replica.ensures.replica c.in_ok-take_response.ensures.takes
    c.in_ok-take_response.ensures.ok c.in_ok-take_response.ensures.roster c.in_ok-take_response.ensures.own c.in_err-file.ensures.fault)

pub returns-clause-taken : goal.returns-clause-taken
returns-clause-taken g c =
    let kept = ap (λ (f : ReplacedValue). f.kept) c.in_ok-file.ensures.replaced in
    subst (IsTakenFrom c.args.received.now c.args.file.kept) (sym kept)
    (is_taken c.args.asked.now c.args.received.now c.args.file.kept _ c.take_response.new.held c.into_parts-replica.ensures.replica c.in_ok-take_response.ensures.takes
    c.in_ok-take_response.ensures.ok c.in_ok-take_response.ensures.roster c.in_ok-take_response.ensures.own)

pub returns-clause-forked : goal.returns-clause-forked
returns-clause-forked g c =
    let kept = ap (λ (f : ReplacedValue). f.kept) c.in_ok-file.ensures.replaced in
    subst (λ (v : ReplicaValue). IsTrue c.in_ok-forked.forked ↔ TellsFork v c.args.received.now) (sym kept) c.in_ok-forked.ensures.told
