use Rattle.std.proofs.Common.{◌≡◌, ◌∙◌, ap, cond, length, nat_le, subst, sym}
use Rattle.std.specs.Prelude.{None, Some}
use Rattle.std.proofs.lemmas.Result.{err_from_is_err_and}
use Rattle.rds_names.specs.Roster.{RosterValue}
use Rattle.rds_state.specs.Fits.{ReplicaValue}
use Rattle.rds_keep.specs.Changes.{IsChanged}
use Rattle.rds_files.specs.Files.{KeptFile}
use Rattle.rds_offline.specs.Merging.{IsLackingPart}
use Rattle.rds_offline.proofs.Copied.{unkept_merge}
use Rattle.rds_offline.proofs.Changed.{is_changed}
use Rattle.rds_offline.proofs.copies.merge_in.Goals as goal

pub keep-requires : goal.keep-requires
keep-requires g c =
    let old = c.into_parts-replica.result.0 in
    let new = c.merge.new.held in
    let replicas = c.len-replicas.result in
    let change = c.change_by-change.result in
    let merged = c.in_ok-lacking.ensures.merged in
    let many : replicas ≡ length old.roster.names = c.len-replicas.ensures.names ∙ ap (λ (r : RosterValue). length r.names) c.roster.ensures in
    let told = c.change_by-change.ensures.roster ∙ ap (λ (r : RosterValue). cond (nat_le (length r.names) replicas) None (Some r)) c.roster-2.ensures in
    record {
      changed = subst (λ (v : ReplicaValue). IsChanged v change new) (c.into_parts-replica.ensures.replica ∙ sym (ap (λ (f : KeptFile). f.kept) c.into_parts-replica.ensures.file))
          (is_changed old new c.args.source.now.roster c.in_ok-lacking.lacking replicas change many told c.change_by-change.ensures.delta
          merged.rosters merged.roster merged.own c.in_ok-lacking.ensures.joined c.in_ok-lacking.ensures.fits);
    }

pub returns-clause-counted : goal.returns-clause-counted
returns-clause-counted g c = record {
  lacking = c.in_ok-lacking.lacking;
  is_least = subst (λ (v : ReplicaValue). IsLackingPart c.args.source.now v c.in_ok-lacking.lacking) c.into_parts-replica.ensures.replica c.in_ok-lacking.ensures.lacking;
  count = c.components-components.ensures;
}

pub returns-in_err-file-clause-fault : goal.returns-in_err-file-clause-fault
returns-in_err-file-clause-fault g c =
    let p = err_from_is_err_and c.from_residual-in_err-file.result c.from_residual-in_err-file.ensures.1 in
    rw (p.1, p.2) (unkept_merge c.args.source.now c.args.file.kept _ c.merge.new.held c.in_err-file.field-0.0 c.into_parts-replica.ensures.replica c.in_ok-lacking.ensures.merged c.in_err-file.ensures.fault)
