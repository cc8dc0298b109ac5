use Rattle.std.proofs.Common.{inl, inr}
use Rattle.std.proofs.lemmas.Result.{err_from_is_err_and}
use Rattle.rds_commands.proofs.Compacted.{compacts_file}
use Rattle.rds_commands.proofs.file_commands.compact_file.Goals as goal

pub returns-in_err-held-clause-fault : goal.returns-in_err-held-clause-fault
returns-in_err-held-clause-fault g c =
    let p = err_from_is_err_and c.from_residual.result c.from_residual.ensures.1 in
    rw (p.1, p.2) (inl c.in_err-held.ensures.fault)

pub returns-in_err-file-clause-fault : goal.returns-in_err-file-clause-fault
returns-in_err-file-clause-fault g c =
    let p = err_from_is_err_and c.from_residual-in_err-file.result c.from_residual-in_err-file.ensures.1 in
    rw (p.1, p.2) (inr (_, c.in_err-file.ensures.fault))

pub returns-clause-same : goal.returns-clause-same
returns-clause-same g c =
    compacts_file c.args.path.now c.in_ok-held.held c.into_parts-replica.result.0 c.into_parts-replica.result.1 c.in_ok-file.file c.in_ok-held.ensures.held c.into_parts-replica.ensures.replica
    c.into_parts-replica.ensures.file c.in_ok-file.ensures.replaced
