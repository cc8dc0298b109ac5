use Rattle.std.proofs.Common.{ap, inl, inr, subst, sym}
use Rattle.std.proofs.lemmas.Result.{err_from_is_err_and}
use Rattle.rds_files.specs.Files.{KeptFile}
use Rattle.rds_state.specs.Fits.{ReplicaValue}
use Rattle.rds_offline.specs.Next.{IsNextOf}
use Rattle.rds_offline.proofs.copies.create_next.Goals as goal

pub returns-in_err-next-clause-fault : goal.returns-in_err-next-clause-fault
returns-in_err-next-clause-fault g c =
    let p = err_from_is_err_and c.from_residual.result c.from_residual.ensures.1 in
    rw (p.1, p.2) (inl c.in_err-next.ensures.fault)

pub returns-in_err-file-clause-fault : goal.returns-in_err-file-clause-fault
returns-in_err-file-clause-fault g c =
    let p = err_from_is_err_and c.from_residual-in_err-file.result c.from_residual-in_err-file.ensures.1 in
    rw (p.1, p.2) (inr (c.in_ok-next.next, c.in_ok-next.ensures.next, c.in_err-file.ensures.fault))

pub returns-clause-next : goal.returns-clause-next
returns-clause-next g c =
    subst (λ (v : ReplicaValue). IsNextOf c.args.source.now c.args.name v) (sym (ap (λ (f : KeptFile). f.kept) c.in_ok-file.ensures.made)) c.in_ok-next.ensures.next
