use Rattle.std.proofs.Common.{ap, inl, refl}
use Rattle.std.proofs.lemmas.Result.{err_from_is_err_and}
use Rattle.rds_files.specs.Files.{ReplacedValue}
use Rattle.rds_lines.specs.Lines.{lines_in}
use Rattle.rds_commands.proofs.Batches.{kept_lines, unkept_lines}
use Rattle.rds_commands.proofs.Changed.{changed_in}
use Rattle.rds_commands.proofs.batch.edit_in_by.Goals as goal

pub keep-requires : goal.keep-requires
keep-requires g c =
    record {
      changed = changed_in c.args.file c.into_parts-replica.result.1 c.into_parts-replica.result.0 c.in_ok-replica.field-0.replica _ c.into_parts-replica.ensures.replica c.into_parts-replica.ensures.file c.in_ok-replica.ensures.changed;
    }

pub returns-in_err-replica-clause-fault : goal.returns-in_err-replica-clause-fault
returns-in_err-replica-clause-fault g c =
    let p = err_from_is_err_and c.from_residual.result c.from_residual.ensures.1 in
    rw (p.1, p.2) (inl c.in_err-replica.ensures.memory)

pub returns-in_err-file-clause-fault : goal.returns-in_err-file-clause-fault
returns-in_err-file-clause-fault g c =
    let p = err_from_is_err_and c.from_residual-in_err-file.result c.from_residual-in_err-file.ensures.1 in
    rw (p.1, p.2) (unkept_lines (lines_in c.args.input.now) c.args.file.kept c.into_parts-replica.result.0 c.in_ok-replica.field-0.replica c.in_ok-replica.field-0.replica c.in_ok-replica.field-0.answers.items c.in_err-file.field-0.0
    c.into_parts-replica.ensures.replica c.in_ok-replica.ensures.edited refl c.in_err-file.ensures.fault)

pub returns-clause-edited : goal.returns-clause-edited
returns-clause-edited g c =
    kept_lines (lines_in c.args.input.now) c.args.file.kept c.into_parts-replica.result.0 c.in_ok-replica.field-0.replica c.in_ok-file.file.kept c.in_ok-replica.field-0.answers.items c.into_parts-replica.ensures.replica
    c.in_ok-replica.ensures.edited (ap (λ (f : ReplacedValue). f.kept) c.in_ok-file.ensures.replaced)
