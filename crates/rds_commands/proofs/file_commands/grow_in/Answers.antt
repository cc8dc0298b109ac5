use Rattle.std.proofs.Common.{ap}
use Rattle.std.proofs.lemmas.Result.{err_from_is_err_and}
use Rattle.rds_files.specs.Files.{ReplacedValue}
use Rattle.rds_commands.proofs.Changed.{changed_by_names, changed_in}
use Rattle.rds_commands.proofs.Growing.{kept_growth, no_growth, unkept_growth}
use Rattle.rds_commands.proofs.file_commands.grow_in.Goals as goal

pub returns-in_err-roster-clause-fault : goal.returns-in_err-roster-clause-fault
returns-in_err-roster-clause-fault g c =
    let p = err_from_is_err_and c.from_residual.result c.from_residual.ensures.1 in
    rw (p.1, p.2) (no_growth c.args.names.now c.args.file.kept _ c.in_err-roster.field-0.0 c.into_parts-replica.ensures.replica c.in_err-roster.ensures.refusal)

pub returns-in_err-file-clause-fault : goal.returns-in_err-file-clause-fault
returns-in_err-file-clause-fault g c =
    let p = err_from_is_err_and c.from_residual-in_err-file.result c.from_residual-in_err-file.ensures.1 in
    rw (p.1, p.2) (unkept_growth c.args.names.now c.args.file.kept _ c.grow.new.replica c.in_err-file.field-0.0 c.into_parts-replica.ensures.replica c.in_ok-roster.ensures.grown c.in_err-file.ensures.fault)

pub returns-clause-grown : goal.returns-clause-grown
returns-clause-grown g c =
    kept_growth c.args.names.now c.args.file.kept _ c.grow.new.replica c.in_ok-file.file.kept c.into_parts-replica.ensures.replica c.in_ok-roster.ensures.grown (ap (λ (f : ReplacedValue). f.kept) c.in_ok-file.ensures.replaced)

pub keep-requires : goal.keep-requires
keep-requires g c =
    record {
      changed = changed_in c.args.file c.into_parts-replica.result.1 _ c.grow.new.replica _ c.into_parts-replica.ensures.replica c.into_parts-replica.ensures.file
          (changed_by_names c.args.names.now _ c.grow.new.replica c.in_ok-roster.roster c.empty-nothing.result c.in_ok-roster.ensures.grown c.in_ok-roster.ensures.roster c.empty-nothing.ensures.lives c.empty-nothing.ensures.counts);
    }
