use Rattle.std.proofs.Common.{rules, ap}
use Rattle.std.proofs.lemmas.Result.{err_from_is_err_and}
use Rattle.rds_files.specs.Files.{ReplacedValue}
use Rattle.rds_commands.proofs.Changed.{changed_in}
use Rattle.rds_commands.proofs.Replaced.{kept_edit, refused_edit, unkept_edit}
use Rattle.rds_commands.proofs.file_commands.edit_in.Goals as goal

pub returns-in_err-file-clause-fault : goal.returns-in_err-file-clause-fault
returns-in_err-file-clause-fault g c =
    let p = err_from_is_err_and c.from_residual-in_err-file.result c.from_residual-in_err-file.ensures.1 in
    rw (p.1, p.2) (unkept_edit c.args.command c.args.file.kept _ c.edited.new.replica c.in_ok-answer.answer c.in_err-file.field-0.0
    c.into_parts-replica.ensures.replica c.in_ok-answer.ensures.refusal c.in_ok-answer.ensures.edited c.in_err-file.ensures.fault)

pub returns-in_err-answer-clause-fault : goal.returns-in_err-answer-clause-fault
returns-in_err-answer-clause-fault g c =
    let p = err_from_is_err_and c.from_residual.result c.from_residual.ensures.1 in
    rw (p.1, p.2) (refused_edit c.args.command c.args.file.kept _ c.in_err-answer.field-0.0 c.into_parts-replica.ensures.replica c.in_err-answer.ensures.refusal)

pub returns-clause-edited : goal.returns-clause-edited
returns-clause-edited g c =
    kept_edit c.args.command c.args.file.kept _ c.edited.new.replica c.in_ok-file.file.kept c.in_ok-answer.answer
    c.into_parts-replica.ensures.replica c.in_ok-answer.ensures.edited (ap (λ (f : ReplacedValue). f.kept) c.in_ok-file.ensures.replaced)

pub returns-clause-due : goal.returns-clause-due
returns-clause-due g c = search rules steps 1000000

pub keep-requires : goal.keep-requires
keep-requires g c =
    record {
      changed = changed_in c.args.file c.into_parts-replica.result.1 _ c.edited.new.replica _ c.into_parts-replica.ensures.replica c.into_parts-replica.ensures.file c.in_ok-answer.ensures.changed;
    }
