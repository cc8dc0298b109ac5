use Rattle.std.proofs.Common.{Err, Ok}
use Rattle.std.proofs.lemmas.Result.{err_from_is_err_and}
use Rattle.rds_commands.proofs.Growing.{is_grown, isnt_refused}
use Rattle.rds_commands.proofs.file_commands.grow.Goals as goal

pub returns-clause-grown : goal.returns-clause-grown
returns-clause-grown g c =
    is_grown c.args.names.now c.args.replica.now c.grow.new.self c.in_ok-grown.grown (rw c.roster.ensures at c.in_ok-grown.ensures) (Ok c.in_ok-grow.field-0) c.in_ok-grow.ensures.roster c.grow.ensures.own c.grow.ensures.state

pub returns-clause-refusal : goal.returns-clause-refusal
returns-clause-refusal g c =
    isnt_refused c.args.names.now c.args.replica.now c.grow.new.self c.in_ok-grown.grown (rw c.roster.ensures at c.in_ok-grown.ensures) (Ok c.in_ok-grow.field-0) c.in_ok-grow.ensures.gives

pub returns-in_err-grow-clause-refusal : goal.returns-in_err-grow-clause-refusal
returns-in_err-grow-clause-refusal g c =
    let p = err_from_is_err_and c.from_residual-in_err-grow.result c.from_residual-in_err-grow.ensures.1 in
    rw (p.1, p.2) (isnt_refused c.args.names.now c.args.replica.now c.grow.new.self c.in_ok-grown.grown (rw c.roster.ensures at c.in_ok-grown.ensures) (Err c.in_err-grow.field-0.0) c.in_err-grow.ensures.gives)
