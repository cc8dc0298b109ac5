use Rattle.std.proofs.Common.{inr, rules}
use Rattle.std.proofs.lemmas.Result.{err_from_is_err_and}
use Rattle.rds_commands.specs.Edits.{IsNamed}
use Rattle.rds_commands.proofs.Named.{is_named, not_unnamed}
use Rattle.rds_commands.proofs.file_commands.init_file.Goals as goal

pub returns-in_err-file-clause-fault : goal.returns-in_err-file-clause-fault
returns-in_err-file-clause-fault g c =
    let p = err_from_is_err_and c.from_residual-in_err-file.result c.from_residual-in_err-file.ensures.1 in
    let named : IsNamed c.args.words.now c.in_ok-replica.replica = is_named c.args.words.now _ _ c.in_ok-replica.replica c.deref.result.now c.deref.ensures.value c.in_ok-roster.ensures.given c.in_ok-replica.ensures.ok in
    rw (p.1, p.2) (inr (inr (c.in_ok-replica.replica, named, c.in_err-file.ensures.fault)))

pub returns-clause-made : goal.returns-clause-made
returns-clause-made g c = search rules steps 2000000

pub returns-clause-words : goal.returns-clause-words
returns-clause-words g c =
    let named : IsNamed c.args.words.now c.in_ok-replica.replica = is_named c.args.words.now _ _ c.in_ok-replica.replica c.deref.result.now c.deref.ensures.value c.in_ok-roster.ensures.given c.in_ok-replica.ensures.ok in
    λ fault due. not_unnamed c.args.words.now c.in_ok-replica.replica fault named due

pub returns-in_err-file-clause-words : goal.returns-in_err-file-clause-words
returns-in_err-file-clause-words g c = search rules steps 1000000

pub returns-in_err-roster-clause-fault : goal.returns-in_err-roster-clause-fault
returns-in_err-roster-clause-fault g c = search rules steps 1000000

pub returns-in_err-roster-clause-words : goal.returns-in_err-roster-clause-words
returns-in_err-roster-clause-words g c = search rules steps 1000000
