use Rattle.std.proofs.Common.{refl}
use Rattle.std.proofs.lemmas.Result.{err_from_is_err_and}
use Rattle.rds_commands.proofs.Growing.{grows_file, names_are, no_grown, no_names, no_replica, not_unnamed, why_no_names}
use Rattle.rds_commands.proofs.file_commands.grow_file.Goals as goal

pub returns-in_err-names-clause-fault : goal.returns-in_err-names-clause-fault
returns-in_err-names-clause-fault g c =
    let p = err_from_is_err_and c.from_residual.result c.from_residual.ensures.1 in
    rw (p.1, p.2) (no_names c.args.words.now c.deref.result.now c.in_err-names.field-0.0 c.deref.ensures.value c.in_err-names.ensures)

pub returns-in_err-names-clause-words : goal.returns-in_err-names-clause-words
returns-in_err-names-clause-words g c =
    let p = err_from_is_err_and c.from_residual.result c.from_residual.ensures.1 in
    λ fault due. why_no_names c.args.words.now c.deref.result.now c.in_err-names.field-0.0 c.deref.ensures.value c.in_err-names.ensures p.0 fault c.from_residual.result p.1 p.2 due

pub returns-in_err-opened-clause-fault : goal.returns-in_err-opened-clause-fault
returns-in_err-opened-clause-fault g c =
    let p = err_from_is_err_and c.from_residual-in_err-opened.result c.from_residual-in_err-opened.ensures.1 in
    let asked = names_are c.args.words.now c.deref.result.now c.in_ok-names.names.items _ c.deref.ensures.value c.in_ok-names.ensures refl in
    rw (p.1, p.2) (no_replica c.args.words.now _ c.in_err-opened.field-0.0 asked c.in_err-opened.ensures.fault)

pub returns-in_err-opened-clause-words : goal.returns-in_err-opened-clause-words
returns-in_err-opened-clause-words g c = λ fault due.
    not_unnamed c.args.words.now _ fault (names_are c.args.words.now c.deref.result.now c.in_ok-names.names.items _ c.deref.ensures.value c.in_ok-names.ensures refl) due

pub returns-in_err-done-clause-fault : goal.returns-in_err-done-clause-fault
returns-in_err-done-clause-fault g c =
    let p = err_from_is_err_and c.from_residual-in_err-done.result c.from_residual-in_err-done.ensures.1 in
    let asked = names_are c.args.words.now c.deref.result.now c.in_ok-names.names.items c.as_slice.result.now c.deref.ensures.value c.in_ok-names.ensures c.as_slice.ensures.value in
    rw (p.1, p.2) (no_grown c.args.words.now c.as_slice.result.now c.in_ok-opened.opened.kept c.in_err-done.field-0.0 asked c.in_err-done.ensures.fault)

pub returns-in_err-done-clause-words : goal.returns-in_err-done-clause-words
returns-in_err-done-clause-words g c = λ fault due.
    not_unnamed c.args.words.now _ fault (names_are c.args.words.now c.deref.result.now c.in_ok-names.names.items _ c.deref.ensures.value c.in_ok-names.ensures refl) due

pub returns-clause-grown : goal.returns-clause-grown
returns-clause-grown g c =
    let asked = names_are c.args.words.now c.deref.result.now c.in_ok-names.names.items c.as_slice.result.now c.deref.ensures.value c.in_ok-names.ensures c.as_slice.ensures.value in
    grows_file c.args.words.now c.as_slice.result.now c.in_ok-opened.opened c.in_ok-done.done.file c.in_ok-done.done.answer c.in_ok-opened.ensures.held asked c.in_ok-done.ensures.path c.in_ok-done.ensures.before
    c.in_ok-done.ensures.grown c.in_ok-done.ensures.told

pub returns-clause-words : goal.returns-clause-words
returns-clause-words g c = λ fault due.
    not_unnamed c.args.words.now _ fault (names_are c.args.words.now c.deref.result.now c.in_ok-names.names.items _ c.deref.ensures.value c.in_ok-names.ensures refl) due
