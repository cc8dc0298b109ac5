use Rattle.std.proofs.lemmas.Result.{err_from_is_err_and}
use Rattle.rds_commands.proofs.Getting.{no_answer, no_file, no_place, not_bad, not_root}
use Rattle.rds_commands.proofs.looking.get_file.Goals as goal

pub returns-in_err-above-clause-path : goal.returns-in_err-above-clause-path
returns-in_err-above-clause-path g c = λ fault due. not_bad c.args.text.now c.in_ok-keys.keys c.in_ok-keys.ensures.value fault due

pub returns-in_err-above-clause-fault : goal.returns-in_err-above-clause-fault
returns-in_err-above-clause-fault g c =
    let p = err_from_is_err_and c.from_residual-in_err-above.result c.from_residual-in_err-above.ensures.1 in
    rw (p.1, p.2) (no_place c.args.text.now c.in_ok-keys.keys c.in_ok-keys.ensures.value c.in_err-above.field-0.0 c.in_err-above.ensures.fault)

pub returns-in_err-file-clause-path : goal.returns-in_err-file-clause-path
returns-in_err-file-clause-path g c = λ fault due. not_bad c.args.text.now c.in_ok-keys.keys c.in_ok-keys.ensures.value fault due

pub returns-in_err-file-clause-root : goal.returns-in_err-file-clause-root
returns-in_err-file-clause-root g c = λ none. not_root c.args.text.now c.in_ok-keys.keys c.in_ok-keys.ensures.value c.in_ok-above.above c.in_ok-above.key c.in_ok-above.ensures.place none

pub returns-in_err-file-clause-fault : goal.returns-in_err-file-clause-fault
returns-in_err-file-clause-fault g c =
    let p = err_from_is_err_and c.from_residual-in_err-file.result c.from_residual-in_err-file.ensures.1 in
    rw (p.1, p.2) (no_file c.args.text.now c.in_ok-keys.keys c.in_ok-keys.ensures.value c.in_ok-above.above c.in_ok-above.key c.in_err-file.field-0.0 c.in_ok-above.ensures.place c.in_err-file.ensures.fault)

pub returns-in_err-answer-clause-path : goal.returns-in_err-answer-clause-path
returns-in_err-answer-clause-path g c = λ fault due. not_bad c.args.text.now c.in_ok-keys.keys c.in_ok-keys.ensures.value fault due

pub returns-in_err-answer-clause-root : goal.returns-in_err-answer-clause-root
returns-in_err-answer-clause-root g c = λ none. not_root c.args.text.now c.in_ok-keys.keys c.in_ok-keys.ensures.value c.in_ok-above.above c.in_ok-above.key c.in_ok-above.ensures.place none

pub returns-in_err-answer-clause-fault : goal.returns-in_err-answer-clause-fault
returns-in_err-answer-clause-fault g c =
    let p = err_from_is_err_and c.from_residual-in_err-answer.result c.from_residual-in_err-answer.ensures.1 in
    rw (p.1, p.2) (no_answer c.args.text.now c.in_ok-keys.keys c.in_ok-keys.ensures.value c.in_err-answer.field-0.0 c.in_err-answer.ensures.memory)

pub returns-clause-path : goal.returns-clause-path
returns-clause-path g c = λ fault due. not_bad c.args.text.now c.in_ok-keys.keys c.in_ok-keys.ensures.value fault due

pub returns-clause-root : goal.returns-clause-root
returns-clause-root g c = λ none. not_root c.args.text.now c.in_ok-keys.keys c.in_ok-keys.ensures.value c.in_ok-above.above c.in_ok-above.key c.in_ok-above.ensures.place none
