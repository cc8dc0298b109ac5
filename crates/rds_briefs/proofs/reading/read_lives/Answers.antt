use Rattle.std.proofs.lemmas.Result.{err_from_is_err_and}
use Rattle.rds_briefs.proofs.BitsRead.{no_byte, the_byte}
use Rattle.rds_briefs.proofs.FormsRead.{form_front, by_first, by_second, by_neither}
use Rattle.rds_briefs.proofs.reading.read_lives.Goals as goal

pub returns-in_err-form : goal.returns-in_err-form
returns-in_err-form g c =
    let p = err_from_is_err_and c.from_residual.result c.from_residual.ensures.1 in
    rw (p.1, p.2) (λ f rest is. absurd (no_byte c.args.bytes.now _ _ c.in_err-form.field-0.0 (form_front f c.args.first.seq c.args.count c.args.bytes.now rest is) c.in_err-form.ensures))

pub returns-then-form-eq0 : goal.returns-then-form-eq0
returns-then-form-eq0 g c = λ f rest is.
    let seq = c.args.first.seq in
    let count = c.args.count in
    let b = the_byte c.args.bytes.now c.in_ok-form.rest.now _ c.in_ok-form.form _ (form_front f seq count c.args.bytes.now rest is) c.in_ok-form.ensures in
    c.read_lengths.ensures f rest (by_first f seq count c.args.bytes.now rest is c.in_ok-form.form c.in_ok-form.rest.now b.0 b.1 c.if-form-eq0.true)

pub returns-then-form-eq1 : goal.returns-then-form-eq1
returns-then-form-eq1 g c = λ f rest is.
    let seq = c.args.first.seq in
    let count = c.args.count in
    let b = the_byte c.args.bytes.now c.in_ok-form.rest.now _ c.in_ok-form.form _ (form_front f seq count c.args.bytes.now rest is) c.in_ok-form.ensures in
    c.read_bits.ensures f rest (by_second f seq count c.args.bytes.now rest is c.in_ok-form.form c.in_ok-form.rest.now b.0 b.1 c.if-form-eq1.true)

pub returns : goal.returns
returns g c = λ f rest is.
    let seq = c.args.first.seq in
    let count = c.args.count in
    let b = the_byte c.args.bytes.now c.in_ok-form.rest.now _ c.in_ok-form.form _ (form_front f seq count c.args.bytes.now rest is) c.in_ok-form.ensures in
    absurd (by_neither f seq count c.args.bytes.now rest is c.in_ok-form.form c.in_ok-form.rest.now b.0 b.1 c.if-form-eq0.false c.if-form-eq1.false)
