use Rattle.std.proofs.Common.{arith}
use Rattle.std.proofs.lemmas.Result.{err_from_is_err_and}
use Rattle.rds_briefs.proofs.PackedFronts.{packed_found, packed_kept, packed_fewer}
use Rattle.rds_briefs.proofs.reading.take_packed.Goals as goal

pub returns-in_err-number-clause-text : goal.returns-in_err-number-clause-text
returns-in_err-number-clause-text c =
    let p = err_from_is_err_and c.from_residual.result c.from_residual.ensures.1 in
    rw (p.1, p.2) (λ n rest le is. packed_kept c.packed_numbers_have_one_text.ensures c.args.bytes.now c.in_err-number.field-0.0 n rest c.in_err-number.ensures.read le is)

pub returns-clause-text : goal.returns-clause-text
returns-clause-text c = λ n rest le is. packed_found c.packed_numbers_have_one_text.ensures c.args.bytes.now c.in_ok-number.number n c.in_ok-number.rest.now rest c.in_ok-number.ensures.read le is

pub returns-clause-fewer : goal.returns-clause-fewer
returns-clause-fewer c = packed_fewer c.packed_numbers_have_one_text.ensures c.args.bytes.now (λ i. omega (arith, c.type_inv.bytes i)) c.in_ok-number.number c.in_ok-number.rest.now c.in_ok-number.ensures.read
