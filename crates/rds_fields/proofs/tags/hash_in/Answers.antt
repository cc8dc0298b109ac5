use Rattle.std.proofs.Common.{◌≡◌, ◌∙◌, ap, sym}
use Rattle.hex.specs.Hex.{encode_lower}
use Rattle.rds_fields.proofs.TagTexts.{decoded, told_apart}
use Rattle.rds_fields.proofs.tags.hash_in.Goals as goal

pub returns-in_err-ok-clause-none : goal.returns-in_err-ok-clause-none
returns-in_err-ok-clause-none c none hash long are is =
    let read = decoded c.args.digits.now hash 32 c.decode_to_slice.result c.decode_to_slice.new.out long are is c.decode_to_slice.ensures.value in
    absurd (cc (rw read.0 at c.in_err-ok.ensures.variant))

pub returns-else-eq-clause-none : goal.returns-else-eq-clause-none
returns-else-eq-clause-none c none hash long are is =
    let read = decoded c.args.digits.now hash 32 c.decode_to_slice.result c.decode_to_slice.new.out long are is c.decode_to_slice.ensures.value in
    let same : c.as_slice.result.now ≡ c.args.digits.now = c.as_slice.ensures ∙ c.hash_digits.ensures ∙ ap encode_lower read.1 ∙ sym is in
    told_apart c.as_slice.result.now c.args.digits.now (sym c.eq.ensures ∙ c.if-eq.false) same
