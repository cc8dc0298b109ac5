use Rattle.std.proofs.Common.{◌≡◌, ◌∙◌, ap, sym, refl}
use Rattle.std.specs.Int.{from_be_bytes, to_be_bytes, w64}
use Rattle.std.proofs.lemmas.Nat.{from_be_bytes-to_be_bytes_8}
use Rattle.rds_fields.specs.Tags.{mark_half}
use Rattle.rds_fields.proofs.TagTexts.{are_bytes, decoded, told_apart}
use Rattle.rds_fields.proofs.tags.half_in.Goals as goal

pub returns-in_err-ok-clause-none : goal.returns-in_err-ok-clause-none
returns-in_err-ok-clause-none c none half fits is =
    let read = decoded c.args.digits.now (to_be_bytes w64 half) 8 c.decode_to_slice.result c.decode_to_slice.new.out refl (are_bytes half) is c.decode_to_slice.ensures.value in
    absurd (cc (rw read.0 at c.in_err-ok.ensures.variant))

pub returns-else-eq-clause-none : goal.returns-else-eq-clause-none
returns-else-eq-clause-none c none half fits is =
    let read = decoded c.args.digits.now (to_be_bytes w64 half) 8 c.decode_to_slice.result c.decode_to_slice.new.out refl (are_bytes half) is c.decode_to_slice.ensures.value in
    let number : c.from_be_bytes-half.result ≡ half = c.from_be_bytes-half.ensures ∙ ap (from_be_bytes w64) read.1 ∙ from_be_bytes-to_be_bytes_8 half fits in
    let same : c.as_slice.result.now ≡ c.args.digits.now = c.as_slice.ensures ∙ c.half_digits.ensures ∙ ap mark_half number ∙ sym is in
    told_apart c.as_slice.result.now c.args.digits.now (sym c.eq.ensures ∙ c.if-eq.false) same
