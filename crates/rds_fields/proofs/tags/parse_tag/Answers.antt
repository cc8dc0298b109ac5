use Rattle.std.proofs.Common.{◌∙◌, refl, sym}
use Rattle.hex.specs.Hex.{encode_lower}
use Rattle.rds_fields.specs.Tags.{mark_digits, tag_text}
use Rattle.rds_fields.proofs.TagTexts.{length-hash, length-mark, same_digits}
use Rattle.rds_fields.proofs.tags.parse_tag.Goals as goal

pub returns-in_err-hash-clause-none : goal.returns-in_err-hash-clause-none
unfolding tag_text
returns-in_err-hash-clause-none c none tag is same =
    c.in_err-hash.ensures.none refl (encode_lower tag.hash) (mark_digits tag.mark) (length-hash tag.hash is.length) (length-mark tag.mark.high tag.mark.low) same

pub returns-in_err-hash_in-clause-none : goal.returns-in_err-hash_in-clause-none
unfolding tag_text
returns-in_err-hash_in-clause-none c none tag is same =
    let digits = same_digits c.in_ok-hash.hash.now c.in_ok-hash.mark.now (encode_lower tag.hash) (mark_digits tag.mark)
    (c.in_ok-hash.ensures.length ∙ sym (length-hash tag.hash is.length)) (sym c.in_ok-hash.ensures.some ∙ same) in
    c.in_err-hash_in.ensures.none refl tag.hash is.length is.bytes digits.0

pub returns-in_err-mark_in-clause-none : goal.returns-in_err-mark_in-clause-none
unfolding tag_text
returns-in_err-mark_in-clause-none c none tag is same =
    let digits = same_digits c.in_ok-hash.hash.now c.in_ok-hash.mark.now (encode_lower tag.hash) (mark_digits tag.mark)
    (c.in_ok-hash.ensures.length ∙ sym (length-hash tag.hash is.length)) (sym c.in_ok-hash.ensures.some ∙ same) in
    c.in_err-mark_in.ensures.none refl tag.mark is.high is.low digits.1
