use Rattle.std.proofs.Common.{◌≡◌, ◌∙◌, string_bytes}
use Rattle.std.specs.Int.{to_be_bytes, w64}
use Rattle.std.proofs.lemmas.Result.{IfOk-weaker}
use Rattle.hex.specs.Hex.{encode_lower}
use Rattle.rds_fields.specs.Tags.{mark_half, tag_text}
use Rattle.rds_fields.proofs.TagTexts.{are_ascii, joined}
use Rattle.rds_fields.proofs.tags.tag_text.Goals as goal

pub text_of-hash-requires : goal.text_of-hash-requires
text_of-hash-requires c = are_ascii c.hash_digits-hash.result c.args.tag.now.hash c.hash_digits-hash.ensures

pub text_of-high-requires : goal.text_of-high-requires
text_of-high-requires c = are_ascii c.half_digits-high.result (to_be_bytes w64 c.args.tag.now.mark.high) c.half_digits-high.ensures

pub text_of-low-requires : goal.text_of-low-requires
text_of-low-requires c = are_ascii c.half_digits-low.result (to_be_bytes w64 c.args.tag.now.mark.low) c.half_digits-low.ensures

pub returns : goal.returns
unfolding tag_text
returns c =
    let tag = c.args.tag.now in
    record {
      ok = IfOk-weaker c.format.result _ (λ text. string_bytes text ≡ tag_text tag)
          (λ text is. is
          ∙ joined (encode_lower tag.hash) (mark_half tag.mark.high) (mark_half tag.mark.low) c.text_of-hash.result.now c.text_of-high.result.now c.text_of-low.result.now
          (c.text_of-hash.ensures ∙ c.hash_digits-hash.ensures) (c.text_of-high.ensures ∙ c.half_digits-high.ensures) (c.text_of-low.ensures ∙ c.half_digits-low.ensures))
          c.format.ensures.ok;
    }
