-- The tag of what a replica asks, as an entity tag (RFC 9110).
use Rattle.std.specs.Prelude.{◌≡◌, ℕ, codes, List, ◌++◌}
use Rattle.std.specs.Int.{to_be_bytes, w64}
use Rattle.hex.specs.Hex.{encode_lower}
use Rattle.rds_questions.specs.declared.tags.Tag.{Tag}
use Rattle.rds_state.specs.declared.mark.Mark.{Mark}

-- half of a mark in hex digits
abbrev pub mark_half : ℕ → List ℕ
mark_half half = encode_lower (to_be_bytes w64 half)

abbrev pub mark_digits : Mark → List ℕ
mark_digits mark = mark_half mark.high ++ mark_half mark.low

-- digits of a hash and digits of a mark, quoted, with a dash between
abbrev pub quoted : List ℕ → List ℕ → List ℕ
quoted hash mark = codes "\"" ++ (hash ++ (codes "-" ++ (mark ++ codes "\"")))

-- what stands before, between and behind the digits
pub record IsFrame (start dash end : List ℕ) : Type 0 where
  pub opens : start ≡ codes "\""
  pub parts : dash ≡ codes "-"
  pub closes : end ≡ codes "\""

-- the hash and the mark, in hex digits
unfoldable pub tag_text : Tag → List ℕ
tag_text tag = quoted (encode_lower tag.hash) (mark_digits tag.mark)

-- bytes begin with the text of a tag
abbrev pub HoldsTagged : List ℕ → Tag → List ℕ → Type 0
HoldsTagged bytes tag rest = bytes ≡ tag_text tag ++ rest
