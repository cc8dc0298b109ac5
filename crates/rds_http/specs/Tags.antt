-- Entity tags (RFC 9110), and what conditions name them.
use Rattle.std.specs.Prelude.{◌≡◌, ℕ, ◌-◌, Bool, true, ◌&&◌, ◌||◌, not, ◌==◌, bytes_eq, codes, List, ◌++◌, length, take, drop, is_none, refl}
use Rattle.std.specs.Char.{is_ascii_whitespace}
use Rattle.std.specs.Coded.{Coded, code_by, coded×, coded_bool, coded_list, coded_ℕ}
use Rattle.std.specs.List.{list_any, prefix_len, slice_split, suffix_len}
use Rattle.hex.specs.Hex.{encode_lower}
use Rattle.http_header.specs.FieldValue.{FieldValue}
use Rattle.http_header.specs.HeaderMap.{Entries, get}
use Rattle.rds_fields.specs.Tokens.{field_values}
use Rattle.rds_state.specs.Mark.{mark_of, mark_text}
use Rattle.rds_state.specs.Value.{StateValue}
use Rattle.sha2.specs.Sha256.{sha256}

-- ---- the tag of what is shown of a state

abbrev pub state_tag : StateValue → List ℕ
state_tag state = codes "\"" ++ (mark_text (mark_of state) ++ codes "\"")

-- ---- the tag of what stands at a place

-- the first 16 bytes of the hash of the text that is told of it, in hex digits, quoted
abbrev pub text_tag : List ℕ → List ℕ
text_tag text = codes "\"" ++ (encode_lower (take 16 (sha256 text)) ++ codes "\"")

-- what is reported of a place where nothing stands
abbrev pub told_of_nothing : List ℕ
told_of_nothing = codes "{\"counter\":null,\"reg\":[],\"set\":[]}"

-- ---- conditions

-- what the conditions of a request are about: its tag, and whether there is anything
pub record CurrentValue : Type 0 where
  pub tag : List ℕ
  pub is_there : Bool

abbrev pub coded_current : Coded CurrentValue
coded_current =
    code_by (List ℕ × Bool) (coded× (coded_list coded_ℕ) coded_bool) (λ c. (c.tag, c.is_there))
    (λ p. record { tag = p.0; is_there = p.1 }) (λ _. refl)

-- what is shown of a document, and what it asks, is always there
abbrev pub always : List ℕ → CurrentValue
always tag = record { tag = tag; is_there = true }

-- what stands at a place, by the text that is told of it
abbrev pub standing : List ℕ → CurrentValue
standing text = record { tag = text_tag text; is_there = not (bytes_eq text told_of_nothing) }

-- without the blanks before and behind
abbrev pub without_blanks : List ℕ → List ℕ
without_blanks text =
    let rest = drop (prefix_len is_ascii_whitespace text) text in
    take (length rest - suffix_len is_ascii_whitespace rest) rest

-- an entity tag, weak or not, has the opaque part of a strong one
abbrev pub is_same_tag : List ℕ → List ℕ → Bool
is_same_tag tag other = bytes_eq other tag || bytes_eq other (codes "W/" ++ tag)

-- one of a list of tags, between commas, is this one
abbrev pub has_tag : List ℕ → List ℕ → Bool
has_tag tag value = list_any (λ member. is_same_tag tag (without_blanks member)) (slice_split (λ b. b == 44) value)

-- a condition names the tag, or any, and there is anything
abbrev pub is_named_by : CurrentValue → List ℕ → Bool
is_named_by current value = (current.is_there && bytes_eq value (codes "*")) || has_tag current.tag value

-- the condition of a request that wants no more of what has this tag
abbrev pub is_known : Entries FieldValue → CurrentValue → Bool
is_known headers current = list_any (is_named_by current) (field_values headers (codes "if-none-match"))

-- one of a list of tags, between commas, is this one, and strong
abbrev pub has_strong_tag : List ℕ → List ℕ → Bool
has_strong_tag tag value =
    list_any (λ member. bytes_eq (without_blanks member) tag) (slice_split (λ b. b == 44) value)

-- a condition names the tag, and strong, or any, and there is anything
abbrev pub is_matched_by : CurrentValue → List ℕ → Bool
is_matched_by current value = (current.is_there && bytes_eq value (codes "*")) || has_strong_tag current.tag value

-- the condition of a request that changes only what has this tag: there is none, or it names the tag
abbrev pub is_matched : Entries FieldValue → CurrentValue → Bool
is_matched headers current =
    is_none (get headers (codes "if-match"))
    || list_any (is_matched_by current) (field_values headers (codes "if-match"))

-- that, and the one of a request that changes only what doesn't have it
abbrev pub is_met : Entries FieldValue → CurrentValue → Bool
is_met headers current = is_matched headers current && not (is_known headers current)
