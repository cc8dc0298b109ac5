-- The rest of a text, for who has its first bytes (RFC 9110).
use Rattle.std.specs.Prelude.{◌≡◌, ℕ, ◌-◌, ◌<◌, ◌⊎◌, Bool, true, false, bytes_eq, codes, decimal, IsTrue, List, [], ◌∷◌, ◌++◌, length, drop}
use Rattle.std.specs.Prelude.{Option, Some, None}
use Rattle.std.specs.Str.Parse.{IsNumeral, digits_value, without_leading_plus}
use Rattle.http1.specs.Fields.{Header}
use Rattle.http_header.specs.FieldValue.{FieldValue}
use Rattle.http_header.specs.HeaderMap.{Entries, get}
use Rattle.http_server.specs.declared.response.Response.{Response}
use Rattle.http_server.specs.Response.{IsResponse}
use Rattle.rds_http.specs.Replies.{tag_fields, type_field}
use Rattle.rds_http.specs.Tags.{always, is_known}

-- the digits of a number
abbrev pub IsNumeralOf : List ℕ → ℕ → Type 0
IsNumeralOf digits number =
    IsNumeral 10 (without_leading_plus digits) × (digits_value 10 (without_leading_plus digits) ≡ number)

-- a field asks for all from a byte on: `bytes=N-`
abbrev pub AsksRest : List ℕ → ℕ → Type 0
AsksRest value first =
    (digits : List ℕ) × (value ≡ codes "bytes=" ++ (digits ++ codes "-")) × IsNumeralOf digits first

-- what was had before is a part of what has this tag, as the request says, or takes for granted
abbrev pub is_still : Option FieldValue → List ℕ → Bool
is_still None tag = true
is_still (Some value) tag = bytes_eq value.bytes tag

-- a request wants what has this tag from a byte on
abbrev pub WantsRest : Entries FieldValue → List ℕ → ℕ → Type 0
WantsRest headers tag first =
    (value : FieldValue) × (get headers (codes "range") ≡ Some value)
    × IsTrue (is_still (get headers (codes "if-range")) tag) × AsksRest value.bytes first

-- the field that says which part of so many bytes is sent, from a byte on
abbrev pub range_field : ℕ → ℕ → Header
range_field first length = (
  codes "content-range",
  codes "bytes " ++ (decimal first ++ (codes "-" ++ (decimal (length - 1) ++ (codes "/" ++ decimal length)))),
)

-- the text with this tag from a byte on
abbrev pub TellsRest : ℕ → List ℕ → List ℕ → List ℕ → Response → Type 0
TellsRest first tag kind text response =
    IsResponse 206 (type_field kind ∷ (tag_fields tag ++ range_field first (length text) ∷ [])) (drop first text)
    response

-- the text with this tag is reported whole, or from the byte on that the request wants
abbrev pub TellsWholeOrRest : Entries FieldValue → List ℕ → List ℕ → List ℕ → Response → Type 0
TellsWholeOrRest headers tag kind text response =
    IsResponse 200 (type_field kind ∷ tag_fields tag) text response
    ⊎ ((first : ℕ) × WantsRest headers tag first × (first < length text) × TellsRest first tag kind text response)

-- the same, or no more than the tag where that is known
abbrev pub TellsParts : Bool → Entries FieldValue → List ℕ → List ℕ → List ℕ → Response → Type 0
TellsParts true headers tag kind text response = IsResponse 304 (tag_fields tag) [] response
TellsParts false headers tag kind text response = TellsWholeOrRest headers tag kind text response

-- what is reported of a text with this tag to a request
abbrev pub TellsFile : Entries FieldValue → List ℕ → List ℕ → List ℕ → Response → Type 0
TellsFile headers tag kind text response =
    TellsParts (is_known headers (always tag)) headers tag kind text response
