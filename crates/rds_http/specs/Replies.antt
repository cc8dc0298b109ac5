-- Responses.
use Rattle.std.specs.Prelude.{ℕ, Bool, true, false, List, [], ◌∷◌, Option, None, Some, codes}
use Rattle.http1.specs.Fields.{Header}
use Rattle.http_server.specs.declared.response.Response.{Response}
use Rattle.http_server.specs.Response.{IsResponse}

-- the field that tells the type of a body
abbrev pub type_field : List ℕ → Header
type_field kind = (codes "content-type", kind)

-- the response has this status, a body of this type, and no other field
abbrev pub Tells : ℕ → List ℕ → List ℕ → Response → Type 0
Tells status kind body response = IsResponse status (type_field kind ∷ []) body response

-- the fields of what has an entity tag: nothing shows it again without asking whether it changed
abbrev pub tag_fields : List ℕ → List Header
tag_fields tag = (codes "cache-control", codes "no-cache") ∷ (codes "etag", tag) ∷ []

-- the response tells what has this tag, or no more than that where it is known
abbrev pub TellsTagged : Bool → List ℕ → List ℕ → List ℕ → Response → Type 0
TellsTagged true tag kind body response = IsResponse 304 (tag_fields tag) [] response
TellsTagged false tag kind body response = IsResponse 200 (type_field kind ∷ tag_fields tag) body response

-- the same, by the text that is reported where it isn't known
abbrev pub TellsIfUnknown : Option (List ℕ) → List ℕ → List ℕ → Response → Type 0
TellsIfUnknown None tag kind response = IsResponse 304 (tag_fields tag) [] response
TellsIfUnknown (Some text) tag kind response = IsResponse 200 (type_field kind ∷ tag_fields tag) text response
