-- The handshake of WebSocket (RFC 6455).
use Rattle.std.specs.Prelude.{◌≡◌, ◌⊎◌, ℕ, List, [], ◌∷◌, codes, Some, slice_get}
use Rattle.http.specs.Request.{head_of}
use Rattle.http.specs.declared.request.Request.{Request}
use Rattle.http1.specs.Fields.{Header}
use Rattle.http_header.specs.FieldValue.{FieldValue}
use Rattle.http_header.specs.HeaderMap.{Entries}
use Rattle.http_server.specs.declared.response.Response.{Response}
use Rattle.http_server.specs.Response.{IsResponse}
use Rattle.websocket.specs.Handshake.{IsValidKey, accept_key_of}
use Rattle.rds_fields.specs.Tokens.{field_values}

-- the fields of a request
abbrev pub headers_of : Request (List ℕ) → Entries FieldValue
headers_of request = (head_of request).headers

-- the accept key answers the key of a handshake
abbrev pub IsAcceptOf : Entries FieldValue → List ℕ → Type 0
IsAcceptOf headers accept =
    (key : List ℕ) × (slice_get (field_values headers (codes "sec-websocket-key")) 0 ≡ Some key) × IsValidKey key
    × (accept ≡ accept_key_of key)

abbrev pub upgrade_fields : List ℕ → List Header
upgrade_fields accept =
    (codes "connection", codes "Upgrade") ∷ (codes "upgrade", codes "websocket")
    ∷ (codes "sec-websocket-accept", accept) ∷ []

-- the connection is handed over to WebSocket, or a handshake for it is due
abbrev pub AnswersHandshake : Entries FieldValue → Response → Type 0
AnswersHandshake headers response =
    ((accept : List ℕ) × IsAcceptOf headers accept × IsResponse 101 (upgrade_fields accept) [] response)
    ⊎ (response.status ≡ 426)
