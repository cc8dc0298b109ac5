-- Who shows the token gets it back as a cookie.
use Rattle.std.specs.Prelude.{ℕ, Bool, true, false, List, [], ◌∷◌, ◌++◌, codes, bytes_eq, Option, None, Some}
use Rattle.http_server.specs.declared.response.Response.{Response}
use Rattle.http_server.specs.Response.{IsResponse}
use Rattle.rds_fields.specs.Tokens.{cookie_start}
use Rattle.rds_http.specs.Refusals.{IsDenied}
use Rattle.rds_http.specs.declared.access.Denied.TheVariants as Why

-- the cookie (RFC 6265) of a site at a port: no script reads it, and no page of another site sends it
abbrev pub cookie_of : ℕ → List ℕ → List ℕ
cookie_of port token = cookie_start port ++ (token ++ codes "; Path=/; HttpOnly; SameSite=Strict")

-- the token is shown, or not
abbrev pub LogsIn : ℕ → List ℕ → Bool → Response → Type 0
LogsIn port token true response = IsResponse 204 ((codes "set-cookie", cookie_of port token) ∷ []) [] response
LogsIn port token false response = IsDenied Why.Token response

-- where no token is due, any is
abbrev pub AnswersLogin : ℕ → Option (List ℕ) → List ℕ → Response → Type 0
AnswersLogin port None body response = IsResponse 204 [] [] response
AnswersLogin port (Some token) body response = LogsIn port token (bytes_eq body token) response
