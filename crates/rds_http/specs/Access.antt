-- Who may come to a site.
use Rattle.std.specs.Prelude.{ℕ, Bool, true, false, not, ◌&&◌, ◌||◌, bytes_eq, codes, decimal, List, [], ◌∷◌, ◌++◌}
use Rattle.std.specs.Prelude.{Option, None, Some, is_some, if◌then◌else◌, refl}
use Rattle.std.specs.Coded.{Coded, code_by, coded×, coded_list, coded_option, coded_ℕ}
use Rattle.std.specs.List.{list_all, list_any}
use Rattle.std.specs.Str.{str_eq_ignore_ascii_case}
use Rattle.std.specs.Net.Socket.{socket_port}
use Rattle.std.specs.Net.Text.{socket_text}
use Rattle.std.specs.declared.net.socket_addr.SocketAddr.{SocketAddr}
use Rattle.http_header.specs.FieldValue.{FieldValue}
use Rattle.http_header.specs.HeaderMap.{Entries}
use Rattle.rds_fields.specs.Tokens.{cookie_start, is_shown, field_values}
use Rattle.rds_http.specs.declared.access.Denied.{Denied}
use Rattle.rds_http.specs.declared.access.Denied.TheVariants as Why
use Rattle.rds_http.specs.declared.routes.Asked.{Asked}
use Rattle.rds_http.specs.declared.routes.Asked.TheVariants as Ask
use Rattle.rds_http.specs.declared.routes.Look.TheVariants.{Page}
use Rattle.rds_http.specs.declared.routes.Post.TheVariants.{Login}

-- the hosts that requests may name, where not every one may be named, the port, and the token that is due, if one is
pub record AccessValue : Type 0 where
  pub hosts : Option (List (List ℕ))
  pub port : ℕ
  pub token : Option (List ℕ)

abbrev pub coded_access : Coded AccessValue
coded_access =
    code_by (Option (List (List ℕ)) × (ℕ × Option (List ℕ)))
    (coded× (coded_option (coded_list (coded_list coded_ℕ))) (coded× coded_ℕ (coded_option (coded_list coded_ℕ))))
    (λ a. (a.hosts, (a.port, a.token))) (λ p. record { hosts = p.0; port = p.1.0; token = p.1.1 }) (λ _. refl)

-- the names of this machine, with the port of an address
abbrev pub hosts_at : SocketAddr → List (List ℕ)
hosts_at address =
    socket_text address
    ∷ (codes "localhost:" ++ decimal (socket_port address))
    ∷ (codes "127.0.0.1:" ++ decimal (socket_port address))
    ∷ (codes "[::1]:" ++ decimal (socket_port address))
    ∷ []

-- where there is no token, and the site isn't open, requests name this machine
abbrev pub allowed_hosts : SocketAddr → Option (List ℕ) → Bool → Option (List (List ℕ))
allowed_hosts address token is_open = if is_open || is_some token then None else Some (hosts_at address)

-- the one value that there is
abbrev pub sole : List (List ℕ) → Option (List ℕ)
sole [] = None
sole (value ∷ []) = Some value
sole (value ∷ other ∷ values) = None

-- the host that a request names, where it names one
abbrev pub host_in : Entries FieldValue → Option (List ℕ)
host_in headers = sole (field_values headers (codes "host"))

-- the host is one that may be named, in whatever case
abbrev pub is_among : Option (List (List ℕ)) → Option (List ℕ) → Bool
is_among None host = true
is_among (Some hosts) None = false
is_among (Some hosts) (Some host) = list_any (str_eq_ignore_ascii_case host) hosts

-- an origin (RFC 6454) is that of the host
abbrev pub is_own_origin : Option (List ℕ) → List ℕ → Bool
is_own_origin None origin = false
is_own_origin (Some host) origin =
    bytes_eq origin (codes "http://" ++ host) || bytes_eq origin (codes "https://" ++ host)

-- a request comes from no page, or from one of the host that it names
abbrev pub are_own_origins : Entries FieldValue → Bool
are_own_origins headers = list_all (is_own_origin (host_in headers)) (field_values headers (codes "origin"))

-- what pages of other sites may not ask for
abbrev pub is_watched : Asked → Bool
is_watched (Ask.Post post) = true
is_watched (Ask.Change change) = true
is_watched Ask.Live = true
is_watched _ = false

-- what is shown to none without the token
abbrev pub needs_token : Asked → Bool
needs_token (Ask.Look Page) = false
needs_token (Ask.Post Login) = false
needs_token _ = true

-- the token is shown, where one is due
abbrev pub shows_token : ℕ → Option (List ℕ) → Entries FieldValue → Bool
shows_token port None headers = true
shows_token port (Some token) headers = is_shown (cookie_start port) token headers

-- why a request isn't let in, if it isn't
abbrev pub denial : AccessValue → Asked → Entries FieldValue → Option Denied
denial access asked headers =
    if not (is_among access.hosts (host_in headers)) then Some Why.Host
    else (if is_watched asked && not (are_own_origins headers) then Some Why.Origin
    else (if needs_token asked && not (shows_token access.port access.token headers) then Some Why.Token
    else None))
