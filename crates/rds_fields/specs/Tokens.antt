-- Tokens, and what header fields show them.
use Rattle.std.specs.Prelude.{ℕ, ◌-◌, Bool, false, ◌&&◌, ◌||◌, ◌==◌, nat_le, bytes_eq, codes, decimal, List, [], ◌∷◌, ◌++◌}
use Rattle.std.specs.Prelude.{drop, length, map, take, slice_get, Option, None, Some, Result, Ok, Err, if◌then◌else◌}
use Rattle.std.specs.Char.{is_ascii_alphanumeric}
use Rattle.std.specs.List.{list_all, list_any, slice_split}
use Rattle.std.specs.Str.{str_eq_ignore_ascii_case}
use Rattle.http_header.specs.FieldValue.{FieldValue}
use Rattle.http_header.specs.HeaderMap.{Entries, get_all}
use Rattle.rds_names.specs.declared.fault.Fault.{Fault}
use Rattle.rds_names.specs.declared.fault.Fault.TheVariants.{Usage}

-- the values of the fields of a name
abbrev pub field_values : Entries FieldValue → List ℕ → List (List ℕ)
field_values headers name = map (λ v. v.bytes) (get_all headers name)

-- A-Z, a-z, 0-9, '-', '.', '_', '~'
abbrev pub is_token_byte : ℕ → Bool
is_token_byte b = is_ascii_alphanumeric b || (b == 45) || (b == 46) || (b == 95) || (b == 126)

abbrev pub is_token : List ℕ → Bool
is_token text = nat_le 16 (length text) && nat_le (length text) 128 && list_all is_token_byte text

abbrev pub is_newline : Option ℕ → Bool
is_newline (Some b) = b == 10
is_newline None = false

-- the bytes without a line feed at their end
abbrev pub without_newline : List ℕ → List ℕ
without_newline bytes =
    if is_newline (slice_get bytes (length bytes - 1)) then take (length bytes - 1) bytes else bytes

-- the token that the bytes of a file are
abbrev pub token_in : List ℕ → Result (List ℕ) Fault
token_in bytes = if is_token (without_newline bytes) then Ok (without_newline bytes) else Err Usage

-- a cookie without the space before it
abbrev pub without_space : List ℕ → List ℕ
without_space [] = []
without_space (b ∷ cookie) = if b == 32 then cookie else b ∷ cookie

-- the name of the cookie of a site at a port, and the sign behind it. Sites of one host get each other's cookies.
abbrev pub cookie_start : ℕ → List ℕ
cookie_start port = codes "rds_" ++ (decimal port ++ codes "=")

-- one of the cookies of a field, between semicolons, is the token behind such a start
abbrev pub has_cookie : List ℕ → List ℕ → List ℕ → Bool
has_cookie start token value =
    list_any (λ cookie. bytes_eq (without_space cookie) (start ++ token)) (slice_split (λ b. b == 59) value)

-- the value of a field is the scheme, in whatever case, a space and the token
abbrev pub is_bearing : List ℕ → List ℕ → Bool
is_bearing token value =
    str_eq_ignore_ascii_case (take 7 value) (codes "Bearer ") && bytes_eq (drop 7 value) token

-- header fields show the token, by a cookie that begins so or without one
abbrev pub is_shown : List ℕ → List ℕ → Entries FieldValue → Bool
is_shown start token headers =
    list_any (is_bearing token) (field_values headers (codes "authorization"))
    || list_any (has_cookie start token) (field_values headers (codes "cookie"))
