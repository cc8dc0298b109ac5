-- The text of a table whose keys share their fronts, and how it is read. Each part is judged as soon as it is there.
use Rattle.std.specs.Prelude.{ℕ, ◌+◌, ◌==◌, nat_le, Bool, List, [], ◌∷◌, ◌++◌, length, take, drop, Option, Some, None}
use Rattle.std.specs.List.{common_prefix_len}
use Rattle.std.specs.Str.{is_utf8}
use Rattle.rds_names.specs.Key.{is_key}
use Rattle.rds_bytes.specs.Packed.{packed_text}
use Rattle.rds_bytes.specs.Reading.{Reader, then_at, made_at, when_at, list_at, string_at, byte_at, is_between, is_new, last}
use Rattle.rds_bytes.specs.Spelling.{byte_text, short_text}
use Rattle.rds_packed.specs.PackedReading.{packed_u32_at}

-- how many bytes two keys have in common before they differ
abbrev pub shared : List ℕ → List ℕ → ℕ
shared before key = common_prefix_len (λ a b. a == b) before key

-- ---- texts

-- a key after another: how many bytes they share, and the others
abbrev pub front_text : List ℕ → List ℕ → List ℕ
front_text before key = byte_text (shared before key) ++ short_text (drop (shared before key) key)

-- keys, each after the one before it
abbrev pub fronts_text : List ℕ → List (List ℕ) → List ℕ
fronts_text before [] = []
fronts_text before (key ∷ keys) = front_text before key ++ fronts_text key keys

-- the keys of a table, after their number; the first shares nothing
unfoldable pub packed_table_text : List (List ℕ) → List ℕ
packed_table_text table = packed_text (length table) ++ fronts_text [] table

-- ---- reading

-- a number of bytes of the key before, and those that follow them
abbrev pub FrontParts : Type 0
FrontParts = ℕ × List ℕ

-- so many bytes that a key has 1 to 64 with those it shares
abbrev pub own_at : ℕ → Reader (List ℕ)
own_at count = string_at (when_at (λ n. is_between 1 64 (count + n)) byte_at)

abbrev pub parts_at : List ℕ → Reader FrontParts
parts_at before = then_at (when_at (λ n. nat_le n (length before)) byte_at) own_at

abbrev pub joined : List ℕ → FrontParts → List ℕ
joined before p = take p.0 before ++ p.1

-- whether the key shares so much, and no more, with the one before it
abbrev pub is_front : List ℕ → FrontParts → Bool
is_front before p = shared before (joined before p) == p.0

-- the bytes of a key
unfoldable pub front_bytes_at : List ℕ → Reader (List ℕ)
front_bytes_at before = made_at (joined before) (when_at (is_front before) (parts_at before))

unfoldable pub front_key_at : List ℕ → Reader (List ℕ)
front_key_at before = when_at is_key (when_at is_utf8 (front_bytes_at before))

-- the key before the next, and no bytes before the first
abbrev pub or_nothing : Option (List ℕ) → List ℕ
or_nothing None = []
or_nothing (Some key) = key

-- a key that none before it equals
unfoldable pub new_front_at : List (List ℕ) → Reader (List ℕ)
new_front_at before = when_at (is_new before) (front_key_at (or_nothing (last before)))

unfoldable pub packed_table_at : Reader (List (List ℕ))
packed_table_at = list_at packed_u32_at new_front_at
