-- The text of live rows in few bytes: dots by their distances, and keys by their packed numbers.
use Rattle.std.specs.Prelude.{◌≡◌, ℕ, ◌+◌, ◌-◌, ◌*◌, ◌<◌, ◌≤◌, ◌==◌, nat_le, if◌then◌else◌, List, [], ◌∷◌, ◌++◌, length, take, drop, Option, Some, None, ℤ, pos, negsuc, map as each}
use Rattle.std.specs.List.{flat_map}
use Rattle.std.specs.Int.{w64, to_be_bytes, cast_unsigned}
use Rattle.rds_names.specs.declared.entry.Entry.{Entry}
use Rattle.rds_names.specs.declared.entry.Kind.{Kind}
use Rattle.rds_names.specs.declared.entry.Kind.TheVariants.{Reg, Elem}
use Rattle.rds_names.specs.declared.scalar.Scalar.{Scalar}
use Rattle.rds_names.specs.declared.scalar.Scalar.TheVariants.{Null, Bool as Truth, Int, Text}
use Rattle.rds_dots.specs.declared.dot.Dot.{Dot}
use Rattle.rds_dots.specs.declared.dot.TheConstants.{MAX_SEQ}
use Rattle.rds_bytes.specs.declared.packed.TheConstants.{MAX_PACKED}
use Rattle.rds_bytes.specs.Packed.{packed_text}
use Rattle.rds_bytes.specs.Spelling.{byte_text}
use Rattle.rds_bytes.specs.Table.{table_number, live_keys}

-- a key, as its number in a table
abbrev pub packed_key_text : List (List ℕ) → List ℕ → List ℕ
packed_key_text table key = packed_text (table_number table key)

-- ---- values: a tag, and what it asks for

-- a number that is packed has the one tag, and any other 6
abbrev pub number_tag : ℕ → ℕ → ℕ
number_tag tag n = if nat_le n MAX_PACKED then tag else 6

-- negsuc n is -1 - n
abbrev pub value_tag : Scalar → ℕ
value_tag Null = 0
value_tag (Truth b) = if b then 2 else 1
value_tag (Text t) = 3
value_tag (Int (pos n)) = number_tag 4 n
value_tag (Int (negsuc n)) = number_tag 5 n

-- the number, or eight bytes of the whole number where that isn't packed
abbrev pub number_payload : ℕ → ℤ → List ℕ
number_payload n z = if nat_le n MAX_PACKED then packed_text n else to_be_bytes w64 (cast_unsigned w64 z)

abbrev pub payload_text : Scalar → List ℕ
payload_text Null = []
payload_text (Truth b) = []
payload_text (Text t) = packed_text (length t) ++ t
payload_text (Int (pos n)) = number_payload n (pos n)
payload_text (Int (negsuc n)) = number_payload n (negsuc n)

-- ---- entries

abbrev pub kind_bit : Kind → ℕ
kind_bit Reg = 0
kind_bit Elem = 1

-- how many keys, which kind and which tag
abbrev pub entry_head : Entry → ℕ
entry_head e = (length e.path - 1) + 8 * kind_bit e.kind + 16 * value_tag e.value

-- ---- dots

-- what the first dot is told from
abbrev pub zeroth_dot : Dot
zeroth_dot = record { replica = 0; seq = 0 }

-- the one before, or what the first is told from
abbrev pub dot_or_zeroth : Option Dot → Dot
dot_or_zeroth None = zeroth_dot
dot_or_zeroth (Some d) = d

-- how far a dot is from one before it of the same replica, and 0 for one of another replica
abbrev pub dot_distance : Dot → Dot → ℕ
dot_distance from d = if d.replica == from.replica then d.seq - from.seq else 0

-- a replica and a number, which follow the distance 0 alone
abbrev pub other_place_text : ℕ → ℕ × ℕ → List ℕ
other_place_text distance place = if distance == 0 then byte_text place.0 ++ packed_text place.1 else []

abbrev pub dot_step_text : Dot → Dot → List ℕ
dot_step_text from d = packed_text (dot_distance from d) ++ other_place_text (dot_distance from d) (d.replica, d.seq)

-- ---- rows, for any spelling of their keys

module _ (key_text : List ℕ → List ℕ) where
  abbrev pub packed_entry_text : Entry → List ℕ
  packed_entry_text e = byte_text (entry_head e) ++ (flat_map key_text e.path ++ payload_text e.value)

  abbrev pub packed_row_text : Dot → Dot × Entry → List ℕ
  packed_row_text from row = dot_step_text from row.0 ++ packed_entry_text row.1

  -- each dot is told from the one before it
  abbrev pub packed_rows_text : Dot → List (Dot × Entry) → List ℕ
  packed_rows_text from [] = []
  packed_rows_text from (row ∷ rows) = packed_row_text from row ++ packed_rows_text row.0 rows

  abbrev pub packed_lives_text : List (Dot × Entry) → List ℕ
  packed_lives_text rows = packed_text (length rows) ++ packed_rows_text zeroth_dot rows

-- ---- dots that can be told from one another

-- a dot can be told from another: it comes after one of its replica, and its number is within the limit
pub record CanStep (from d : Dot) : Type 0 where
  pub rises : d.replica ≡ from.replica → from.seq < d.seq
  pub within : d.seq ≤ MAX_SEQ

-- each from the one before it
abbrev pub CanStepAll : Dot → List (Dot × Entry) → Type 0
CanStepAll from [] = Unit {0}
CanStepAll from (row ∷ rows) = CanStep from row.0 × CanStepAll row.0 rows

-- ---- texts of rows with given numbers in place of their keys

abbrev pub packed_numbers_text : List ℕ → List ℕ
packed_numbers_text numbers = flat_map packed_text numbers

abbrev pub numbers_entry_text : Entry → List ℕ → List ℕ
numbers_entry_text e numbers = byte_text (entry_head e) ++ (packed_numbers_text numbers ++ payload_text e.value)

-- rows, each with as many of the numbers as it has keys
abbrev pub numbers_rows_text : Dot → List (Dot × Entry) → List ℕ → List ℕ
numbers_rows_text from [] numbers = []
numbers_rows_text from (row ∷ rows) numbers =
    (dot_step_text from row.0 ++ numbers_entry_text row.1 (take (length row.1.path) numbers))
    ++ numbers_rows_text row.0 rows (drop (length row.1.path) numbers)

-- the numbers of the keys of rows in a table, before those of others
abbrev pub AreNumbersIn : List (List ℕ) → List (List ℕ) → List (Dot × Entry) → List ℕ → Type 0
AreNumbersIn table more rows numbers = numbers ≡ each (table_number table) (live_keys rows ++ more)
