-- How live rows in few bytes are read. Each part is judged as soon as it is there.
use Rattle.std.specs.Prelude.{ℕ, ◌+◌, ◌/◌, ◌%◌, ◌^◌, Bool, true, false, not, ◌==◌, nat_lt, nat_le, if◌then◌else◌, List, length, slice_get, Option, Ok, Err, ℤ, pos, negsuc}
use Rattle.std.specs.Str.{is_utf8}
use Rattle.std.specs.FinSet as set
use Rattle.rds_names.specs.declared.fault.Fault.TheVariants.{Bad}
use Rattle.rds_names.specs.declared.entry.Entry.{Entry}
use Rattle.rds_names.specs.declared.entry.Kind.{Kind}
use Rattle.rds_names.specs.declared.entry.Kind.TheVariants.{Reg, Elem}
use Rattle.rds_names.specs.declared.scalar.Scalar.{Scalar}
use Rattle.rds_names.specs.declared.scalar.Scalar.TheVariants.{Null, Bool as Truth, Int}
use Rattle.rds_dots.specs.declared.dot.Dot.{Dot}
use Rattle.rds_dots.specs.Dots.{Dots}
use Rattle.rds_bytes.specs.declared.packed.TheConstants.{MAX_PACKED}
use Rattle.rds_bytes.specs.Entries.{entry_of_tuple}
use Rattle.rds_bytes.specs.Packed.{packed_at}
use Rattle.rds_bytes.specs.Reading.{Reader, then_at, pair_at, made_at, drawn_at, when_at, list_at, string_at, byte_at, is_between, int_at, int_scalar, text_scalar, dot_by, dot_of_row, last}
use Rattle.rds_packed.specs.PackedTexts.{dot_or_zeroth}

-- a packed number that four bytes can say
abbrev pub packed_u32_at : Reader ℕ
packed_u32_at = when_at (λ n. nat_lt n (2 ^ 32)) packed_at

-- the key of the table whose number it is
unfoldable pub packed_key_at : List (List ℕ) → Reader (List ℕ)
packed_key_at table = drawn_at (slice_get table) packed_u32_at

-- what takes no bytes
abbrev pub given_at : {A : Type 0} → A → Reader A
given_at a bytes = Ok (a, bytes)

-- ---- values

unfoldable pub packed_string_at : Reader (List ℕ)
packed_string_at = when_at is_utf8 (string_at (when_at (is_between 0 1024) packed_at))

-- whether a whole number has neither tag of those that are packed
abbrev pub is_wide : ℤ → Bool
is_wide (pos n) = not (nat_le n MAX_PACKED)
is_wide (negsuc n) = not (nat_le n MAX_PACKED)

unfoldable pub wide_at : Reader ℤ
wide_at = when_at is_wide int_at

abbrev pub rising_scalar : ℕ → Scalar
rising_scalar n = Int (pos n)

abbrev pub falling_scalar : ℕ → Scalar
falling_scalar n = Int (negsuc n)

-- the length was judged where it was read, so the test, which is that of every text, never fails here
unfoldable pub packed_text_scalar_at : Reader Scalar
packed_text_scalar_at = made_at text_scalar (when_at (λ t. nat_le (length t) 1024) packed_string_at)

-- what follows a tag
unfoldable pub payload_at : ℕ → Reader Scalar
payload_at tag rest =
    if tag == 0 then Ok (Null, rest)
    else (if tag == 1 then Ok (Truth false, rest)
    else (if tag == 2 then Ok (Truth true, rest)
    else (if tag == 3 then packed_text_scalar_at rest
    else (if tag == 4 then made_at rising_scalar packed_at rest
    else (if tag == 5 then made_at falling_scalar packed_at rest
    else (if tag == 6 then made_at int_scalar wide_at rest
    else Err Bad))))))

-- ---- entries

-- a byte with a tag from 0 to 6
unfoldable pub head_at : Reader ℕ
head_at = when_at (λ b. nat_lt b 112) byte_at

abbrev pub head_keys : ℕ → ℕ
head_keys head = head % 8 + 1

abbrev pub head_kind : ℕ → Kind
head_kind head = if (head / 8) % 2 == 0 then Reg else Elem

abbrev pub head_tag : ℕ → ℕ
head_tag head = head / 16

-- a head, the keys and the value
abbrev pub EntryParts : Type 0
EntryParts = ℕ × (List (List ℕ) × Scalar)

abbrev pub entry_of_head : EntryParts → Option Entry
entry_of_head p = entry_of_tuple (p.1.0, (head_kind p.0, p.1.1))

-- ---- dots

-- the dot before the next row, or what the first dot is told from
abbrev pub dot_before : List (Dot × Entry) → Dot
dot_before rows = dot_or_zeroth (dot_of_row (last rows))

-- what follows a distance: after 0 a replica above the one before, and a number
abbrev pub place_after : Dot → ℕ → Reader (ℕ × ℕ)
place_after from distance =
    if distance == 0 then pair_at (when_at (nat_lt from.replica) byte_at) packed_at
    else given_at (from.replica, from.seq + distance)

abbrev pub step_by : ℕ × (ℕ × ℕ) → Dot
step_by p = dot_by p.1

unfoldable pub dot_step_at : Dot → Reader Dot
dot_step_at from = made_at step_by (then_at packed_at (place_after from))

-- the next of the seen dots
unfoldable pub packed_dot_at : Dots → List (Dot × Entry) → Reader Dot
packed_dot_at seen before = when_at (set.contains seen) (dot_step_at (dot_before before))

-- ---- rows, for any reader of their keys

module _ (key : Reader (List ℕ)) where
  -- so many keys; their number was judged where it was read, so the test, which is that of every path, never fails here
  unfoldable pub packed_path_at : ℕ → Reader (List (List ℕ))
  packed_path_at count = when_at (λ keys. nat_le (length keys) 8) (list_at (given_at count) (λ _. key))

  unfoldable pub packed_entry_at : Reader Entry
  packed_entry_at =
      drawn_at entry_of_head
      (then_at head_at (λ head. pair_at (packed_path_at (head_keys head)) (payload_at (head_tag head))))

  unfoldable pub packed_row_at : Dots → List (Dot × Entry) → Reader (Dot × Entry)
  packed_row_at seen before = pair_at (packed_dot_at seen before) packed_entry_at

  unfoldable pub packed_lives_at : Dots → Reader (List (Dot × Entry))
  packed_lives_at seen = list_at packed_u32_at (packed_row_at seen)
