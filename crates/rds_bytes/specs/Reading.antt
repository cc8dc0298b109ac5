-- Reading from left to right: a part and the bytes after it, or the fault. Each part is judged as soon as it is there.
use Rattle.std.specs.Prelude.{◌≡◌, ℕ, zero, suc, ◌+◌, ◌-◌, Bool, true, false, not, ◌&&◌, ◌||◌, ◌==◌, nat_lt, nat_le, if◌then◌else◌, List, [], ◌∷◌, ◌++◌, length, take, drop, slice_get, Option, Some, None, Result, Ok, Err, ℤ}
use Rattle.std.specs.List.{list_any}
use Rattle.std.specs.Str.{bytes_eq, is_utf8}
use Rattle.std.specs.Int.{Width, w16, w32, w64, byte_len, from_be_bytes, cast_signed}
use Rattle.std.specs.FinSet as set
use Rattle.rds_names.specs.declared.fault.Fault.{Fault}
use Rattle.rds_names.specs.declared.fault.Fault.TheVariants.{Memory, Cut, Bad}
pub use Rattle.rds_names.specs.AndThen.{◌>>=◌}
use Rattle.rds_names.specs.Name.{is_name}
use Rattle.rds_names.specs.Key.{is_key}
use Rattle.rds_names.specs.Roster.{RosterValue, are_names}
use Rattle.rds_names.specs.declared.entry.Entry.{Entry}
use Rattle.rds_names.specs.declared.entry.Kind.{Kind}
use Rattle.rds_names.specs.declared.entry.Kind.TheVariants.{Reg, Elem}
use Rattle.rds_names.specs.declared.scalar.Scalar.{Scalar}
use Rattle.rds_names.specs.declared.scalar.Scalar.TheVariants.{Null, Bool as Truth, Int, Text}
use Rattle.rds_dots.specs.declared.dot.Dot.{Dot}
use Rattle.rds_dots.specs.declared.dot.TheConstants.{MAX_SEQ}
use Rattle.rds_dots.specs.Dots.{Dots, comes_after}
use Rattle.std.specs.Cmp.Lexicographic.{slice_cmp}
use Rattle.std.specs.Ordering.{nat_cmp, ordering_then, is_lt}
use Rattle.rds_counts.specs.declared.row.CountRow.{CountRow}
use Rattle.rds_counts.specs.declared.row.TheConstants.{MAX_COUNT}
use Rattle.rds_counts.specs.Counted.{Counted, counts_of}
use Rattle.rds_bytes.specs.declared.dots.Gap.{Gap}
use Rattle.rds_bytes.specs.declared.dots.DotRow.{DotRow}
use Rattle.rds_bytes.specs.declared.dot_rows.RowHead.{RowHead}
use Rattle.rds_bytes.specs.Entries.{entry_of_tuple}
use Rattle.rds_bytes.specs.RowDots.{dots_of_rows}
use Rattle.rds_bytes.specs.Spelling.{magic}

-- a fault is the one that reading gives, unless memory ran out
abbrev pub Fails : {Y : Type 0} → Fault → Result Y Fault → Type 0
Fails Memory read = Unit {0}
Fails f read = read ≡ Err f

-- what a call returned, seen by view, is what reading gives, unless memory ran out
abbrev pub Reads : {X Y : Type 0} → (X → Y) → Result X Fault → Result Y Fault → Type 0
Reads view (Ok x) read = read ≡ Ok (view x)
Reads view (Err e) read = Fails e read

-- The same of a call that takes no memory: what it returned is what reading gives, whatever that is.
abbrev pub ReadsExactly : {X Y : Type 0} → (X → Y) → Result X Fault → Result Y Fault → Type 0
ReadsExactly view (Ok x) read = read ≡ Ok (view x)
ReadsExactly view (Err e) read = read ≡ Err e

abbrev pub Reader : Type 0 → Type 0
Reader A = List ℕ → Result (A × List ℕ) Fault

-- ---- ways to put readers together

-- a part, and then one that may depend on it
abbrev pub then_at : {A B : Type 0} → Reader A → (A → Reader B) → Reader (A × B)
then_at f g bytes = f bytes >>= λ a. g a.0 a.1 >>= λ b. Ok ((a.0, b.0), b.1)

abbrev pub pair_at : {A B : Type 0} → Reader A → Reader B → Reader (A × B)
pair_at f g = then_at f (λ _. g)

-- a part, as another value
abbrev pub made_at : {A B : Type 0} → (A → B) → Reader A → Reader B
made_at make f bytes = f bytes >>= λ a. Ok (make a.0, a.1)

abbrev pub or_bad : {B : Type 0} → Option B → List ℕ → Result (B × List ℕ) Fault
or_bad None rest = Err Bad
or_bad (Some b) rest = Ok (b, rest)

-- a part, as another value where it is one
abbrev pub drawn_at : {A B : Type 0} → (A → Option B) → Reader A → Reader B
drawn_at make f bytes = f bytes >>= λ a. or_bad (make a.0) a.1

-- a part that passes a test
abbrev pub when_at : {A : Type 0} → (A → Bool) → Reader A → Reader A
when_at test f bytes = f bytes >>= λ a. if test a.0 then Ok a else Err Bad

-- a number of parts, each read in the light of those before it
unfoldable pub rows_after : {A : Type 0} → (List A → Reader A) → List A → ℕ → Reader (List A)
rows_after f before zero bytes = Ok (before, bytes)
rows_after f before (suc n) bytes = f before bytes >>= λ a. rows_after f (before ++ a.0 ∷ []) n a.1

-- a count, and that many parts
abbrev pub list_at : {A : Type 0} → Reader ℕ → (List A → Reader A) → Reader (List A)
list_at count f bytes = count bytes >>= λ n. rows_after f [] n.0 n.1

-- ---- the parts

abbrev pub byte_at : Reader ℕ
byte_at [] = Err Cut
byte_at (b ∷ rest) = Ok (b, rest)

abbrev pub number_at : Width → Reader ℕ
number_at w bytes =
    if nat_lt (length bytes) (byte_len w) then Err Cut
    else Ok (from_be_bytes w (take (byte_len w) bytes), drop (byte_len w) bytes)

-- as many bytes as are asked for
abbrev pub bytes_at : ℕ → Reader (List ℕ)
bytes_at n bytes = if nat_lt (length bytes) n then Err Cut else Ok (take n bytes, drop n bytes)

-- a length, and that many bytes
abbrev pub string_at : Reader ℕ → Reader (List ℕ)
string_at count bytes = count bytes >>= λ n. bytes_at n.0 n.1

-- whether a number is from one to another
abbrev pub is_between : ℕ → ℕ → ℕ → Bool
is_between least most n = nat_le least n && nat_le n most

unfoldable pub magic_at : Reader (List ℕ)
magic_at = when_at (bytes_eq magic) (bytes_at 4)

-- a text with a byte of length, which is from one number to another
unfoldable pub short_at : ℕ → ℕ → Reader (List ℕ)
short_at least most = when_at is_utf8 (string_at (when_at (is_between least most) byte_at))

unfoldable pub key_at : Reader (List ℕ)
key_at = when_at is_key (short_at 1 64)

-- a name that none before it equals
abbrev pub is_new : List (List ℕ) → List ℕ → Bool
is_new before name = not (list_any (λ n. bytes_eq n name) before)

unfoldable pub name_at : Reader (List ℕ)
name_at = when_at is_name (short_at 1 16)

unfoldable pub new_name_at : List (List ℕ) → Reader (List ℕ)
new_name_at before = when_at (is_new before) name_at

unfoldable pub names_at : Reader (List (List ℕ))
names_at = list_at (when_at (is_between 1 256) (number_at w16)) new_name_at

abbrev pub roster_by : List ℕ × List (List ℕ) → Option RosterValue
roster_by p = if are_names p.1 then Some (record { group = p.0; names = p.1 }) else None

-- each name and their number were judged where they were read, so these parts are always a roster
unfoldable pub roster_at : Reader RosterValue
roster_at = drawn_at roster_by (pair_at key_at names_at)

-- the number of one of so many replicas
abbrev pub is_number : ℕ → ℕ → Bool
is_number replicas n = nat_lt n replicas

unfoldable pub replica_at : ℕ → Reader ℕ
replica_at replicas = when_at (is_number replicas) byte_at

-- a roster, and the number of one of its replicas
unfoldable pub member_at : Reader (RosterValue × ℕ)
member_at = then_at roster_at (λ roster. replica_at (length roster.names))

-- what stands before the dots: the format, the roster and the own number
unfoldable pub header_at : Reader (RosterValue × ℕ)
header_at = made_at (λ p. p.1) (pair_at magic_at member_at)

-- ---- a set of dots

abbrev pub last : {A : Type 0} → List A → Option A
last xs = slice_get xs (length xs - 1)

-- where the next gap may begin: there is a dot between any two
abbrev pub least_lo : Option Gap → ℕ
least_lo None = 1
least_lo (Some g) = g.hi + 2

-- which replica may come next
abbrev pub least_replica : Option DotRow → ℕ
least_replica None = 0
least_replica (Some r) = r.replica + 1

abbrev pub gap_by : ℕ × ℕ → Gap
gap_by p = record { lo = p.0; hi = p.1 }

-- where a gap ends: below the top
abbrev pub is_end : ℕ → ℕ → ℕ → Bool
is_end top lo hi = nat_le lo hi && nat_lt hi top

-- the gap that comes next below a top
unfoldable pub gap_at : ℕ → Option Gap → Reader Gap
gap_at top before =
    made_at gap_by
    (then_at (when_at (nat_le (least_lo before)) (number_at w64)) (λ lo. when_at (is_end top lo) (number_at w64)))

unfoldable pub gaps_at : ℕ → Reader (List Gap)
gaps_at top = list_at (number_at w32) (λ before. gap_at top (last before))

-- the top of a replica and the gaps below it
unfoldable pub numbers_at : Reader (ℕ × List Gap)
numbers_at = then_at (when_at (is_between 1 MAX_SEQ) (number_at w64)) gaps_at

abbrev pub dot_row_by : ℕ × (ℕ × List Gap) → DotRow
dot_row_by p = record { replica = p.0; top = p.1.0; gaps = p.1.1 }

-- a replica of so many, from a least one on
abbrev pub is_next_replica : ℕ → ℕ → ℕ → Bool
is_next_replica replicas least n = nat_le least n && nat_lt n replicas

unfoldable pub dot_row_at : ℕ → List DotRow → Reader DotRow
dot_row_at replicas before =
    made_at dot_row_by (pair_at (when_at (is_next_replica replicas (least_replica (last before))) byte_at) numbers_at)

-- a row in two steps: what it begins with, and its gaps
abbrev pub row_head_by : ℕ × (ℕ × ℕ) → RowHead
row_head_by p = record { replica = p.0; top = p.1.0; gaps = p.1.1 }

unfoldable pub row_head_at : ℕ → ℕ → Reader RowHead
row_head_at replicas least =
    made_at row_head_by
    (pair_at (when_at (is_next_replica replicas least) byte_at)
    (pair_at (when_at (is_between 1 MAX_SEQ) (number_at w64)) (number_at w32)))

abbrev pub row_gaps_at : ℕ → ℕ → Reader (List Gap)
row_gaps_at top count = rows_after (λ before. gap_at top (last before)) [] count

abbrev pub row_by : RowHead × List Gap → DotRow
row_by p = record { replica = p.0.replica; top = p.0.top; gaps = p.1 }

unfoldable pub dot_rows_at : ℕ → Reader (List DotRow)
dot_rows_at replicas = list_at (number_at w16) (dot_row_at replicas)

-- a set of dots, by its rows
unfoldable pub dots_at : ℕ → Reader Dots
dots_at replicas = made_at dots_of_rows (dot_rows_at replicas)

-- ---- live rows

abbrev pub is_kind : ℕ → Bool
is_kind b = b == 1 || b == 2

abbrev pub kind_by : ℕ → Kind
kind_by b = if b == 1 then Reg else Elem

unfoldable pub kind_at : Reader Kind
kind_at = made_at kind_by (when_at is_kind byte_at)

unfoldable pub int_at : Reader ℤ
int_at = made_at (cast_signed w64) (number_at w64)

unfoldable pub text_at : Reader (List ℕ)
text_at = when_at is_utf8 (string_at (when_at (is_between 0 1024) (number_at w16)))

abbrev pub int_scalar : ℤ → Scalar
int_scalar z = Int z

abbrev pub text_scalar : List ℕ → Scalar
text_scalar t = Text t

-- the length was judged where it was read, so the test, which is that of every text, never fails here
unfoldable pub text_scalar_at : Reader Scalar
text_scalar_at = made_at text_scalar (when_at (λ t. nat_le (length t) 1024) text_at)

-- what follows a tag
abbrev pub tagged_at : ℕ → Reader Scalar
tagged_at tag rest =
    if tag == 0 then Ok (Null, rest)
    else (if tag == 1 then Ok (Truth false, rest)
    else (if tag == 2 then Ok (Truth true, rest)
    else (if tag == 3 then made_at int_scalar int_at rest
    else (if tag == 4 then text_scalar_at rest
    else Err Bad))))

unfoldable pub scalar_at : Reader Scalar
scalar_at bytes = byte_at bytes >>= λ tag. tagged_at tag.0 tag.1

abbrev pub dot_by : ℕ × ℕ → Dot
dot_by p = record { replica = p.0; seq = p.1 }

abbrev pub dot_of_row : Option (Dot × Entry) → Option Dot
dot_of_row None = None
dot_of_row (Some row) = Some row.0

-- a seen dot that comes after the one before it
abbrev pub is_next_dot : Dots → List (Dot × Entry) → Dot → Bool
is_next_dot seen before d = comes_after (dot_of_row (last before)) d && set.contains seen d

unfoldable pub dot_at : Dots → List (Dot × Entry) → Reader Dot
dot_at seen before = when_at (is_next_dot seen before) (made_at dot_by (pair_at byte_at (number_at w64)))

-- a path of such keys; their number was judged where it was read, so the test, which is that of every path, never
-- fails here
abbrev pub path_with : Reader (List ℕ) → Reader (List (List ℕ))
path_with key = when_at (λ keys. nat_le (length keys) 8) (list_at (when_at (is_between 1 8) byte_at) (λ _. key))

-- an entry with such a path; one that was read has 1 to 8 keys, so these parts are always an entry
abbrev pub entry_with : Reader (List (List ℕ)) → Reader Entry
entry_with path = drawn_at entry_of_tuple (pair_at path (pair_at kind_at scalar_at))

-- the next row with such an entry
abbrev pub live_row_with : Reader Entry → Dots → List (Dot × Entry) → Reader (Dot × Entry)
live_row_with entry seen before = pair_at (dot_at seen before) entry

-- ---- rows of counters

-- a key and a replica that come after those of the row before
abbrev pub comes_after_row : Option CountRow → List ℕ → ℕ → Bool
comes_after_row None key replica = true
comes_after_row (Some r) key replica = is_lt (ordering_then (slice_cmp nat_cmp r.key key) (nat_cmp r.replica replica))

-- the next key, and a replica of so many
abbrev pub is_next_place : ℕ → List CountRow → List ℕ × ℕ → Bool
is_next_place replicas before p = comes_after_row (last before) p.0 p.1 && nat_lt p.1 replicas

-- the next place with such a key
abbrev pub place_with : Reader (List ℕ) → ℕ → List CountRow → Reader (List ℕ × ℕ)
place_with key replicas before = when_at (is_next_place replicas before) (pair_at key byte_at)

abbrev pub is_count : ℕ → Bool
is_count n = nat_le n MAX_COUNT

-- the second of two numbers that aren't both 0
abbrev pub is_second : ℕ → ℕ → Bool
is_second p n = is_count n && (nat_lt 0 p || nat_lt 0 n)

unfoldable pub counts_at : Reader (ℕ × ℕ)
counts_at = then_at (when_at is_count (number_at w64)) (λ p. when_at (is_second p) (number_at w64))

abbrev pub count_row_by : (List ℕ × ℕ) × (ℕ × ℕ) → CountRow
count_row_by x = record { key = x.0.0; replica = x.0.1; p = x.1.0; n = x.1.1 }

-- a row of such a place
abbrev pub count_row_with : Reader (List ℕ × ℕ) → Reader CountRow
count_row_with place = made_at count_row_by (pair_at place counts_at)

-- ---- rows, for any reader of their keys

module _ (key : Reader (List ℕ)) where
  unfoldable pub keyed_path_at : Reader (List (List ℕ))
  keyed_path_at = path_with key

  unfoldable pub keyed_entry_at : Reader Entry
  keyed_entry_at = entry_with keyed_path_at

  unfoldable pub keyed_live_row_at : Dots → List (Dot × Entry) → Reader (Dot × Entry)
  keyed_live_row_at seen before = live_row_with keyed_entry_at seen before

  unfoldable pub keyed_live_rows_at : Dots → Reader (List (Dot × Entry))
  keyed_live_rows_at seen = list_at (number_at w32) (keyed_live_row_at seen)

  unfoldable pub keyed_place_at : ℕ → List CountRow → Reader (List ℕ × ℕ)
  keyed_place_at replicas before = place_with key replicas before

  unfoldable pub keyed_count_row_at : ℕ → List CountRow → Reader CountRow
  keyed_count_row_at replicas before = count_row_with (keyed_place_at replicas before)

  unfoldable pub keyed_count_rows_at : ℕ → Reader (List CountRow)
  keyed_count_rows_at replicas = list_at (number_at w32) (keyed_count_row_at replicas)

  unfoldable pub keyed_counters_at : ℕ → Reader Counted
  keyed_counters_at replicas = made_at counts_of (keyed_count_rows_at replicas)

-- ---- rows of which each key is a short text

unfoldable pub path_at : Reader (List (List ℕ))
path_at = path_with key_at

unfoldable pub entry_at : Reader Entry
entry_at = entry_with path_at

unfoldable pub live_row_at : Dots → List (Dot × Entry) → Reader (Dot × Entry)
live_row_at seen before = live_row_with entry_at seen before

unfoldable pub live_rows_at : Dots → Reader (List (Dot × Entry))
live_rows_at seen = list_at (number_at w32) (live_row_at seen)

unfoldable pub place_at : ℕ → List CountRow → Reader (List ℕ × ℕ)
place_at replicas before = place_with key_at replicas before

unfoldable pub count_row_at : ℕ → List CountRow → Reader CountRow
count_row_at replicas before = count_row_with (place_at replicas before)

unfoldable pub count_rows_at : ℕ → Reader (List CountRow)
count_rows_at replicas = list_at (number_at w32) (count_row_at replicas)

unfoldable pub counters_at : ℕ → Reader Counted
counters_at replicas = made_at counts_of (count_rows_at replicas)
