-- The one text of each value.
use Rattle.std.specs.Prelude.{ℕ, true, false, List, [], ◌∷◌, ◌++◌, length, codes}
use Rattle.std.specs.List.{flat_map}
use Rattle.std.specs.Int.{w16, w32, w64, to_be_bytes, cast_unsigned}
use Rattle.rds_names.specs.Roster.{RosterValue}
use Rattle.rds_names.specs.declared.entry.Entry.{Entry}
use Rattle.rds_names.specs.declared.entry.Kind.{Kind}
use Rattle.rds_names.specs.declared.entry.Kind.TheVariants.{Reg, Elem}
use Rattle.rds_names.specs.declared.scalar.Scalar.{Scalar}
use Rattle.rds_names.specs.declared.scalar.Scalar.TheVariants.{Null, Bool as Truth, Int, Text}
use Rattle.rds_dots.specs.declared.dot.Dot.{Dot}
use Rattle.rds_dots.specs.Dots.{Dots}
use Rattle.rds_dots.specs.Runs.{runs_of}
use Rattle.rds_bytes.specs.declared.dots.Gap.{Gap}
use Rattle.rds_bytes.specs.declared.dots.DotRow.{DotRow}
use Rattle.rds_bytes.specs.DotRows.{rows_from}
use Rattle.rds_counts.specs.declared.row.CountRow.{CountRow}
use Rattle.rds_counts.specs.Counted.{Counted}
use Rattle.rds_counts.specs.RowsOf.{count_rows}

abbrev pub byte_text : ℕ → List ℕ
byte_text b = b ∷ []

-- a byte of length, and that many bytes
abbrev pub short_text : List ℕ → List ℕ
short_text bytes = byte_text (length bytes) ++ bytes

-- the format's name, and its number 1
abbrev pub magic : List ℕ
magic = codes "RDS1"

abbrev pub names_text : List (List ℕ) → List ℕ
names_text names = to_be_bytes w16 (length names) ++ flat_map short_text names

abbrev pub roster_text : RosterValue → List ℕ
roster_text roster = short_text roster.group ++ names_text roster.names

-- a roster, and the number of one of its replicas
abbrev pub member_text : RosterValue → ℕ → List ℕ
member_text roster own = roster_text roster ++ byte_text own

-- what stands before the dots: the format, the roster and the own number
abbrev pub header_text : RosterValue → ℕ → List ℕ
header_text roster own = magic ++ member_text roster own

abbrev pub gap_text : Gap → List ℕ
gap_text g = to_be_bytes w64 g.lo ++ to_be_bytes w64 g.hi

abbrev pub gaps_text : List Gap → List ℕ
gaps_text gaps = to_be_bytes w32 (length gaps) ++ flat_map gap_text gaps

abbrev pub dot_row_text : DotRow → List ℕ
dot_row_text r = byte_text r.replica ++ (to_be_bytes w64 r.top ++ gaps_text r.gaps)

abbrev pub dot_rows_text : List DotRow → List ℕ
dot_rows_text rows = to_be_bytes w16 (length rows) ++ flat_map dot_row_text rows

-- a row for each replica that has dots
unfoldable pub dots_text : Dots → List ℕ
dots_text s = dot_rows_text (rows_from 0 (runs_of s))

abbrev pub kind_byte : Kind → ℕ
kind_byte Reg = 1
kind_byte Elem = 2

abbrev pub text_text : List ℕ → List ℕ
text_text t = to_be_bytes w16 (length t) ++ t

-- a tag, and what it asks for
abbrev pub scalar_text : Scalar → List ℕ
scalar_text Null = 0 ∷ []
scalar_text (Truth false) = 1 ∷ []
scalar_text (Truth true) = 2 ∷ []
scalar_text (Int z) = 3 ∷ to_be_bytes w64 (cast_unsigned w64 z)
scalar_text (Text t) = 4 ∷ text_text t

abbrev pub dot_text : Dot → List ℕ
dot_text d = byte_text d.replica ++ to_be_bytes w64 d.seq

abbrev pub counts_text : ℕ → ℕ → List ℕ
counts_text p n = to_be_bytes w64 p ++ to_be_bytes w64 n

-- ---- rows, for any spelling of their keys

module _ (key_text : List ℕ → List ℕ) where
  abbrev pub keyed_path_text : List (List ℕ) → List ℕ
  keyed_path_text keys = byte_text (length keys) ++ flat_map key_text keys

  abbrev pub keyed_entry_text : Entry → List ℕ
  keyed_entry_text e = keyed_path_text e.path ++ (byte_text (kind_byte e.kind) ++ scalar_text e.value)

  abbrev pub keyed_live_row_text : Dot × Entry → List ℕ
  keyed_live_row_text row = dot_text row.0 ++ keyed_entry_text row.1

  abbrev pub keyed_live_rows_text : List (Dot × Entry) → List ℕ
  keyed_live_rows_text rows = to_be_bytes w32 (length rows) ++ flat_map keyed_live_row_text rows

  abbrev pub keyed_place_text : List ℕ → ℕ → List ℕ
  keyed_place_text key replica = key_text key ++ byte_text replica

  abbrev pub keyed_count_row_text : CountRow → List ℕ
  keyed_count_row_text r = keyed_place_text r.key r.replica ++ counts_text r.p r.n

  abbrev pub keyed_count_rows_text : List CountRow → List ℕ
  keyed_count_rows_text rows = to_be_bytes w32 (length rows) ++ flat_map keyed_count_row_text rows

  -- a row for each key and replica of which a number isn't 0
  unfoldable pub keyed_counters_text : Counted → List ℕ
  keyed_counters_text m = keyed_count_rows_text (count_rows m)

-- ---- rows of which each key is a short text

abbrev pub path_text : List (List ℕ) → List ℕ
path_text keys = keyed_path_text short_text keys

abbrev pub entry_text : Entry → List ℕ
entry_text e = keyed_entry_text short_text e

abbrev pub live_row_text : Dot × Entry → List ℕ
live_row_text row = keyed_live_row_text short_text row

abbrev pub live_rows_text : List (Dot × Entry) → List ℕ
live_rows_text rows = keyed_live_rows_text short_text rows

abbrev pub place_text : List ℕ → ℕ → List ℕ
place_text key replica = keyed_place_text short_text key replica

abbrev pub count_row_text : CountRow → List ℕ
count_row_text r = keyed_count_row_text short_text r

abbrev pub count_rows_text : List CountRow → List ℕ
count_rows_text rows = keyed_count_rows_text short_text rows

unfoldable pub counters_text : Counted → List ℕ
counters_text m = count_rows_text (count_rows m)
