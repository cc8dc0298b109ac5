-- The mark of a state: 128 bits, a sum over its live dots and its rows of counters.
use Rattle.std.specs.Prelude.{ℕ, ◌+◌, ◌-◌, ◌*◌, ◌/◌, ◌%◌, ◌^◌, true, false, nat_lt, if◌then◌else◌, List, length}
use Rattle.std.specs.Prelude.{drop, fold, bit_xor, [], ◌++◌}
use Rattle.std.specs.Fmt.{digits, format_spec, padded_integral}
use Rattle.std.specs.Int.{w64, cast_unsigned, from_be_bytes}
use Rattle.std.specs.Simd.{first_chunks}
use Rattle.rds_names.specs.declared.entry.Entry.{Entry}
use Rattle.rds_names.specs.declared.entry.Kind.{Kind}
use Rattle.rds_names.specs.declared.entry.Kind.TheVariants.{Reg, Elem}
use Rattle.rds_names.specs.declared.scalar.Scalar.{Scalar}
use Rattle.rds_names.specs.declared.scalar.Scalar.TheVariants.{Null, Bool as Truth, Int, Text}
use Rattle.rds_dots.specs.declared.dot.Dot.{Dot}
use Rattle.rds_life.specs.Life.{live_rows}
use Rattle.rds_counts.specs.declared.row.CountRow.{CountRow}
use Rattle.rds_counts.specs.RowsOf.{count_rows}
use Rattle.rds_state.specs.Value.{StateValue}
use Rattle.rds_state.specs.declared.mark.Mark.{Mark}

-- ---- what is mixed

-- a word of 64 bits mixed in, by both halves of a product
unfoldable pub with_word : Mark → ℕ → Mark
with_word m word = (let product = bit_xor m.high word * 0x9e3779b97f4a7c15 in record { high = bit_xor m.low (product / 2 ^ 64); low = product % 2 ^ 64 })

-- five words more, so that each bit of those before tells on all
unfoldable pub finished : Mark → Mark
finished m = with_word (with_word (with_word (with_word (with_word m 0) 0) 0) 0) 0

-- ---- what a row says, in words of 64 bits, its texts with their lengths

-- a number, with a byte put behind it
unfoldable pub with_byte : ℕ → ℕ → ℕ
with_byte word byte = (word * 256 % 2 ^ 64 + byte) % 2 ^ 64

-- the last eight bytes as a number, or all where they are fewer
abbrev pub last_word : List ℕ → ℕ
last_word bytes = if nat_lt (length bytes) 8 then fold with_byte 0 bytes else from_be_bytes w64 (drop (length bytes - 8) bytes)

-- how many bytes there are, eight at a time, and the last eight, which have those that are left
unfoldable pub with_bytes : Mark → List ℕ → Mark
with_bytes m bytes = with_word (fold (λ n word. with_word n (from_be_bytes w64 word)) (with_word m (length bytes)) (first_chunks 8 (length bytes / 8) bytes)) (last_word bytes)

abbrev pub kind_number : Kind → ℕ
kind_number Reg = 1
kind_number Elem = 2

abbrev pub with_scalar : Mark → Scalar → Mark
with_scalar m Null = with_word m 0
with_scalar m (Truth false) = with_word m 1
with_scalar m (Truth true) = with_word m 2
with_scalar m (Int value) = with_word (with_word m 3) (cast_unsigned w64 value)
with_scalar m (Text text) = with_bytes (with_word m 4) text

-- the path, how the entry stands there, and the value
abbrev pub with_entry : Mark → Entry → Mark
with_entry m e = with_scalar (with_word (fold with_bytes (with_word m (length e.path)) e.path) (kind_number e.kind)) e.value

-- the mark of a live dot. Rows of counters begin with another word.
unfoldable pub live_mark : Dot → Entry → Mark
live_mark d e = finished (with_entry (with_word (with_word (record { high = 0x243f6a8885a308d3; low = 0 }) d.replica) d.seq) e)

unfoldable pub count_mark : CountRow → Mark
count_mark r = finished (with_word (with_word (with_word (with_bytes (record { high = 0x13198a2e03707344; low = 0 }) r.key) r.replica) r.p) r.n)

-- ---- sums, each half modulo 2^64

abbrev pub no_mark : Mark
no_mark = record { high = 0; low = 0 }

unfoldable pub plus : Mark → Mark → Mark
plus m n = record { high = (m.high + n.high) % 2 ^ 64; low = (m.low + n.low) % 2 ^ 64 }

abbrev pub plus_live : Mark → Dot × Entry → Mark
plus_live m row = plus m (live_mark row.0 row.1)

abbrev pub plus_count : Mark → CountRow → Mark
plus_count m row = plus m (count_mark row)

-- over the live dots, and then over the rows of counters
unfoldable pub mark_of : StateValue → Mark
mark_of v = fold plus_count (fold plus_live no_mark (live_rows v.lives)) (count_rows v.counts)

-- ---- as text: 32 hex digits, the high half first

abbrev half_text : ℕ → List ℕ
half_text n = padded_integral (format_spec 32 0 4 16 (2 ^ 64 - 1)) false [] (digits 16 false n)

unfoldable pub mark_text : Mark → List ℕ
mark_text m = half_text m.high ++ half_text m.low
