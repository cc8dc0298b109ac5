-- The text of a set of dots in few bytes: for each replica a top, and the gaps below it, each told from the one before.
use Rattle.std.specs.Prelude.{ℕ, ◌-◌, nat_lt, if◌then◌else◌, List, [], ◌∷◌, ◌++◌, length, Option, Some, None}
use Rattle.std.specs.List.{flat_map}
use Rattle.rds_dots.specs.Dots.{Dots}
use Rattle.rds_dots.specs.Runs.{runs_of}
use Rattle.rds_bytes.specs.declared.dots.Gap.{Gap}
use Rattle.rds_bytes.specs.declared.dots.DotRow.{DotRow}
use Rattle.rds_bytes.specs.declared.dot_rows.RowHead.{RowHead}
use Rattle.rds_bytes.specs.DotRows.{rows_from, CanCountAll}
use Rattle.rds_bytes.specs.Packed.{packed_text}
use Rattle.rds_bytes.specs.Spelling.{byte_text}
use Rattle.rds_bytes.specs.Values.{AreDotsOf}

-- where a gap ends, and 0 where there is none
abbrev pub gap_end : Option Gap → ℕ
gap_end None = 0
gap_end (Some g) = g.hi

-- how far a gap begins past a number, and how far it ends past its first
abbrev pub packed_gap_text : ℕ → Gap → List ℕ
packed_gap_text from g = packed_text (g.lo - from) ++ packed_text (g.hi - g.lo)

-- gaps, each told from the end of the one before, and the first from a number
abbrev pub packed_gaps_text : ℕ → List Gap → List ℕ
packed_gaps_text from [] = []
packed_gaps_text from (g ∷ gs) = packed_gap_text from g ++ packed_gaps_text g.hi gs

-- what a row begins with, and its gaps
abbrev pub row_head_of : DotRow → RowHead
row_head_of r = record { replica = r.replica; top = r.top; gaps = length r.gaps }

abbrev pub packed_head_text : RowHead → List ℕ
packed_head_text h = byte_text h.replica ++ (packed_text h.top ++ packed_text h.gaps)

abbrev pub packed_dot_row_text : DotRow → List ℕ
packed_dot_row_text r = packed_head_text (row_head_of r) ++ packed_gaps_text 0 r.gaps

abbrev pub packed_dot_rows_text : List DotRow → List ℕ
packed_dot_rows_text rows = packed_text (length rows) ++ flat_map packed_dot_row_text rows

-- a row for each replica that has dots
unfoldable pub packed_dots_text : Dots → List ℕ
packed_dots_text s = packed_dot_rows_text (rows_from 0 (runs_of s))

-- dots of so many replicas, whose gaps four bytes can count
abbrev pub AreFewDotsOf : ℕ → Dots → Type 0
AreFewDotsOf replicas s = AreDotsOf replicas s × CanCountAll (rows_from 0 (runs_of s))

-- where the last gap ends after the numbers from a least one on, before a run, where it ended so before them
abbrev pub end_before : ℕ → ℕ → ℕ → ℕ
end_before from least lo = if nat_lt least lo then lo - 1 else from
