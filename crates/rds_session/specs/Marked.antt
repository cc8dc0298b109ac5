-- The mark of what a replica holds at the end of a session.
use Rattle.std.specs.Prelude.{ℕ, ◌==◌, ◌-◌, Bool, ◌&&◌, nat_lt, List, ◌++◌, length, take, drop, Option, Some, None, Result, Ok, Err, if◌then◌else◌}
use Rattle.std.specs.FinMap as map
use Rattle.std.specs.Int.{w64, from_be_bytes, to_be_bytes}
use Rattle.rds_names.specs.declared.fault.Fault.{Fault}
use Rattle.rds_names.specs.declared.fault.Fault.TheVariants.{Cut, Extra}
use Rattle.rds_state.specs.Mark.{mark_of}
use Rattle.rds_state.specs.Value.{StateValue}
use Rattle.rds_state.specs.declared.mark.Mark.{Mark}
use Rattle.rds_session.specs.Versions.{tells_marks}
use Rattle.rds_session.specs.declared.version.Version.{Version}

-- what a delta has, and what is kept where it has nothing: their join, where the delta is above what is kept
abbrev pub with_delta : StateValue → StateValue → StateValue
with_delta kept delta = record {
  lives = map.from_entries (map.entries delta.lives ++ map.entries kept.lives);
  counts = map.from_entries (map.entries delta.counts ++ map.entries kept.counts);
}

-- the mark of that, where the version tells one
abbrev pub told_mark : Version → StateValue → StateValue → Option Mark
told_mark version kept delta = if tells_marks version then Some (mark_of (with_delta kept delta)) else None

-- ---- as bytes

-- its halves, eight bytes each
abbrev pub mark_bytes : Mark → List ℕ
mark_bytes m = to_be_bytes w64 m.high ++ to_be_bytes w64 m.low

abbrev pub mark_from : List ℕ → Mark
mark_from bytes = record { high = from_be_bytes w64 (take 8 bytes); low = from_be_bytes w64 (drop (length bytes - 8) bytes) }

-- 16 bytes are a mark, and no others are
abbrev pub mark_read : List ℕ → Result Mark Fault
mark_read bytes = if nat_lt (length bytes) 16 then Err Cut else (if nat_lt 16 (length bytes) then Err Extra else Ok (mark_from bytes))

abbrev pub same_mark : Mark → Mark → Bool
same_mark m n = (m.high == n.high) && (m.low == n.low)
