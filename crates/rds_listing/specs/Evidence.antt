-- The rows of a certificate, as lines of JSON.
use Rattle.std.specs.Prelude.{ℕ, nat_eq, List, [], ◌++◌, codes, map, Option, Some, None, if◌then◌else◌, slice_get, unwrap_or}
use Rattle.std.specs.FinMap as fin
use Rattle.std.specs.Fmt.{decimal}
use Rattle.serde_json.specs.Data.{string}
use Rattle.serde_json.specs.Written.{compact_text}
use Rattle.rds_names.specs.Roster.{RosterValue}
use Rattle.rds_names.specs.declared.entry.Entry.{Entry}
use Rattle.rds_names.specs.declared.entry.Kind.{Kind}
use Rattle.rds_names.specs.declared.entry.Kind.TheVariants.{Elem, Reg}
use Rattle.rds_dots.specs.declared.dot.Dot.{Dot}
use Rattle.rds_dots.specs.declared.dot.Run.{Run}
use Rattle.rds_life.specs.Life.{entry_of}
use Rattle.rds_counts.specs.declared.row.Which.{Which}
use Rattle.rds_counts.specs.declared.row.Which.TheVariants.{N, P}
use Rattle.rds_state.specs.Value.{StateValue}
use Rattle.rds_delta.specs.declared.row.Row.{Row}
use Rattle.rds_delta.specs.declared.row.Row.TheVariants.{Live, Dead, Count}
use Rattle.rds_json.specs.Show.{scalar_data}
use Rattle.rds_json.specs.Spelling.{path_data}
use Rattle.rds_listing.specs.Pieces.{lines_text}

-- the name of a number in the roster, as JSON; the empty text where it has none
abbrev pub name_text : RosterValue → ℕ → List ℕ
name_text roster number = compact_text (string (unwrap_or (slice_get roster.names number) []))

abbrev pub kind_text : Kind → List ℕ
kind_text Reg = codes "\"reg\""
kind_text Elem = codes "\"set\""

-- where the entry stands, how, and its value
abbrev pub entry_evidence : Option Entry → List ℕ
entry_evidence None = codes "\"path\":null,\"kind\":null,\"value\":null"
entry_evidence (Some entry) =
    codes "\"path\":" ++ compact_text (path_data entry.path) ++ codes ",\"kind\":" ++ kind_text entry.kind
    ++ codes ",\"value\":" ++ compact_text (scalar_data entry.value)

-- a dot, with the entry that it has in the delta
abbrev pub live_line : RosterValue → StateValue → Dot → List ℕ
live_line roster delta dot =
    codes "{\"live\":[" ++ name_text roster dot.replica ++ codes "," ++ decimal dot.seq ++ codes "],"
    ++ entry_evidence (entry_of (fin.get delta.lives dot)) ++ codes "}"

-- how far dots have come there
abbrev pub rank_text : ℕ → List ℕ
rank_text rank =
    if nat_eq rank 0 then codes "\"unseen\"" else if nat_eq rank 1 then codes "\"live\"" else codes "\"dead\""

-- a replica's name, and its first and last number
abbrev pub named_run_text : RosterValue → Run → List ℕ
named_run_text roster run = name_text roster run.replica ++ codes "," ++ decimal run.lo ++ codes "," ++ decimal run.hi

-- a run of dots, and how far they have come there
abbrev pub dead_line : RosterValue → Run → ℕ → List ℕ
dead_line roster run rank =
    codes "{\"dead\":[" ++ named_run_text roster run ++ codes "],\"was\":" ++ rank_text rank ++ codes "}"

-- the sum of increments or of decrements
abbrev pub which_text : Which → List ℕ
which_text P = codes "\"plus\""
which_text N = codes "\"minus\""

abbrev pub counter_text : List ℕ → List ℕ
counter_text key = codes "{\"counter\":" ++ compact_text (string key) ++ codes ","

abbrev pub replica_text : RosterValue → ℕ → List ℕ
replica_text roster replica = codes "\"replica\":" ++ name_text roster replica ++ codes ","

-- the replica's number, and the number there
abbrev pub much_text : Which → ℕ → ℕ → List ℕ
much_text which sent peer =
    which_text which ++ codes ":" ++ decimal sent ++ codes ",\"was\":" ++ decimal peer ++ codes "}"

abbrev pub number_line : RosterValue → List ℕ → ℕ → Which → ℕ → ℕ → List ℕ
number_line roster key replica which sent peer =
    counter_text key ++ replica_text roster replica ++ much_text which sent peer

abbrev pub row_line : RosterValue → StateValue → Row → List ℕ
row_line roster delta (Live dot) = live_line roster delta dot
row_line roster delta (Dead run rank) = dead_line roster run rank
row_line roster delta (Count key replica which sent peer) = number_line roster key replica which sent peer

-- a line for each row, in their order
abbrev pub evidence_text : RosterValue → StateValue → List Row → List ℕ
evidence_text roster delta rows = lines_text (map (row_line roster delta) rows)
