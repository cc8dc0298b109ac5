-- The registers with more than one value, as lines of JSON.
use Rattle.std.specs.Prelude.{ℕ, Bool, ◌&&◌, nat_lt, List, ◌++◌, codes, filter, length, map}
use Rattle.serde_json.specs.Written.{compact_text}
use Rattle.rds_names.specs.declared.entry.Kind.TheVariants.{Reg}
use Rattle.rds_state.specs.Value.{StateValue}
use Rattle.rds_tree.specs.Document.{document}
use Rattle.rds_tree.specs.Shown.{Shown}
use Rattle.rds_tree.specs.View.{is_that_kind, view_of}
use Rattle.rds_json.specs.Show.{scalars_data}
use Rattle.rds_json.specs.Spelling.{path_data}
use Rattle.rds_listing.specs.Pieces.{lines_text}
use Rattle.rds_listing.specs.Standings.{StandingValue, standings}

abbrev pub is_conflict : StandingValue → Bool
is_conflict standing = is_that_kind Reg standing.kind && nat_lt 1 (length standing.values)

-- its path and its values
abbrev pub conflict_line : StandingValue → List ℕ
conflict_line standing =
    codes "{\"path\":" ++ compact_text (path_data standing.path) ++ codes ",\"values\":"
    ++ compact_text (scalars_data standing.values) ++ codes "}"

-- a line for each of those
abbrev pub conflict_lines : List StandingValue → List (List ℕ)
conflict_lines all = map conflict_line (filter is_conflict all)

-- the lines of what is shown at a path
abbrev pub conflicts_below : List (List ℕ) → Shown → List ℕ
conflicts_below path shown = lines_text (conflict_lines (standings path shown))

-- those of what a state's document has there
abbrev pub conflicts_text : StateValue → List (List ℕ) → List ℕ
conflicts_text state path = conflicts_below path (view_of (document state) path)
