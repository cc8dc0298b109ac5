-- The edits that make a document, or a part of it, as the lines that name no replica.
use Rattle.std.specs.Prelude.{ℕ, ℤ, pos, negsuc, zero, suc, ◌+◌, ◌/◌, ◌%◌, List, [], ◌∷◌, ◌++◌, map, Option, Some, None}
use Rattle.std.specs.List.{flat_map, repeat}
use Rattle.serde_json.specs.Data.{string}
use Rattle.serde_json.specs.Written.{compact_text}
use Rattle.rds_names.specs.declared.entry.Kind.{Kind}
use Rattle.rds_names.specs.declared.entry.Kind.TheVariants.{Elem, Reg}
use Rattle.rds_names.specs.declared.scalar.Scalar.{Scalar}
use Rattle.rds_state.specs.Value.{StateValue}
use Rattle.rds_state.specs.declared.command.Command.{Command}
use Rattle.rds_state.specs.declared.command.Command.TheVariants.{Set, Add, Inc, Dec}
use Rattle.rds_tree.specs.Document.{document}
use Rattle.rds_tree.specs.Parts.{only_key}
use Rattle.rds_tree.specs.Shown.{Shown}
use Rattle.rds_tree.specs.Shows.{counters_in}
use Rattle.rds_tree.specs.View.{view_of}
use Rattle.rds_json.specs.Spelling.{amount_data, edit_data, line_of_word}
use Rattle.rds_listing.specs.Pieces.{lines_text}
use Rattle.rds_listing.specs.Standings.{StandingValue, standings}

-- a value of a register is set, an element of a set is added
abbrev pub value_edit : List (List ℕ) → Kind → Scalar → Command
value_edit path Reg value = Set path value
value_edit path Elem value = Add path value

-- an edit for each value
abbrev pub standing_edits : StandingValue → List Command
standing_edits s = map (value_edit s.path s.kind) s.values

-- the most that an edit raises a counter by here, which is what its numbers are bounded by
abbrev pub most : ℕ
most = 281474976710655

-- amounts that make up one more than n: as often the most as is below it, and the rest
abbrev pub amounts : ℕ → List ℕ
amounts n = repeat (n / most) (most ∷ []) ++ (n % most + 1) ∷ []

-- a counter that stands at 0 is raised and lowered
abbrev pub sum_edits : List ℕ → ℤ → List Command
sum_edits key (pos zero) = Inc key 1 ∷ Dec key 1 ∷ []
sum_edits key (pos (suc n)) = map (Inc key) (amounts n)
sum_edits key (negsuc n) = map (Dec key) (amounts n)

-- a view of all has counters, another has none
abbrev pub counter_edits : Option (List (List ℕ × ℤ)) → List Command
counter_edits None = []
counter_edits (Some sums) = flat_map (λ row. sum_edits row.0 row.1) sums

-- the edits of the registers and sets of a view at a path
abbrev pub values_edits : List (List ℕ) → Shown → List Command
values_edits path shown = flat_map standing_edits (standings path shown)

-- the edits of a whole document
abbrev pub dump_edits : Shown → List Command
dump_edits shown = values_edits [] shown ++ counter_edits (counters_in shown)

-- the edits of what stands under the last of these keys below a path, and further below; without a key, of all
abbrev pub part_edits : StateValue → List (List ℕ) → List (List ℕ) → List Command
part_edits state above [] = dump_edits (view_of (document state) [])
part_edits state above (key ∷ []) = values_edits above (only_key key (view_of (document state) above))
part_edits state above (key ∷ next ∷ keys) = part_edits state (above ++ key ∷ []) (next ∷ keys)

-- a counter's key and an amount behind a word
abbrev pub count_line : List ℕ → List ℕ → ℕ → List ℕ
count_line word key by = compact_text (line_of_word word (string key ∷ amount_data by ∷ []))

-- such a line for each amount
abbrev pub counts_as_lines : List ℕ → List ℕ → List ℕ → List ℕ
counts_as_lines word key amounts = lines_text (map (count_line word key) amounts)

-- an edit as its line
abbrev pub line_of_edit : Command → List ℕ
line_of_edit edit = compact_text (edit_data edit)

-- a line for each edit
abbrev pub edits_text : List Command → List ℕ
edits_text edits = lines_text (map line_of_edit edits)

-- those of what a state's document has at a path and below it, as `clear` takes it: at the root alone there are counters
abbrev pub dump_text : StateValue → List (List ℕ) → List ℕ
dump_text state path = edits_text (part_edits state [] path)
