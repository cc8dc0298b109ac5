-- How lines are spelled: as an array of JSON, a word and what belongs to it.
use Rattle.std.specs.Prelude.{ℕ, List, [], ◌∷◌, ◌++◌, codes, map}
use Rattle.std.specs.List.{join_with_byte}
use Rattle.serde_json.specs.Data.{Data, array, number, string, unsigned}
use Rattle.serde_json.specs.View.{items_of}
use Rattle.rds_state.specs.declared.command.Command.{Command}
use Rattle.rds_state.specs.declared.command.Command.TheVariants.{Set, Add, Del, Clear, Inc, Dec}
use Rattle.rds_json.specs.declared.line.Line.{Line}
use Rattle.rds_json.specs.declared.line.Line.TheVariants.{Roster, Edit, Save, Crash, Ask, Answer, Take, Grow, Show}
use Rattle.rds_json.specs.Show.{scalar_data}

-- the words of edits
abbrev pub edit_verbs : List (List ℕ)
edit_verbs = codes "set" ∷ codes "add" ∷ codes "del" ∷ codes "clear" ∷ codes "inc" ∷ codes "dec" ∷ []

-- the words of all lines
abbrev pub line_words : List (List ℕ)
line_words =
    codes "roster" ∷ edit_verbs
    ++ codes "save" ∷ codes "crash" ∷ codes "ask" ∷ codes "answer" ∷ codes "take" ∷ codes "grow" ∷ codes "show" ∷ []

-- the keys, with a '/' between each two
abbrev pub path_data : List (List ℕ) → Data
path_data keys = string (join_with_byte 47 keys)

abbrev pub amount_data : ℕ → Data
amount_data n = number (unsigned n)

-- a line: its word, then its members
abbrev pub line_of_word : List ℕ → List Data → Data
line_of_word word ds = array (items_of (string word ∷ ds))

-- an edit: its word, then these members, then its own
abbrev pub edit_behind : List Data → Command → Data
edit_behind ds (Set path value) = line_of_word (codes "set") (ds ++ path_data path ∷ scalar_data value ∷ [])
edit_behind ds (Add path value) = line_of_word (codes "add") (ds ++ path_data path ∷ scalar_data value ∷ [])
edit_behind ds (Del path value) = line_of_word (codes "del") (ds ++ path_data path ∷ scalar_data value ∷ [])
edit_behind ds (Clear path) = line_of_word (codes "clear") (ds ++ path_data path ∷ [])
edit_behind ds (Inc key by) = line_of_word (codes "inc") (ds ++ string key ∷ amount_data by ∷ [])
edit_behind ds (Dec key by) = line_of_word (codes "dec") (ds ++ string key ∷ amount_data by ∷ [])

-- an edit that names no replica
abbrev pub edit_data : Command → Data
edit_data edit = edit_behind [] edit

abbrev pub line_data : Line → Data
line_data (Roster roster) = line_of_word (codes "roster") (string roster.group ∷ map string roster.names)
line_data (Edit name edit) = edit_behind (string name ∷ []) edit
line_data (Save name) = line_of_word (codes "save") (string name ∷ [])
line_data (Crash name) = line_of_word (codes "crash") (string name ∷ [])
line_data (Ask name) = line_of_word (codes "ask") (string name ∷ [])
line_data (Answer name ask) = line_of_word (codes "answer") (string name ∷ amount_data ask ∷ [])
line_data (Take answer) = line_of_word (codes "take") (amount_data answer ∷ [])
line_data (Grow name newcomer) = line_of_word (codes "grow") (string name ∷ string newcomer ∷ [])
line_data (Show name path) = line_of_word (codes "show") (string name ∷ path_data path ∷ [])
