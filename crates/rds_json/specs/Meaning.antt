-- The laws of what lines mean, over how they are spelled.
use Rattle.std.specs.Prelude.{◌≡◌, ◌↔◌, ℕ, List, Some, true, Ok, Err}
use Rattle.std.specs.List.{list_any}
use Rattle.std.specs.Str.{bytes_eq}
use Rattle.serde_json.specs.Data.{Data}
use Rattle.serde_json.specs.Read.{read}
use Rattle.rds_names.specs.declared.fault.Fault.TheVariants.{BadLine}
use Rattle.rds_state.specs.declared.command.Command.{Command}
use Rattle.rds_json.specs.declared.line.Line.{Line}
use Rattle.rds_json.specs.Limits.{FitsEdit, IsLine}
use Rattle.rds_json.specs.Line.{line_of}
use Rattle.rds_json.specs.Spelling.{edit_data, edit_verbs, line_data, line_words, line_of_word}
use Rattle.rds_json.specs.Unnamed.{edit_of}

-- the text is this line's spelling as JSON, and the line is within the limits
abbrev pub IsTextOfLine : List ℕ → Line → Type 0
IsTextOfLine text line = (read text ≡ Some (line_data line)) × IsLine line

-- so for an edit that names no replica
abbrev pub IsTextOfEdit : List ℕ → Command → Type 0
IsTextOfEdit text edit = (read text ≡ Some (edit_data edit)) × FitsEdit edit

-- the text is an array of JSON whose first member is one of these words
pub record HasWord (words : List (List ℕ)) (text : List ℕ) : Type 0 where
  pub word : List ℕ
  pub behind : List Data
  pub spelled : read text ≡ Some (line_of_word word behind)
  pub known : list_any (bytes_eq word) words ≡ true

abbrev pub LinesMeanTheirSpelling : Type 0
LinesMeanTheirSpelling = (text : List ℕ) (line : Line) → (line_of text ≡ Ok line) ↔ IsTextOfLine text line

abbrev pub EditsMeanTheirSpelling : Type 0
EditsMeanTheirSpelling = (text : List ℕ) (edit : Command) → (edit_of text ≡ Ok edit) ↔ IsTextOfEdit text edit

abbrev pub OtherLinesAreBad : Type 0
OtherLinesAreBad = (text : List ℕ) → (HasWord line_words text → ⊥) → line_of text ≡ Err BadLine

abbrev pub OtherEditsAreBad : Type 0
OtherEditsAreBad = (text : List ℕ) → (HasWord edit_verbs text → ⊥) → edit_of text ≡ Err BadLine
