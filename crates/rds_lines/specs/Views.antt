-- What a view of a state is answered.
use Rattle.std.specs.Prelude.{◌≡◌, ℕ, false, List}
use Rattle.serde_json.specs.Data.{Data}
use Rattle.serde_json.specs.Written.{compact_text}
use Rattle.rds_state.specs.Value.{StateValue}
use Rattle.rds_tree.specs.Document.{document}
use Rattle.rds_tree.specs.Shown.{Shown}
use Rattle.rds_tree.specs.View.{view_of}
use Rattle.rds_json.specs.Show.{IsPretty, data_of}
use Rattle.rds_json.specs.Standing.{standing_data}
use Rattle.rds_output.specs.Reply.{reply_text, is_refusal}
use Rattle.rds_output.specs.declared.reply.Reply.{Reply}
use Rattle.rds_lines.specs.declared.views.Layout.{Layout}
use Rattle.rds_lines.specs.declared.views.Layout.TheVariants.{Compact, Indented}

-- the text is the value's, so laid out
abbrev pub IsLaidOut : Layout → List ℕ → Data → Type 0
IsLaidOut Compact text d = text ≡ compact_text d
IsLaidOut Indented text d = IsPretty text d

-- the JSON of a view
abbrev pub Prints : Layout → Shown → Reply → Type 0
Prints layout view answer = IsLaidOut layout (reply_text answer) (data_of view) × (is_refusal answer ≡ false)

-- that of what a state's document has at a path
abbrev pub ShowsView : Layout → StateValue → List (List ℕ) → Reply → Type 0
ShowsView layout state path answer = Prints layout (view_of (document state) path) answer

-- the compact JSON of what stands at a key of a view
abbrev pub PrintsAt : Shown → List ℕ → Reply → Type 0
PrintsAt view key answer = (reply_text answer ≡ compact_text (standing_data key view)) × (is_refusal answer ≡ false)

-- that of what a state's document has at a key below a path
abbrev pub TellsAt : StateValue → List (List ℕ) → List ℕ → Reply → Type 0
TellsAt state above key answer = PrintsAt (view_of (document state) above) key answer
