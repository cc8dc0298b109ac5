-- The texts that calls tell of a replica.
use Rattle.std.specs.Prelude.{◌≡◌, ℕ, List, Ok}
use Rattle.rds_keep.specs.Sums.{file_text}
use Rattle.rds_lines.specs.Overview.{IsOverview}
use Rattle.rds_listing.specs.Conflicts.{conflicts_text}
use Rattle.rds_listing.specs.Dump.{dump_text}
use Rattle.rds_questions.specs.Questions.{question_of, question_text}
use Rattle.rds_state.specs.Fits.{ReplicaValue}
use Rattle.rds_state.specs.Mark.{mark_of, mark_text}
use Rattle.rds_store.specs.Looks.{IsValueText, text_at_path, view_text}
use Rattle.rds_c.specs.declared.looking.Look.{Look}
use Rattle.rds_c.specs.declared.looking.Look.TheVariants.{View, Value, Conflicts, Dump}
use Rattle.rds_c.specs.declared.looking.Whole.{Whole}
use Rattle.rds_c.specs.declared.looking.Whole.TheVariants.{Snapshot, Status, Mark, Question}

-- at the path that a text is
abbrev pub IsTextAt : Look → List ℕ → ReplicaValue → List ℕ → Type 0
IsTextAt View path v text = text_at_path view_text v.state path ≡ Ok text
IsTextAt Value path v text = IsValueText v.state path text
IsTextAt Conflicts path v text = text_at_path conflicts_text v.state path ≡ Ok text
IsTextAt Dump path v text = text_at_path dump_text v.state path ≡ Ok text

-- of all of it
abbrev pub IsWholeText : Whole → ReplicaValue → List ℕ → Type 0
IsWholeText Snapshot v text = text ≡ file_text v
IsWholeText Status v text = IsOverview v text
IsWholeText Mark v text = text ≡ mark_text (mark_of v.state)
IsWholeText Question v text = text ≡ question_text (question_of v)
