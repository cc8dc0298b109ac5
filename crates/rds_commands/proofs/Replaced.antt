-- An edit of what a file held.
use Rattle.std.proofs.Common.{◌≡◌, ◌∙◌, ℕ, List, None, Ok, inl, inr}
use Rattle.rds_names.specs.declared.fault.Fault.{Fault}
use Rattle.rds_state.specs.Edit.{IsDue}
use Rattle.rds_state.specs.Fits.{ReplicaValue}
use Rattle.rds_state.specs.declared.command.Command.{Command}
use Rattle.rds_output.specs.declared.reply.Reply.{Reply}
use Rattle.rds_files.specs.Files.{IsHeldAt, IsUnkept, KeptFile, ReplacedValue}
use Rattle.rds_commands.specs.Edits.{EditsFile, AnswersEdited, RefusesEditIn, edit_refusal}
use Rattle.rds_words.specs.Meaning.{IsCommand}
use Rattle.rds_words.specs.declared.tasks.EditWords.{EditWords}

-- the file that was read under its lock is the one that was replaced
pub edits_file : (path : List ℕ) (words : EditWords) (command : Command) (file : KeptFile) (done : ReplacedValue) (answer : Reply) → IsHeldAt path file → IsCommand words (Ok command)
    → done.path ≡ file.path → done.before ≡ file.kept → edit_refusal file.kept command ≡ None → AnswersEdited command file.kept done.kept answer → EditsFile path words done answer
edits_file path words command file done answer held asked at is due edited = record {
  read = record { at = at ∙ held.at; value = rw is held.value; place = held.place };
  command = command;
  asked = asked;
  due = rw is due;
  edited = rw is edited;
}

-- an edit of a copy that can't be kept
pub unkept_edit : (command : Command) (before old after : ReplicaValue) (answer : Reply) (fault : Fault) → old ≡ before → edit_refusal old command ≡ None → AnswersEdited command old after answer → IsUnkept after fault
    → RefusesEditIn command before fault
unkept_edit command before old after answer fault same due edited unkept = inr (rw (← same) due, (after, answer, rw (← same) edited, unkept))

-- the edit of a copy is refused
pub refused_edit : (command : Command) (before old : ReplicaValue) (fault : Fault) → old ≡ before → IsDue (edit_refusal old command) fault → RefusesEditIn command before fault
refused_edit command before old fault same due = inl (rw (← same) due)

-- the edit of a copy is kept
pub kept_edit : (command : Command) (before old after kept : ReplicaValue) (answer : Reply) → old ≡ before → AnswersEdited command old after answer → kept ≡ after → AnswersEdited command before kept answer
kept_edit command before old after kept answer same edited is = rw (is, ← same) edited
