-- What commands on the replica in a file come to, and why they are refused.
pub use Rattle.rds_lines.specs.Editing.{AnswersEdited, edit_refusal}
use Rattle.std.specs.Prelude.{◌≡◌, ◌⊎◌, ℕ, false, List, Option, Some, None, Ok, Err, IsOk}
use Rattle.std.specs.FinMap as map
use Rattle.rds_names.specs.declared.fault.Fault.{Fault}
use Rattle.rds_names.specs.declared.fault.Fault.TheVariants.{Memory}
use Rattle.rds_names.specs.Gives.{Refuses}
use Rattle.rds_names.specs.Path.{path_of}
use Rattle.rds_names.specs.Roster.{grown_of}
use Rattle.rds_state.specs.Edit.{IsDue}
use Rattle.rds_keep.specs.Changes.{ChangeValue}
use Rattle.rds_state.specs.Fits.{ReplicaValue}
use Rattle.rds_state.specs.Value.{StateValue}
use Rattle.rds_state.specs.declared.command.Command.{Command}
use Rattle.rds_listing.specs.Presence.{StandsThere}
use Rattle.rds_lines.specs.Views.{ShowsView}
use Rattle.rds_lines.specs.declared.views.Layout.{Layout}
use Rattle.rds_output.specs.declared.reply.Reply.{Reply}
use Rattle.rds_output.specs.declared.reply.Reply.TheVariants.{Done, Edited}
use Rattle.rds_files.specs.Files.{
  FileValue,
  IsHeldAt,
  IsReadAt,
  IsReplacedAt,
  IsUnkept,
  IsUnreadFile,
  KeptFile,
  RefusesFile,
  RefusesLock,
  ReplacedValue,
  is_beside,
}
use Rattle.rds_words.specs.Meaning.{IsCommand, names_for, roster_for}
use Rattle.rds_words.specs.declared.tasks.EditWords.{EditWords}
use Rattle.rds_words.specs.declared.tasks.GrowWords.{GrowWords}
use Rattle.rds_words.specs.declared.tasks.InitWords.{InitWords}

-- ---- init

-- the empty replica of the words' roster and own number
pub record IsNamed (words : InitWords) (replica : ReplicaValue) : Type 0 where
  pub named : roster_for words ≡ Ok (replica.roster, replica.own)
  pub no_lives : replica.state.lives ≡ map.empty
  pub no_counts : replica.state.counts ≡ map.empty

-- the file of the words' path was made, and keeps that replica, and that it was done is reported
pub record InitsFile (words : InitWords) (file : KeptFile) (answer : Reply) : Type 0 where
  pub at : file.path ≡ words.file.now
  pub place : is_beside words.file.now ≡ false
  pub kept : IsNamed words file.kept
  pub told : answer ≡ Done

-- why no file is made: the words name no replica; else something is there, or the path is none for it, or that replica
-- can't be kept; or Memory
abbrev pub RefusesInit : InitWords → Fault → Type 0
RefusesInit words fault =
    (fault ≡ Memory)
    ⊎ ((roster_for words ≡ Err fault) ⊎ ((replica : ReplicaValue) × IsNamed words replica × RefusesFile replica fault))

-- ---- grow

-- the same replica with these names behind those of its roster
pub record IsGrownByNames (names : List (List ℕ)) (before after : ReplicaValue) : Type 0 where
  pub roster : grown_of before.roster names ≡ Ok after.roster
  pub own : after.own ≡ before.own
  pub state : after.state ≡ before.state

-- the file of the words' path was read under its lock, and keeps what it held then with the words' names behind those
-- of its roster, and that it was done is reported
pub record GrowsFile (words : GrowWords) (file : ReplacedValue) (answer : Reply) : Type 0 where
  pub read : IsReplacedAt words.file.now file
  pub names : List (List ℕ)
  pub asked : names_for words ≡ Ok names
  pub grown : IsGrownByNames names file.before file.kept
  pub told : answer ≡ Done

-- a grown replica can't be kept
abbrev pub IsGrownUnkept : List (List ℕ) → ReplicaValue → Fault → Type 0
IsGrownUnkept names before fault = (after : ReplicaValue) × IsGrownByNames names before after × IsUnkept after fault

-- why a replica isn't grown and kept: no roster has these names too, and only where one has, that the new one can't be
-- kept; Memory comes only there too
abbrev pub RefusesGrowIn : List (List ℕ) → ReplicaValue → Fault → Type 0
RefusesGrowIn names before fault = (grown_of before.roster names ≡ Err fault) ⊎ IsGrownUnkept names before fault

-- why words grow no file: they are no names; else the file can't be locked and read, or the replica in it isn't grown;
-- or Memory
abbrev pub RefusesGrow : GrowWords → Fault → Type 0
RefusesGrow words fault =
    (fault ≡ Memory)
    ⊎ ((names_for words ≡ Err fault)
    ⊎ ((names : List (List ℕ)) × (names_for words ≡ Ok names)
    × (RefusesLock words.file.now fault ⊎ ((before : ReplicaValue) × RefusesGrowIn names before fault))))

-- ---- compact

-- the file at this path was read under its lock, and keeps what it held then, and that it was done is reported
pub record CompactsFile (path : List ℕ) (file : ReplacedValue) (answer : Reply) : Type 0 where
  pub read : IsReplacedAt path file
  pub same : file.kept ≡ file.before
  pub told : answer ≡ Done

-- why no file is written anew: it can't be locked and read, or what it holds can't be kept
abbrev pub RefusesCompact : List ℕ → Fault → Type 0
RefusesCompact path fault = RefusesLock path fault ⊎ ((before : ReplicaValue) × IsUnkept before fault)

-- ---- edits

-- a change without a longer roster
abbrev pub delta_alone : StateValue → ChangeValue
delta_alone delta = record { roster = None; delta = delta }

-- an edited replica can't be kept
abbrev pub IsEditedUnkept : Command → ReplicaValue → Fault → Type 0
IsEditedUnkept command before fault =
    (after : ReplicaValue) × (answer : Reply) × AnswersEdited command before after answer × IsUnkept after fault

-- why a replica isn't edited and kept: what the edit itself is refused by, and only where that is nothing, that the new
-- one can't be kept; Memory comes only there too
abbrev pub RefusesEditIn : Command → ReplicaValue → Fault → Type 0
RefusesEditIn command before fault =
    IsDue (edit_refusal before command) fault
    ⊎ ((edit_refusal before command ≡ None) × IsEditedUnkept command before fault)

-- the file at this path was read under its lock, and keeps what it held then, edited as the words ask by an edit that
-- isn't refused
pub record EditsFile (path : List ℕ) (words : EditWords) (file : ReplacedValue) (answer : Reply) : Type 0 where
  pub read : IsReplacedAt path file
  pub command : Command
  pub asked : IsCommand words (Ok command)
  pub due : edit_refusal file.before command ≡ None
  pub edited : AnswersEdited command file.before file.kept answer

-- why a command isn't carried out on the file at a path: it can't be locked and read, or the replica in it isn't edited
abbrev pub RefusesCommand : List ℕ → Command → Fault → Type 0
RefusesCommand path command fault =
    RefusesLock path fault ⊎ ((before : ReplicaValue) × RefusesEditIn command before fault)

-- why words edit no file: they are no command, or it isn't carried out; or Memory
abbrev pub RefusesEdit : List ℕ → EditWords → Fault → Type 0
RefusesEdit path words fault =
    (fault ≡ Memory)
    ⊎ (IsCommand words (Err fault)
    ⊎ ((command : Command) × IsCommand words (Ok command) × RefusesCommand path command fault))

-- ---- show

-- the file at this path was read, and this is the view, at the path of the text, of what it held, so laid out
pub record ShowsFile (layout : Layout) (path text : List ℕ) (file : FileValue) (answer : Reply) : Type 0 where
  pub read : IsReadAt path file
  pub keys : List (List ℕ)
  pub asked : path_of text ≡ Ok keys
  pub shown : ShowsView layout file.kept.state keys answer

-- why nothing is shown: the text is no path; else there is no replica in the file
abbrev pub RefusesShow : List ℕ → Fault → Type 0
RefusesShow text fault = Refuses fault (path_of text) ⊎ (IsOk (path_of text) × IsUnreadFile fault)

-- ---- edits that may say nothing new

-- the file at this path was read under its lock, and keeps what it held then, edited as the words ask by an edit that
-- says what didn't stand there
pub record EditsNew (path : List ℕ) (words : EditWords) (file : ReplacedValue) (answer : Reply) : Type 0 where
  pub read : IsReplacedAt path file
  pub command : Command
  pub asked : IsCommand words (Ok command)
  pub new : ¬ (StandsThere file.before.state command)
  pub due : edit_refusal file.before command ≡ None
  pub edited : AnswersEdited command file.before file.kept answer

-- the file at this path was read under its lock, and what the words ask for stands in what it holds
pub record IsSame (path : List ℕ) (words : EditWords) (file : KeptFile) : Type 0 where
  pub held : IsHeldAt path file
  pub command : Command
  pub asked : IsCommand words (Ok command)
  pub stands : StandsThere file.kept.state command

-- the file was edited, or it was left as it is, and that nothing changed is reported
abbrev pub EditsIfChanged : List ℕ → EditWords → Option ReplacedValue → Reply → Type 0
EditsIfChanged path words (Some file) answer = EditsNew path words file answer
EditsIfChanged path words None answer = ((file : KeptFile) × IsSame path words file) × (answer ≡ Edited None 0)
