-- Commands that edit the replica in a file, or take a copy of another, as events of the model.
use Rattle.std.specs.Prelude.{ℕ, List, [], ◌∷◌, ◌++◌, length}
use Rattle.rds_state.specs.Fits.{ReplicaValue}
use Rattle.rds_state.specs.declared.command.Command.{Command}
use Rattle.rds_offline.specs.Copies.{MergesFile}
use Rattle.rds_world.specs.Replicas.{IsAskedIn, IsKeptIn, edits}
use Rattle.rds_world.specs.World.{World, Happening, Of, AnswerLent}
use Rattle.rds_world.specs.declared.event.Event.TheVariants.{Ask, Crash, Save, Take}
use Rattle.rds_words.specs.declared.tasks.EditWords.{EditWords}
use Rattle.rds_output.specs.declared.reply.Reply.{Reply}
use Rattle.rds_files.specs.Files.{ReplacedValue}
use Rattle.rds_commands.specs.Batch.{EditsFileBy}
use Rattle.rds_commands.specs.Edits.{EditsFile}
use Rattle.rds_commands.specs.Sessions.{LeavesFile}

-- a file is read, its replica is edited by one command after the other, and kept
abbrev pub editing_events : ReplicaValue → List Command → List Happening
editing_events read commands =
    Of (Crash read.own) ∷ (edits read.own commands ++ Of (Save read.own) ∷ [])

-- the file that a command edits is read, edited and kept
abbrev pub EditingsAreEdits : Type 0
EditingsAreEdits = (w : World) (path : List ℕ) (words : EditWords) (file : ReplacedValue) (answer : Reply)
    → IsKeptIn w file.before → (edits : EditsFile path words file answer)
    → LeavesFile w (editing_events file.before (edits.command ∷ [])) file

-- the file that lines edit is read, edited by the commands of those that aren't refused, and kept once
abbrev pub LinesAreEdits : Type 0
LinesAreEdits = (w : World) (path : List ℕ) (lines : List (List ℕ)) (file : ReplacedValue) (answers : List Reply)
    → IsKeptIn w file.before → EditsFileBy path lines file answers
    → (commands : List Command) × LeavesFile w (editing_events file.before commands) file

-- a file is read, its replica asks, is answered with what another lent, takes that, and is kept
abbrev pub merging_events : World → ReplicaValue → ℕ → List Happening
merging_events w read lent =
    Of (Crash read.own) ∷ Of (Ask read.own) ∷ AnswerLent lent (length w.asks) ∷ Of (Take (length w.answers)) ∷ Of (Save read.own) ∷ []

-- a file takes all that a copy of another has, which that lent when it was copied
abbrev pub MergesAreTakes : Type 0
MergesAreTakes = (w : World) (lent components : ℕ) (path from : List ℕ) (file : ReplacedValue)
    → IsKeptIn w file.before → (merges : MergesFile path from file components) → IsAskedIn w lent merges.source.kept
    → LeavesFile w (merging_events w file.before lent) file
