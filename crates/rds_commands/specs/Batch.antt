-- What many edits of the replica in a file come to, which is read and written once.
use Rattle.std.specs.Prelude.{◌≡◌, ◌⊎◌, ◌<◌, ◌≤◌, ℕ, List, length, Option, Err, IfSome}
use Rattle.rds_names.specs.declared.fault.Fault.{Fault}
use Rattle.rds_names.specs.declared.fault.Fault.TheVariants.{Device, Memory, TooLong}
use Rattle.rds_state.specs.Fits.{ReplicaValue}
use Rattle.rds_lines.specs.Editing.{EditsLines, WritesAll}
use Rattle.rds_lines.specs.Lines.{lines_in}
use Rattle.rds_output.specs.Output.{Writes}
use Rattle.rds_output.specs.declared.reply.Reply.{Reply}
use Rattle.rds_files.specs.Files.{IsReplacedAt, IsUnkept, RefusesLock, ReplacedValue}
use Rattle.rds_lines.specs.Streams.{NoneFailed, Stream}
use Rattle.rds_commands.specs.declared.batch.TheConstants.{MOST}

-- the file at this path was read under its lock, and keeps what the lines made of what it held then, which have these
-- answers
pub record EditsFileBy (path : List ℕ) (lines : List (List ℕ)) (file : ReplacedValue)
    (answers : List Reply) : Type 0 where
  pub read : IsReplacedAt path file
  pub edited : EditsLines lines file.before file.kept answers

-- why a replica isn't edited by lines and kept: what they make of it can't be kept; or Memory
abbrev pub RefusesLinesIn : List (List ℕ) → ReplicaValue → Fault → Type 0
RefusesLinesIn lines before fault =
    (fault ≡ Memory)
    ⊎ ((after : ReplicaValue) × (answers : List Reply) × EditsLines lines before after answers × IsUnkept after fault)

-- why the file at a path isn't edited by lines: it can't be locked and read, or the replica in it isn't edited and kept
abbrev pub RefusesLines : List ℕ → List (List ℕ) → Fault → Type 0
RefusesLines path lines fault = RefusesLock path fault ⊎ ((before : ReplicaValue) × RefusesLinesIn lines before fault)

-- the answers to lines were written, of a file that keeps what they made of it, and nothing else; or why the file
-- isn't edited
abbrev pub WritesLineAnswers : List ℕ → List (List ℕ) → Option (List ℕ) → Option (List ℕ) → ℕ → Type 0
WritesLineAnswers path lines before after status =
    ((file : ReplacedValue) × (answers : List Reply) × EditsFileBy path lines file answers
    × WritesAll answers before after status)
    ⊎ ((fault : Fault) × RefusesLines path lines fault × Writes (Err fault) before after status)

-- the same of the lines of an input, unless it has too many bytes, or there is no memory for it
abbrev pub WritesEdits : List ℕ → List ℕ → Option (List ℕ) → Option (List ℕ) → ℕ → Type 0
WritesEdits path input before after status =
    ((length input ≤ MOST) × WritesLineAnswers path (lines_in input) before after status)
    ⊎ (((MOST < length input) × Writes (Err TooLong) before after status) ⊎ Writes (Err Memory) before after status)

-- the same of the input of a run; where it can't be read, that is reported
abbrev pub WritesEditLines : List ℕ → Stream → Option (List ℕ) → Option (List ℕ) → ℕ → Type 0
WritesEditLines path reading before after status =
    IfSome reading.before (λ input. NoneFailed reading → WritesEdits path input before after status)
    × (reading.CountRose → Writes (Err Device) before after status)
