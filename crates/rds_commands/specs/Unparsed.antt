-- Words that are none of the program's.
use Rattle.std.specs.Prelude.{◌≡◌, ℕ, List, ◌++◌, Option, Err}
use Rattle.std.specs.Io.KnownBytes.{Appends}
use Rattle.clap.specs.declared.error.kind.ErrorKind.{ErrorKind}
use Rattle.clap.specs.declared.error.kind.ErrorKind.TheVariants.{DisplayHelp, DisplayVersion, OutOfMemory}
use Rattle.rds_names.specs.declared.fault.Fault.TheVariants.{Memory, Usage}
use Rattle.rds_keep.specs.Parts.{BytesGrow}
use Rattle.rds_output.specs.Output.{Writes, fault_line}

-- the status where the words gave no task: help or the version was asked for, memory ran out, or they are none of the
-- program's
abbrev pub unparsed_status : ErrorKind → ℕ
unparsed_status DisplayHelp = 0
unparsed_status DisplayVersion = 0
unparsed_status OutOfMemory = 1
unparsed_status _ = 2

-- known bytes grow by these, and some text or none behind them
abbrev pub AppendsBehind : Option (List ℕ) → Option (List ℕ) → List ℕ → Type 0
AppendsBehind old new bytes = (text : List ℕ) × Appends old new (bytes ++ text)

-- what is written where the words gave no task, and its status: the fault, where memory ran out; else the library's
-- text, behind the line of `Usage` where the words are none of the program's
abbrev pub WritesUnparsed : ErrorKind → Option (List ℕ) → Option (List ℕ) → ℕ → Type 0
WritesUnparsed OutOfMemory before after status = Writes (Err Memory) before after status
WritesUnparsed DisplayHelp before after status = BytesGrow before after × (status ≡ 0)
WritesUnparsed DisplayVersion before after status = BytesGrow before after × (status ≡ 0)
WritesUnparsed _ before after status = AppendsBehind before after (fault_line Usage) × (status ≡ 2)
