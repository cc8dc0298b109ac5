-- What is written of files that meet without a connection.
use Rattle.std.specs.Prelude.{◌≡◌, ◌⊎◌, ℕ, Bool, true, false, List, [], Option, Some, None, IfSome, Err}
use Rattle.std.specs.Io.KnownBytes.{Appends}
use Rattle.rds_names.specs.declared.fault.Fault.{Fault}
use Rattle.rds_names.specs.declared.fault.Fault.TheVariants.{Device, Forked, Memory, Usage}
use Rattle.rds_names.specs.Name.{name_of}
use Rattle.rds_files.specs.Files.{FileValue, IsUnreadFile, KeptFile, ReplacedValue}
use Rattle.rds_offline.specs.Copies.{InitsFrom, InitsFromCopy, MergesFile, RefusesInitFrom, RefusesMergeFile}
use Rattle.rds_offline.specs.Letters.{
  AnswersFile,
  AsksFile,
  ChecksTexts,
  RefusesAnswer,
  RefusesCheck,
  RefusesTake,
  TakesFile,
}
use Rattle.rds_output.specs.Output.{Writes, fault_status}
use Rattle.rds_output.specs.Reply.{WritesReply}
use Rattle.rds_output.specs.declared.reply.Reply.TheVariants.{Done, Taken}
use Rattle.rds_words.specs.declared.tasks.InitFromWords.{InitFromWords}
use Rattle.rds_commands.specs.OfFile.{WritesOfFile}
use Rattle.rds_commands.specs.Reading.{IsReadOfInput, text_read}
use Rattle.rds_commands.specs.Visits.{WritesVisitOf, is_site}
use Rattle.rds_lines.specs.Streams.{NoneFailed, Stream}

-- ---- copies

abbrev pub WritesInitFromFile : InitFromWords → Option (List ℕ) → Option (List ℕ) → ℕ → Type 0
WritesInitFromFile words =
    WritesOfFile (λ file answer. InitsFrom words.file.now words.from.now words.own.now file × (answer ≡ Done))
    (RefusesInitFrom words.own.now)

-- the file was made from bytes that a site told
abbrev pub IsFromSite : InitFromWords → KeptFile → Type 0
IsFromSite words file = (copy : List ℕ) × InitsFromCopy words.file.now copy words.own.now file

-- why none was: any fault, since a site may answer any; where the own name is none, that
abbrev pub RefusesInitFromSite : List ℕ → Fault → Type 0
RefusesInitFromSite own fault = (refused : Fault) → name_of own ≡ Err refused → fault ≡ refused

abbrev pub WritesInitFromSite : InitFromWords → Option (List ℕ) → Option (List ℕ) → ℕ → Type 0
WritesInitFromSite words =
    WritesOfFile (λ file answer. IsFromSite words file × (answer ≡ Done)) (RefusesInitFromSite words.own.now)

-- what is written of a file that is made from another, or from what a site tells
abbrev pub WritesInitFrom : InitFromWords → Option (List ℕ) → Option (List ℕ) → ℕ → Type 0
WritesInitFrom words before after status =
    ((is_site words.from.now ≡ false) × WritesInitFromFile words before after status)
    ⊎ ((is_site words.from.now ≡ true) × WritesInitFromSite words before after status)

abbrev pub WritesMerge : List ℕ → List ℕ → Option (List ℕ) → Option (List ℕ) → ℕ → Type 0
WritesMerge path from =
    WritesOfFile (λ file answer. (components : ℕ) × MergesFile path from file components × (answer ≡ Taken components))
    (RefusesMergeFile path)

-- ---- questions and answers

-- nothing was written, and the fault's status is answered
abbrev pub WritesNothing : Fault → Option (List ℕ) → Option (List ℕ) → ℕ → Type 0
WritesNothing fault before after status = Appends before after [] × (status ≡ fault_status fault)

-- the bytes that came with such a file were written, and nothing else; or, for such a fault, nothing
abbrev pub WritesTold : (FileValue → List ℕ → Type 0) → (Fault → Type 0) → Option (List ℕ) → Option (List ℕ) → ℕ → Type 0
WritesTold comes refuses before after status =
    ((file : FileValue) × (bytes : List ℕ) × comes file bytes × Appends before after bytes × (status ≡ 0))
    ⊎ ((fault : Fault) × refuses fault × WritesNothing fault before after status)

abbrev pub WritesAsk : List ℕ → Option (List ℕ) → Option (List ℕ) → ℕ → Type 0
WritesAsk path = WritesTold (AsksFile path) IsUnreadFile

-- the answer to a question
abbrev pub WritesAnswer : List ℕ → List ℕ → Option (List ℕ) → Option (List ℕ) → ℕ → Type 0
WritesAnswer path question = WritesTold (AnswersFile path question) (RefusesAnswer question)

-- the answer to the question that the input is, or there is no input to be read
abbrev pub WritesAnswerTo : List ℕ → Stream → Option (List ℕ) → Option (List ℕ) → ℕ → Type 0
WritesAnswerTo path reading before after status =
    IfSome reading.before
    (λ input. NoneFailed reading
    → WritesAnswer path (text_read input) before after status ⊎ WritesNothing Memory before after status)
    × (reading.CountRose → WritesNothing Device before after status)

-- by which fault a take ends that was kept
abbrev pub fork_fault : Bool → Option Fault
fork_fault true = Some Forked
fork_fault false = None

-- how many components the answer brought that these bytes are to the question that those are, into a file that took it,
-- and then the fault of a fork where it tells one, as of a meeting with a site; or why it took nothing
abbrev pub WritesTakeOf : List ℕ → List ℕ → List ℕ → Option (List ℕ) → Option (List ℕ) → ℕ → Type 0
WritesTakeOf path question answer before after status =
    ((file : ReplacedValue) × (components : ℕ) × (forked : Bool)
    × TakesFile path question answer file components forked
    × WritesVisitOf (Some components) (fork_fault forked) before after status)
    ⊎ ((fault : Fault) × RefusesTake path question answer fault × WritesReply (Err fault) before after status)

-- why question and answer aren't given: both are the input, or a file or the input can't be read; or Memory
abbrev pub IsUngiven : Fault → Type 0
IsUngiven fault = (fault ≡ Usage) ⊎ ((fault ≡ Device) ⊎ (fault ≡ Memory))

-- question and answer are what was read, where one is that of the input; of those in files nothing is said
abbrev pub AreReadBy : Option (List ℕ) → List ℕ → List ℕ → List ℕ → List ℕ → Type 0
AreReadBy held question answer q a = IsReadOfInput held question q × IsReadOfInput held answer a

-- the same of what these words name, or there is nothing
abbrev pub WritesTake : List ℕ → List ℕ → List ℕ → Option (List ℕ) → Option (List ℕ) → Option (List ℕ) → ℕ → Type 0
WritesTake path question answer held before after status =
    ((q : List ℕ) × (a : List ℕ) × AreReadBy held question answer q a × WritesTakeOf path q a before after status)
    ⊎ ((fault : Fault) × IsUngiven fault × Writes (Err fault) before after status)

-- the lines tell what the answer brings to the question that these words name
abbrev pub ChecksRead : List ℕ → List ℕ → Option (List ℕ) → List ℕ → Type 0
ChecksRead question answer held lines =
    (q : List ℕ) × (a : List ℕ) × AreReadBy held question answer q a × ChecksTexts q a lines

-- question and answer aren't given, or the answer brings nothing
abbrev pub IsUnchecked : List ℕ → List ℕ → Option (List ℕ) → Fault → Type 0
IsUnchecked question answer held fault =
    IsUngiven fault
    ⊎ ((q : List ℕ) × (a : List ℕ) × AreReadBy held question answer q a × RefusesCheck q a fault)

-- the lines of what an answer brings were written, and nothing else; or why there are none
abbrev pub WritesCheck : List ℕ → List ℕ → Option (List ℕ) → Option (List ℕ) → Option (List ℕ) → ℕ → Type 0
WritesCheck question answer held before after status =
    ((lines : List ℕ) × ChecksRead question answer held lines × Appends before after lines × (status ≡ 0))
    ⊎ ((fault : Fault) × IsUnchecked question answer held fault × Writes (Err fault) before after status)

-- ---- texts

-- this text was written, and nothing else
abbrev pub WritesText : List ℕ → Option (List ℕ) → Option (List ℕ) → ℕ → Type 0
WritesText text before after status = Appends before after text × (status ≡ 0)
