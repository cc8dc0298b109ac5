-- What the program tells for its words.
use Rattle.std.specs.Prelude.{
  ◌≡◌,
  ◌⊎◌,
  ◌==◌,
  ◌-◌,
  ◌^◌,
  ◌||◌,
  if◌then◌else◌,
  ℕ,
  true,
  false,
  List,
  Option,
  Some,
  None,
  IfSome,
  IsSome,
  IsOk,
  Ok,
  Err,
}
use Rattle.clap.specs.Words.{IsAmong, Kinds, Text}
use Rattle.clap.specs.declared.error.kind.ErrorKind.{ErrorKind}
use Rattle.rds_names.specs.declared.fault.Fault.{Fault}
use Rattle.rds_names.specs.declared.fault.Fault.TheVariants.{Device, Memory, Usage}
use Rattle.rds_names.specs.Gives.{Refuses}
use Rattle.rds_names.specs.Path.{path_of}
use Rattle.rds_keep.specs.Parts.{AppendsFront, ConsumesAtMost, BytesGrow}
use Rattle.rds_lines.specs.Ahead.{most_given}
use Rattle.rds_lines.specs.Answering.{WritesAnswers, WritesCut, WritesFront}
use Rattle.rds_lines.specs.Streams.{NoneFailed, Stream, Emits}
use Rattle.rds_output.specs.Output.{Writes, fault_line}
use Rattle.rds_output.specs.Reply.{WritesReply}
use Rattle.rds_output.specs.declared.reply.Reply.TheVariants.{Done}
use Rattle.rds_lines.specs.Sim.{IsSimOutput, MayBeSimulated}
use Rattle.rds_lines.specs.declared.views.Layout.{Layout}
use Rattle.rds_lines.specs.declared.views.Layout.TheVariants as layout
use Rattle.rds_files.specs.Files.{is_beside}
use Rattle.rds_meetings.specs.Pairing.{WritesPair}
use Rattle.rds_meetings.specs.Piping.{Pipes}
use Rattle.rds_meetings.specs.Syncing.{WritesServing, WritesSync}
use Rattle.rds_commands.specs.Edits.{
  CompactsFile,
  EditsFile,
  EditsIfChanged,
  GrowsFile,
  InitsFile,
  RefusesCompact,
  RefusesEdit,
  RefusesGrow,
  RefusesInit,
  RefusesShow,
  ShowsFile,
}
use Rattle.rds_commands.specs.Looks.{WritesGet, WritesStatus}
use Rattle.rds_commands.specs.Batch.{WritesEditLines}
use Rattle.rds_commands.specs.Calls.{WritesCall, calls_site, form_of}
use Rattle.rds_commands.specs.Listing.{WritesDiff, WritesList, WritesRaw, wanted_of}
use Rattle.rds_commands.specs.OfFile.{WritesOfFile}
use Rattle.rds_commands.specs.Offline.{
  WritesAnswerTo,
  WritesAsk,
  WritesCheck,
  WritesInitFrom,
  WritesMerge,
  WritesNothing,
  WritesTake,
  WritesText,
}
use Rattle.rds_commands.specs.Reading.{is_piped}
use Rattle.rds_listing.specs.Conflicts.{conflicts_text}
use Rattle.rds_listing.specs.Dump.{dump_text}
use Rattle.rds_session.specs.declared.talk.Side.{Side}
use Rattle.rds_session.specs.declared.talk.Side.TheVariants.{Client, Server}
use Rattle.rds_session.specs.declared.version.Version.TheVariants.{Five}
use Rattle.rds_words.specs.Meaning.{IsAmount, names_for}
use Rattle.rds_words.specs.Task.{task_words}
use Rattle.rds_commands.specs.Unparsed.{WritesUnparsed}
use Rattle.rds_commands.specs.Visits.{WritesVisit, is_site}
use Rattle.rds_words.specs.declared.help.TheConstants.{FAULTS_TEXT, FILES_TEXT}
use Rattle.rds_words.specs.declared.tasks.EditWords.{EditWords}
use Rattle.rds_words.specs.declared.tasks.GrowWords.{GrowWords}
use Rattle.rds_words.specs.declared.tasks.InitWords.{InitWords}
use Rattle.rds_words.specs.declared.tasks.ServeWords.{ServeWords}
use Rattle.rds_words.specs.declared.tasks.SyncWords.{SyncWords}
use Rattle.rds_words.specs.declared.tasks.WatchWords.{WatchWords}
use Rattle.rds_words.specs.declared.tasks.Task.{Task}
use Rattle.rds_words.specs.declared.tasks.Task.TheVariants.{
  Join,
  Sim,
  Files,
  Faults,
  Init,
  InitFrom,
  Grow,
  Edit,
  EditIfChanged,
  EditLines,
  Get,
  GetRaw,
  Show,
  ShowPretty,
  Dump,
  Compact,
  Status,
  Serve,
  Run,
  Sync,
  Pair,
  Ask,
  Answer,
  Take,
  Merge,
  Check,
  Conflicts,
  Diff,
  Watch,
}

-- the answers to the lines of the input were written, and nothing else; or there was no memory to read the words
abbrev pub WritesSim : List ℕ → Option (List ℕ) → Option (List ℕ) → ℕ → Type 0
WritesSim input before after status =
    Writes (Err Memory) before after status ⊎ WritesAnswers (IsSimOutput input) before after status

-- what becomes of a run of `sim`: what `AnswersLines` says of its lines; or, where there was no memory to read the
-- words, that fault's line was written, or a prefix of it
pub record RunsSim (reading writing : Stream) (status : ℕ) : Type 0 where
  pub sim : IfSome reading.before (λ input. NoneFailed reading → Emits (WritesSim input) writing status)
  pub cut : reading.CountRose → NoneFailed writing
      → WritesCut MayBeSimulated (fault_line Device) reading.before reading.after writing.before writing.after
      × (status ≡ 1)
  pub part : writing.CountRose
      → AppendsFront writing.before writing.after (fault_line Memory)
      ⊎ WritesFront MayBeSimulated (fault_line Device) reading.MayHaveFailed
      reading.before reading.after writing.before writing.after
  pub bound : ConsumesAtMost reading.before reading.after (most_given reading.reads)

abbrev pub WritesInit : InitWords → Option (List ℕ) → Option (List ℕ) → ℕ → Type 0
WritesInit words = WritesOfFile (InitsFile words) (RefusesInit words)

abbrev pub WritesGrow : GrowWords → Option (List ℕ) → Option (List ℕ) → ℕ → Type 0
WritesGrow words = WritesOfFile (GrowsFile words) (RefusesGrow words)

-- that it was done was written, of words that are names; or some fault, since a site may answer any
abbrev pub WritesGrowSite : GrowWords → Option (List ℕ) → Option (List ℕ) → ℕ → Type 0
WritesGrowSite words before after status =
    (IsOk (names_for words) × WritesReply (Ok Done) before after status)
    ⊎ ((fault : Fault) × WritesReply (Err fault) before after status)

-- what is written of a file that grows, or of a site
abbrev pub WritesGrowing : GrowWords → Option (List ℕ) → Option (List ℕ) → ℕ → Type 0
WritesGrowing words before after status =
    ((is_site words.file.now ≡ false) × WritesGrow words before after status)
    ⊎ ((is_site words.file.now ≡ true) × WritesGrowSite words before after status)

abbrev pub WritesCompact : List ℕ → Option (List ℕ) → Option (List ℕ) → ℕ → Type 0
WritesCompact path = WritesOfFile (CompactsFile path) (RefusesCompact path)

abbrev pub WritesEdit : List ℕ → EditWords → Option (List ℕ) → Option (List ℕ) → ℕ → Type 0
WritesEdit path words = WritesOfFile (EditsFile path words) (RefusesEdit path words)

-- the answer of a file that was edited or left as it is, or why the words edit none
abbrev pub WritesIfChanged : List ℕ → EditWords → Option (List ℕ) → Option (List ℕ) → ℕ → Type 0
WritesIfChanged path words = WritesOfFile (EditsIfChanged path words) (RefusesEdit path words)

abbrev pub WritesShow : Layout → List ℕ → List ℕ → Option (List ℕ) → Option (List ℕ) → ℕ → Type 0
WritesShow layout path text = WritesOfFile (ShowsFile layout path text) (RefusesShow text)

-- how many sessions a number asks for: none is no end, and there are never more than a number of 64 bits says
abbrev pub sessions_asked : ℕ → ℕ
sessions_asked n = if n == 0 then 2 ^ 64 - 1 else n

-- the words of `serve` are refused: a number is none, or the path is that of a file beside another
abbrev pub RefusesServe : ServeWords → Type 0
RefusesServe words =
    IsAmount words.sessions.now (Err Usage)
    ⊎ (IsAmount words.timeout.now (Err Usage) ⊎ (is_beside words.file.now ≡ true))

-- one session of this side over the input and the output; or the words are refused, and nothing is written
abbrev pub WritesPiped : Side → List ℕ → Type 0 → Stream → Option (List ℕ) → Option (List ℕ) → ℕ → Type 0
WritesPiped side path Refused reading before after status =
    ((is_beside path ≡ false) × Pipes side path reading.before reading.after before after status)
    ⊎ (Refused × WritesNothing Usage before after status)

-- so many sessions as the words ask for; or they are refused
abbrev pub WritesServeAt : ServeWords → Option (List ℕ) → Option (List ℕ) → ℕ → Type 0
WritesServeAt words before after status =
    ((n : ℕ) × IsAmount words.sessions.now (Ok n) × (is_beside words.file.now ≡ false)
    × WritesServing words.file.now (sessions_asked n) before after status)
    ⊎ (RefusesServe words × Writes (Err Usage) before after status)

-- the same at an address, or one session over the input and the output
abbrev pub WritesServe : ServeWords → Stream → Option (List ℕ) → Option (List ℕ) → ℕ → Type 0
WritesServe words reading before after status =
    ((is_piped words.addr.now ≡ false) × WritesServeAt words before after status)
    ⊎ ((is_piped words.addr.now ≡ true)
    × WritesPiped Server words.file.now (RefusesServe words) reading before after status)

-- a token's file is given, and no site is called
abbrev pub LacksSite : SyncWords → Type 0
LacksSite words = (is_site words.addr.now ≡ false) × IsSome words.token_file

-- the words of `sync` are refused, as those of `serve` are, or since a token is shown to a site alone
abbrev pub RefusesSync : SyncWords → Type 0
RefusesSync words =
    IsAmount words.timeout.now (Err Usage) ⊎ ((is_beside words.file.now ≡ true) ⊎ LacksSite words)

-- one session; or the words are refused
abbrev pub WritesSyncAt : SyncWords → Option (List ℕ) → Option (List ℕ) → ℕ → Type 0
WritesSyncAt words before after status =
    ((is_beside words.file.now ≡ false) × WritesSync words.file.now before after status)
    ⊎ (RefusesSync words × Writes (Err Usage) before after status)

-- a meeting with a site; or the words are refused
abbrev pub WritesSyncSite : SyncWords → Option (List ℕ) → Option (List ℕ) → ℕ → Type 0
WritesSyncSite words before after status =
    ((is_beside words.file.now ≡ false) × WritesVisit words.file.now before after status)
    ⊎ (RefusesSync words × Writes (Err Usage) before after status)

-- one session with a peer at an address, a meeting with a site, or a session over the input and the output
abbrev pub WritesSyncing : SyncWords → Stream → Option (List ℕ) → Option (List ℕ) → ℕ → Type 0
WritesSyncing words reading before after status =
    ((is_piped words.addr.now ≡ false) × (is_site words.addr.now ≡ false) × WritesSyncAt words before after status)
    ⊎ (((is_site words.addr.now ≡ true) × WritesSyncSite words before after status)
    ⊎ ((is_piped words.addr.now ≡ true)
    × WritesPiped (Client Five) words.file.now (RefusesSync words) reading before after status))

-- one session of the files at two paths; or one of them is that of a file beside another
abbrev pub WritesPairing : List ℕ → List ℕ → Option (List ℕ) → Option (List ℕ) → ℕ → Type 0
WritesPairing first second before after status =
    ((is_beside first ≡ false) × (is_beside second ≡ false) × WritesPair first second before after status)
    ⊎ (((is_beside first || is_beside second) ≡ true) × Writes (Err Usage) before after status)

-- a site serves until a fault ends it, which is written
abbrev pub WritesSite : Option (List ℕ) → Option (List ℕ) → ℕ → Type 0
WritesSite before after status = (fault : Fault) × Writes (Err fault) before after status

-- why a site isn't followed any more: none is named, or the path is none, and else whatever the site answers
abbrev pub EndsWatch : WatchWords → Fault → Type 0
EndsWatch words fault =
    ((is_site words.node.now ≡ false) × (fault ≡ Usage))
    ⊎ ((is_site words.node.now ≡ true)
    × (Refuses fault (path_of words.path.now) ⊎ IsOk (path_of words.path.now)))

-- that was written
abbrev pub WritesWatch : WatchWords → Option (List ℕ) → Option (List ℕ) → ℕ → Type 0
WritesWatch words before after status =
    (fault : Fault) × EndsWatch words fault × Writes (Err fault) before after status

-- what is written for a task that is done here, with what became of the input; of `join` and `sim` it is said apart
abbrev pub WritesHere : Task → Stream → Option (List ℕ) → Option (List ℕ) → ℕ → Type 0
WritesHere Join reading before after status = Unit {0}
WritesHere Sim reading before after status = Unit {0}
WritesHere Files reading before after status = WritesText FILES_TEXT.now before after status
WritesHere Faults reading before after status = WritesText FAULTS_TEXT.now before after status
WritesHere (Init words) reading before after status = WritesInit words before after status
WritesHere (InitFrom words) reading before after status = WritesInitFrom words before after status
WritesHere (Grow words) reading before after status = WritesGrowing words before after status
WritesHere (Edit file edit) reading before after status = WritesEdit file.now edit before after status
WritesHere (EditIfChanged file edit) reading before after status = WritesIfChanged file.now edit before after status
WritesHere (EditLines file) reading before after status = WritesEditLines file.now reading before after status
WritesHere (Get file path) reading before after status = WritesGet file.now path.now before after status
WritesHere (GetRaw file path kind) reading before after status =
    WritesRaw file.now path.now (wanted_of kind) before after status
WritesHere (Show file path) reading before after status = WritesShow layout.Compact file.now path.now before after status
WritesHere (ShowPretty file path) reading before after status = WritesShow layout.Indented file.now path.now before after status
WritesHere (Dump file path) reading before after status = WritesList dump_text 0 file.now path.now before after status
WritesHere (Compact file) reading before after status = WritesCompact file.now before after status
WritesHere (Status file) reading before after status = WritesStatus file.now before after status
WritesHere (Serve words) reading before after status = WritesServe words reading before after status
WritesHere (Run words) reading before after status = WritesSite before after status
WritesHere (Sync words) reading before after status = WritesSyncing words reading before after status
WritesHere (Pair first second) reading before after status = WritesPairing first.now second.now before after status
WritesHere (Ask file) reading before after status = WritesAsk file.now before after status
WritesHere (Answer file) reading before after status = WritesAnswerTo file.now reading before after status
WritesHere (Take file question answer) reading before after status =
    WritesTake file.now question.now answer.now reading.before before after status
WritesHere (Merge file from) reading before after status = WritesMerge file.now from.now before after status
WritesHere (Check question answer) reading before after status =
    WritesCheck question.now answer.now reading.before before after status
WritesHere (Conflicts file path) reading before after status =
    WritesList conflicts_text 3 file.now path.now before after status
WritesHere (Diff file other) reading before after status = WritesDiff file.now other.now before after status
WritesHere (Watch words) reading before after status = WritesWatch words before after status

-- the same of any task: one that names a site in place of a file is done there
abbrev pub WritesTask : Task → Stream → Option (List ℕ) → Option (List ℕ) → ℕ → Type 0
WritesTask task reading before after status =
    ((calls_site task ≡ false) × WritesHere task reading before after status)
    ⊎ ((calls_site task ≡ true) × WritesCall (form_of task) before after status)

-- what is written for a task in words, and `Usage` for none
abbrev pub WritesNamed : Option (List Text) → Stream → Option (List ℕ) → Option (List ℕ) → ℕ → Type 0
WritesNamed None reading before after status = Writes (Err Usage) before after status
WritesNamed (Some words) reading before after status =
    (task : Task) × (task_words task ≡ words) × WritesTask task reading before after status

-- the same, or that there was no memory to read the words
abbrev pub MayWriteNamed : Option (List Text) → Stream → Option (List ℕ) → Option (List ℕ) → ℕ → Type 0
MayWriteNamed named reading before after status =
    Writes (Err Memory) before after status ⊎ WritesNamed named reading before after status

-- what is due was written for a way in which words are none of the program's, or that there was no memory to read them
abbrev pub AnswersMistake : Kinds → Option (List ℕ) → Option (List ℕ) → ℕ → Type 0
AnswersMistake kinds before after status =
    Writes (Err Memory) before after status
    ⊎ ((kind : ErrorKind) × IsAmong kind kinds × WritesUnparsed kind before after status)

-- the same, or a prefix of some text
pub record TellsMistake (kinds : Kinds) (writing : Stream) (status : ℕ) : Type 0 where
  pub told : Emits (AnswersMistake kinds) writing status
  pub part : BytesGrow writing.before writing.after
