-- The task that a parse of the words names.
use Rattle.std.specs.Prelude.{
  ◌≡◌,
  Bool,
  true,
  false,
  List,
  [],
  ◌∷◌,
  ◌++◌,
  Option,
  Some,
  None,
  map,
  option_map,
  option_and_then,
  unwrap_or,
  codes,
  if◌then◌else◌,
}
use Rattle.std.specs.Borrow.{Bor}
use Rattle.std.specs.Option.{option_map_or}
use Rattle.std.specs.Str.{bytes_eq}
use Rattle.clap.specs.Words.{Row, Text, all_of, first_of}
use Rattle.rds_words.specs.declared.tasks.Task.{Task}
use Rattle.rds_words.specs.declared.tasks.Task.TheVariants.{
  Join,
  Sim,
  Files,
  Faults,
  Init,
  InitFrom,
  Grow,
  Edit,
  EditIfChanged,
  EditLines,
  Get,
  GetRaw,
  Show,
  ShowPretty,
  Dump,
  Compact,
  Status,
  Serve,
  Run,
  Sync,
  Pair,
  Ask,
  Answer,
  Take,
  Merge,
  Check,
  Conflicts,
  Diff,
  Watch,
}
use Rattle.rds_words.specs.declared.tasks.EditWords.{EditWords}
use Rattle.rds_words.specs.declared.tasks.EditWords.TheVariants.{Set, Add, Del, Clear, ClearAll, Inc, Dec}
use Rattle.rds_words.specs.declared.tasks.RawKind.{RawKind}
use Rattle.rds_words.specs.declared.tasks.RawKind.TheVariants as kind
use Rattle.rds_words.specs.declared.tasks.ValueWord.{ValueWord}
use Rattle.rds_words.specs.declared.tasks.ValueWord.TheVariants as word
use Rattle.rds_words.specs.Raw.{
  access_words,
  changed_words,
  clear_words,
  init_words,
  log_words,
  peer_words,
  raw_words,
  token_words,
}

-- a value in words
abbrev pub value_words : ValueWord → List Text
value_words (word.Json value) = value.now ∷ []
value_words (word.Text value) = value.now ∷ codes "--text" ∷ []

-- the option that says which values are printed
abbrev pub raw_word : RawKind → Text
raw_word kind.Any = codes "--raw"
raw_word kind.Register = codes "--reg"
raw_word kind.Set = codes "--set"
raw_word kind.Counter = codes "--counter"

-- the same, where there is one
abbrev pub kind_words : Option RawKind → List Text
kind_words None = []
kind_words (Some which) = raw_word which ∷ []

-- an edit of a file's replica in words, the file after the command's name
abbrev pub edit_words : Text → EditWords → List Text
edit_words file (Set path value) = codes "set" ∷ file ∷ path.now ∷ value_words value
edit_words file (Add path value) = codes "add" ∷ file ∷ path.now ∷ value_words value
edit_words file (Del path value) = codes "del" ∷ file ∷ path.now ∷ value_words value
edit_words file (Clear path) = codes "clear" ∷ file ∷ path.now ∷ []
edit_words file ClearAll = codes "clear" ∷ file ∷ [] ∷ codes "--all" ∷ []
edit_words file (Inc key by) = codes "inc" ∷ file ∷ key.now ∷ by.now ∷ []
edit_words file (Dec key by) = codes "dec" ∷ file ∷ key.now ∷ by.now ∷ []

-- a task in words: the command's name, and its words in their order
abbrev pub task_words : Task → List Text
task_words Join = codes "join" ∷ []
task_words Sim = codes "sim" ∷ []
task_words Files = codes "files" ∷ []
task_words Faults = codes "faults" ∷ []
task_words (Init words) =
    codes "init" ∷ words.file.now ∷ words.group.now ∷ words.own.now ∷ map (λ n. n.now) words.names.items
task_words (InitFrom words) = codes "init" ∷ words.file.now ∷ words.own.now ∷ (codes "--from=" ++ words.from.now) ∷ []
task_words (Grow words) = codes "grow" ∷ words.file.now ∷ map (λ n. n.now) words.names.items
task_words (Edit file edit) = edit_words file.now edit
task_words (EditIfChanged file edit) = changed_words true (edit_words file.now edit)
task_words (EditLines file) = codes "edit" ∷ file.now ∷ []
task_words (Get file path) = codes "get" ∷ file.now ∷ path.now ∷ []
task_words (GetRaw file path which) = codes "get" ∷ file.now ∷ path.now ∷ raw_word which ∷ []
task_words (Show file path) = codes "show" ∷ file.now ∷ path.now ∷ []
task_words (ShowPretty file path) = codes "show" ∷ file.now ∷ path.now ∷ codes "--pretty" ∷ []
task_words (Dump file path) = codes "dump" ∷ file.now ∷ path.now ∷ []
task_words (Compact file) = codes "compact" ∷ file.now ∷ []
task_words (Status file) = codes "status" ∷ file.now ∷ []
task_words (Serve words) = codes "serve" ∷ words.file.now ∷ words.addr.now ∷ words.sessions.now ∷ words.timeout.now ∷ []
task_words (Run words) =
    codes "run" ∷ words.file.now ∷ words.http.now ∷ words.every.now
    ∷ (peer_words (map (λ p. p.now) words.peers.items)
    ++ (access_words (option_map (λ t. t.now) words.token_file) words.is_open ++ log_words words.log))
task_words (Sync words) =
    codes "sync" ∷ words.file.now ∷ words.addr.now ∷ words.timeout.now
    ∷ token_words (option_map (λ t. t.now) words.token_file)
task_words (Pair first second) = codes "pair" ∷ first.now ∷ second.now ∷ []
task_words (Ask file) = codes "ask" ∷ file.now ∷ []
task_words (Answer file) = codes "answer" ∷ file.now ∷ []
task_words (Take file question answer) = codes "take" ∷ file.now ∷ question.now ∷ answer.now ∷ []
task_words (Merge file from) = codes "merge" ∷ file.now ∷ from.now ∷ []
task_words (Check question answer) = codes "check" ∷ question.now ∷ answer.now ∷ []
task_words (Conflicts file path) = codes "conflicts" ∷ file.now ∷ path.now ∷ []
task_words (Diff file other) = codes "diff" ∷ file.now ∷ other.now ∷ []
task_words (Watch words) =
    codes "watch" ∷ words.node.now ∷ words.path.now ∷ token_words (option_map (λ t. t.now) words.token_file)

-- the words under these ids, where each has one
abbrev pub words_under : List Text → List Row → Option (List Text)
words_under [] rows = Some []
words_under (id ∷ ids) rows =
    option_and_then (λ word. option_map (λ words. word ∷ words) (words_under ids rows)) (first_of id rows)

-- a file and a path, which is the root where none is given
abbrev pub file_and_path : List Row → Option (List Text)
file_and_path rows =
    option_map (λ file. file ∷ unwrap_or (first_of (codes "PATH") rows) [] ∷ []) (first_of (codes "FILE") rows)

-- whether an option without a value was given
abbrev pub is_given : Text → List Row → Bool
is_given id rows = option_map_or (λ word. bytes_eq word (codes "true")) (first_of id rows) false

-- a file and a path, and whether they are shown with indents
abbrev pub show_words_in : List Row → Option (List Text)
show_words_in rows =
    option_map (λ words. words ++ (if is_given (codes "PRETTY") rows then codes "--pretty" ∷ [] else []))
    (file_and_path rows)

-- an option without a value, where it was given
abbrev pub flag_in : Text → Text → List Row → List Text
flag_in id word rows = if is_given id rows then word ∷ [] else []

-- a file, a path and a value, and whether it is the text itself
abbrev pub entry_words_in : List Row → Option (List Text)
entry_words_in rows =
    option_map (λ words. words ++ flag_in (codes "TEXT") (codes "--text") rows)
    (words_under (codes "FILE" ∷ codes "PATH" ∷ codes "VALUE" ∷ []) rows)

-- the same, and whether only what changes something is written
abbrev pub changed_words_in : List Row → Option (List Text)
changed_words_in rows = option_map (changed_words (is_given (codes "IF_CHANGED") rows)) (entry_words_in rows)

-- a file, and a path or the whole document
abbrev pub clear_words_in : List Row → Option (List Text)
clear_words_in rows =
    option_and_then (λ file. clear_words file (first_of (codes "PATH") rows) (is_given (codes "ALL") rows))
    (first_of (codes "FILE") rows)

-- which values are printed, where they stand alone
abbrev pub raw_words_in : List Row → Option (List Text)
raw_words_in rows =
    raw_words (is_given (codes "RAW") rows) (is_given (codes "REG") rows) (is_given (codes "SET") rows)
    (is_given (codes "COUNTER") rows)

abbrev pub get_words_in : List Row → Option (List Text)
get_words_in rows =
    option_and_then (λ words. option_map (λ kind. words ++ kind) (raw_words_in rows))
    (words_under (codes "FILE" ∷ codes "PATH" ∷ []) rows)

-- a file, an address and a number of seconds, the peers, who may come, and whether requests are told
abbrev pub run_words_in : List Row → Option (List Text)
run_words_in rows =
    option_map (λ words. words ++ (peer_words (unwrap_or (all_of (codes "PEERS") rows) [])
    ++ (access_words (first_of (codes "TOKEN_FILE") rows) (is_given (codes "OPEN") rows)
    ++ log_words (is_given (codes "LOG") rows))))
    (words_under (codes "FILE" ∷ codes "HTTP" ∷ codes "EVERY" ∷ []) rows)

-- a file, an address and a number of seconds, and the token
abbrev pub sync_words_in : List Row → Option (List Text)
sync_words_in rows =
    option_map (λ words. words ++ token_words (first_of (codes "TOKEN_FILE") rows))
    (words_under (codes "FILE" ∷ codes "ADDR" ∷ codes "TIMEOUT" ∷ []) rows)

-- a node and a path, which is the root where none is given, and the token
abbrev pub watch_words_in : List Row → Option (List Text)
watch_words_in rows =
    option_map (λ node. node ∷ unwrap_or (first_of (codes "PATH") rows) []
    ∷ token_words (first_of (codes "TOKEN_FILE") rows))
    (first_of (codes "NODE") rows)

abbrev pub counter_words_in : List Row → Option (List Text)
counter_words_in = words_under (codes "FILE" ∷ codes "KEY" ∷ codes "BY" ∷ [])

-- the words under these ids, and behind them the names
abbrev pub words_and_names : List Text → List Row → Option (List Text)
words_and_names ids rows =
    option_and_then (λ words. option_map (λ names. words ++ names) (all_of (codes "NAMES") rows)) (words_under ids rows)

-- a file, a group, an own name and names; or, where it is said from which file, a file and an own name
abbrev pub init_words_by : Text → Text → Option Text → Option (List Text) → Option Text → Option (List Text)
init_words_by file group (Some own) (Some names) None = init_words (file ∷ group ∷ own ∷ names) None
init_words_by file group (Some own) None None = None
init_words_by file group None names None = None
init_words_by file own None None (Some from) = init_words (file ∷ own ∷ []) (Some from)
init_words_by file own None (Some names) (Some from) = None
init_words_by file own (Some more) names (Some from) = None

abbrev pub init_words_in : List Row → Option (List Text)
init_words_in rows =
    option_and_then (λ file. option_and_then (λ group.
    init_words_by file group (first_of (codes "OWN") rows) (all_of (codes "NAMES") rows) (first_of (codes "FROM") rows))
    (first_of (codes "GROUP") rows)) (first_of (codes "FILE") rows)

abbrev pub grow_words_in : List Row → Option (List Text)
grow_words_in = words_and_names (codes "FILE" ∷ [])

-- the words behind the name of a command that edits a file's replica
abbrev pub edit_words_behind : Text → List Row → Option (List Text)
edit_words_behind name rows =
    if bytes_eq name (codes "set") then changed_words_in rows
    else (if bytes_eq name (codes "add") then changed_words_in rows
    else (if bytes_eq name (codes "del") then entry_words_in rows
    else (if bytes_eq name (codes "clear") then clear_words_in rows
    else (if bytes_eq name (codes "inc") then counter_words_in rows
    else (if bytes_eq name (codes "dec") then counter_words_in rows
    else None)))))

-- the words behind the name of a command that carries a delta, or that edits a file's replica
abbrev pub delta_words_behind : Text → List Row → Option (List Text)
delta_words_behind name rows =
    if bytes_eq name (codes "ask") then words_under (codes "FILE" ∷ []) rows
    else (if bytes_eq name (codes "answer") then words_under (codes "FILE" ∷ []) rows
    else (if bytes_eq name (codes "take")
    then words_under (codes "FILE" ∷ codes "QUESTION" ∷ codes "ANSWER" ∷ []) rows
    else (if bytes_eq name (codes "merge") then words_under (codes "FILE" ∷ codes "FROM" ∷ []) rows
    else (if bytes_eq name (codes "check") then words_under (codes "QUESTION" ∷ codes "ANSWER" ∷ []) rows
    else edit_words_behind name rows))))

-- the words behind the name of a command that makes sessions, follows a node, carries a delta, or edits a file's
-- replica
abbrev pub session_words_behind : Text → List Row → Option (List Text)
session_words_behind name rows =
    if bytes_eq name (codes "serve")
    then words_under (codes "FILE" ∷ codes "ADDR" ∷ codes "SESSIONS" ∷ codes "TIMEOUT" ∷ []) rows
    else (if bytes_eq name (codes "sync") then sync_words_in rows
    else (if bytes_eq name (codes "watch") then watch_words_in rows
    else (if bytes_eq name (codes "pair") then words_under (codes "FILE" ∷ codes "PEER" ∷ []) rows
    else delta_words_behind name rows)))

-- the words behind the name of a command that looks at documents, makes sessions, carries a delta or edits
abbrev pub looking_words_behind : Text → List Row → Option (List Text)
looking_words_behind name rows =
    if bytes_eq name (codes "dump") then file_and_path rows
    else (if bytes_eq name (codes "conflicts") then file_and_path rows
    else (if bytes_eq name (codes "diff") then words_under (codes "FILE" ∷ codes "OTHER" ∷ []) rows
    else session_words_behind name rows))

-- the words behind the name of any command on files but `init`, `grow`, `run` and `show`
abbrev pub file_words_behind : Text → List Row → Option (List Text)
file_words_behind name rows =
    if bytes_eq name (codes "edit") then words_under (codes "FILE" ∷ []) rows
    else (if bytes_eq name (codes "get") then get_words_in rows
    else (if bytes_eq name (codes "status") then words_under (codes "FILE" ∷ []) rows
    else (if bytes_eq name (codes "compact") then words_under (codes "FILE" ∷ []) rows
    else looking_words_behind name rows)))

-- the words behind the name of a command but `init`, `grow` and `run`
abbrev pub plain_words_behind : Text → List Row → Option (List Text)
plain_words_behind name rows =
    if bytes_eq name (codes "join") then Some []
    else (if bytes_eq name (codes "sim") then Some []
    else (if bytes_eq name (codes "files") then Some []
    else (if bytes_eq name (codes "faults") then Some []
    else (if bytes_eq name (codes "show") then show_words_in rows
    else file_words_behind name rows))))

abbrev pub words_behind : Text → List Row → Option (List Text)
words_behind name rows =
    if bytes_eq name (codes "init") then init_words_in rows
    else (if bytes_eq name (codes "grow") then grow_words_in rows
    else (if bytes_eq name (codes "run") then run_words_in rows
    else plain_words_behind name rows))

-- a command's name, and the words behind it
abbrev pub named_words : Text → Option (List Text) → Option (List Text)
named_words name = option_map (λ words. name ∷ words)

-- the task in words, by the subcommand that was entered
abbrev pub words_in : Option (Text × List Row) → Option (List Text)
words_in None = None
words_in (Some (name, rows)) = named_words name (words_behind name rows)

-- the task is to edit this file by lines
abbrev pub EditsByLines : Text → Option Task → Type 0
EditsByLines file task = (at : Bor Text) × (at.now ≡ file) × (task ≡ Some (EditLines at))
