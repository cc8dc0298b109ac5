-- How a task is written on the command line.
use Rattle.std.specs.Prelude.{
  ◌≡◌,
  ⊤,
  Bool,
  true,
  not,
  ◌==◌,
  ◌&&◌,
  List,
  [],
  ◌∷◌,
  ◌++◌,
  codes,
  drop,
  is_some,
  map,
  option_map,
  slice_get,
}
use Rattle.std.specs.List.{list_all}
use Rattle.std.specs.Str.{chars}
use Rattle.clap.specs.Words.{Text}
use Rattle.rds_words.specs.declared.tasks.Task.{Task}
use Rattle.rds_words.specs.declared.tasks.Task.TheVariants.{
  Edit,
  EditIfChanged,
  GetRaw,
  Grow,
  Init,
  InitFrom,
  Run,
  Serve,
  ShowPretty,
  Sync,
  Watch,
}
use Rattle.rds_words.specs.declared.tasks.EditWords.{EditWords}
use Rattle.rds_words.specs.declared.tasks.EditWords.TheVariants.{Set, Add, Del, Clear, ClearAll, Inc, Dec}
use Rattle.rds_words.specs.declared.tasks.ValueWord.{ValueWord}
use Rattle.rds_words.specs.declared.tasks.ValueWord.TheVariants as word
use Rattle.rds_words.specs.Raw.{access_words, log_words, peer_words, token_words}
use Rattle.rds_words.specs.Task.{raw_word, task_words}

-- the word can't be taken for an option: it doesn't begin with a hyphen and a character behind it
abbrev pub is_data : Text → Bool
is_data [] = true
is_data (b ∷ bs) = not (b == 45 && is_some (slice_get (chars bs) 0))

abbrev pub AreData : List Text → Type 0
AreData words = list_all is_data words ≡ true

-- a value, and what is said of it before it
abbrev pub value_text : ValueWord → Text
value_text (word.Json value) = value.now
value_text (word.Text value) = value.now

abbrev pub value_flags : ValueWord → List Text
value_flags (word.Json value) = []
value_flags (word.Text value) = codes "--text" ∷ []

-- the words behind a command that edits, but for options
abbrev pub edit_given : Text → EditWords → List Text
edit_given file (Set path value) = file ∷ path.now ∷ value_text value ∷ []
edit_given file (Add path value) = file ∷ path.now ∷ value_text value ∷ []
edit_given file (Del path value) = file ∷ path.now ∷ value_text value ∷ []
edit_given file (Clear path) = file ∷ path.now ∷ []
edit_given file ClearAll = file ∷ []
edit_given file (Inc key by) = file ∷ key.now ∷ by.now ∷ []
edit_given file (Dec key by) = file ∷ key.now ∷ by.now ∷ []

-- the command, and its options behind these
abbrev pub edit_front : List Text → EditWords → List Text
edit_front flags (Set path value) = codes "set" ∷ (flags ++ value_flags value)
edit_front flags (Add path value) = codes "add" ∷ (flags ++ value_flags value)
edit_front flags (Del path value) = codes "del" ∷ (flags ++ value_flags value)
edit_front flags (Clear path) = codes "clear" ∷ flags
edit_front flags ClearAll = codes "clear" ∷ (flags ++ codes "--all" ∷ [])
edit_front flags (Inc key by) = codes "inc" ∷ flags
edit_front flags (Dec key by) = codes "dec" ∷ flags

-- the command, then its words; `serve`, `sync` and `run` have some of theirs behind options, and other options stand
-- before the words
abbrev pub words_written : Task → List Text
words_written (InitFrom words) =
    codes "init" ∷ codes "--from" ∷ words.from.now ∷ words.file.now ∷ words.own.now ∷ []
words_written (Edit file edit) = edit_front [] edit ++ edit_given file.now edit
words_written (EditIfChanged file edit) = edit_front (codes "--if-changed" ∷ []) edit ++ edit_given file.now edit
words_written (GetRaw file path which) = codes "get" ∷ raw_word which ∷ file.now ∷ path.now ∷ []
words_written (ShowPretty file path) = codes "show" ∷ codes "--pretty" ∷ file.now ∷ path.now ∷ []
words_written (Serve words) =
    codes "serve" ∷ words.file.now ∷ words.addr.now
    ∷ codes "--sessions" ∷ words.sessions.now ∷ codes "--timeout" ∷ words.timeout.now ∷ []
words_written (Sync words) =
    codes "sync" ∷ words.file.now ∷ words.addr.now ∷ codes "--timeout" ∷ words.timeout.now
    ∷ token_words (option_map (λ t. t.now) words.token_file)
words_written (Run words) =
    codes "run" ∷ words.file.now ∷ codes "--http" ∷ words.http.now ∷ codes "--every" ∷ words.every.now
    ∷ (peer_words (map (λ p. p.now) words.peers.items)
    ++ (access_words (option_map (λ t. t.now) words.token_file) words.is_open ++ log_words words.log))
words_written task = task_words task

-- two dashes stand between the command, with its options, and its words
abbrev pub dashes_in : List Text → List Text
dashes_in [] = []
dashes_in (command ∷ words) = command ∷ codes "--" ∷ words

abbrev pub words_dashed : Task → List Text
words_dashed (InitFrom words) =
    codes "init" ∷ (codes "--from=" ++ words.from.now) ∷ codes "--" ∷ words.file.now ∷ words.own.now ∷ []
words_dashed (Edit file edit) = edit_front [] edit ++ codes "--" ∷ edit_given file.now edit
words_dashed (EditIfChanged file edit) =
    edit_front (codes "--if-changed" ∷ []) edit ++ codes "--" ∷ edit_given file.now edit
words_dashed (GetRaw file path which) = codes "get" ∷ raw_word which ∷ codes "--" ∷ file.now ∷ path.now ∷ []
words_dashed (ShowPretty file path) = codes "show" ∷ codes "--pretty" ∷ codes "--" ∷ file.now ∷ path.now ∷ []
words_dashed (Serve words) =
    codes "serve" ∷ (codes "--sessions=" ++ words.sessions.now) ∷ (codes "--timeout=" ++ words.timeout.now)
    ∷ codes "--" ∷ words.file.now ∷ words.addr.now ∷ []
words_dashed (Sync words) =
    codes "sync" ∷ (codes "--timeout=" ++ words.timeout.now)
    ∷ (token_words (option_map (λ t. t.now) words.token_file) ++ codes "--" ∷ words.file.now ∷ words.addr.now ∷ [])
words_dashed (Run words) =
    codes "run" ∷ (codes "--http=" ++ words.http.now) ∷ (codes "--every=" ++ words.every.now)
    ∷ (peer_words (map (λ p. p.now) words.peers.items)
    ++ (access_words (option_map (λ t. t.now) words.token_file) words.is_open
    ++ (log_words words.log ++ codes "--" ∷ words.file.now ∷ [])))
words_dashed (Watch words) =
    codes "watch" ∷ (token_words (option_map (λ t. t.now) words.token_file)
    ++ codes "--" ∷ words.node.now ∷ words.path.now ∷ [])
words_dashed task = dashes_in (task_words task)

-- `set` and `add` alone can be told to write only what changes something
abbrev pub MayBeUnchanged : EditWords → Type 0
MayBeUnchanged (Set path value) = ⊤
MayBeUnchanged (Add path value) = ⊤
MayBeUnchanged edit = ⊥

-- `init` and `grow` have a name
abbrev pub HasNames : Task → Type 0
HasNames (Init words) = words.names.items ≡ [] → ⊥
HasNames (Grow words) = words.names.items ≡ [] → ⊥
HasNames (EditIfChanged file edit) = MayBeUnchanged edit
HasNames task = ⊤

-- the words that are given behind the command, but for options without a value or in one word with it
abbrev pub given_words : Task → List Text
given_words (InitFrom words) = words.from.now ∷ words.file.now ∷ words.own.now ∷ []
given_words (Edit file edit) = edit_given file.now edit
given_words (EditIfChanged file edit) = edit_given file.now edit
given_words (GetRaw file path which) = file.now ∷ path.now ∷ []
given_words (ShowPretty file path) = file.now ∷ path.now ∷ []
given_words (Sync words) = words.file.now ∷ words.addr.now ∷ words.timeout.now ∷ []
given_words (Run words) = words.file.now ∷ words.http.now ∷ words.every.now ∷ []
given_words (Watch words) = words.node.now ∷ words.path.now ∷ []
given_words task = drop 1 (task_words task)

-- the words behind the command are data
abbrev pub IsWritable : Task → Type 0
IsWritable task = HasNames task × AreData (given_words task)
