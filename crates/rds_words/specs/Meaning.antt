-- What the words of commands on files mean.
use Rattle.std.specs.Prelude.{
  ◌≡◌,
  ◌==◌,
  ◌&&◌,
  ℕ,
  List,
  [],
  ◌∷◌,
  Option,
  Some,
  None,
  Result,
  Ok,
  Err,
  IfErr,
  MatchResult,
  if◌then◌else◌,
  length,
  map,
  nat_le,
}
use Rattle.std.specs.Str.Parse.{ParsesUnsigned}
use Rattle.serde_json.specs.Data.{Data}
use Rattle.serde_json.specs.Read.{read}
use Rattle.rds_names.specs.declared.fault.Fault.{Fault}
use Rattle.rds_names.specs.declared.fault.Fault.TheVariants.{BadLine, BadPath, Usage}
use Rattle.rds_names.specs.declared.scalar.Scalar.{Scalar}
use Rattle.rds_names.specs.Key.{key_of}
use Rattle.rds_names.specs.Name.{name_of}
use Rattle.rds_names.specs.Path.{path_of}
use Rattle.rds_names.specs.Scalar.{scalar_of_text}
use Rattle.rds_names.specs.Roster.{RosterValue, number_named, roster_of}
use Rattle.rds_state.specs.declared.command.Command.{Command}
use Rattle.rds_state.specs.declared.command.Command.TheVariants as commands
use Rattle.rds_names.specs.AndThen.{◌>>=◌}
use Rattle.rds_json.specs.Scalar.{scalar_of}
use Rattle.rds_words.specs.declared.tasks.EditWords.{EditWords}
use Rattle.rds_words.specs.declared.tasks.EditWords.TheVariants.{Set, Add, Del, Clear, ClearAll, Inc, Dec}
use Rattle.rds_words.specs.declared.tasks.GrowWords.{GrowWords}
use Rattle.rds_words.specs.declared.tasks.InitWords.{InitWords}
use Rattle.rds_words.specs.declared.tasks.ValueWord.{ValueWord}
use Rattle.rds_words.specs.declared.tasks.ValueWord.TheVariants as word

abbrev pub value_from : Option Data → Result Scalar Fault
value_from None = Err BadLine
value_from (Some d) = scalar_of d

-- the value that a text of JSON is
abbrev pub value_read : List ℕ → Result Scalar Fault
value_read text = value_from (read text)

-- the value that a word is, as JSON or as the text itself
abbrev pub value_meant : ValueWord → Result Scalar Fault
value_meant (word.Json value) = value_read value.now
value_meant (word.Text value) = scalar_of_text value.now

-- a path in words, which isn't the root's: that is said by `--all`
abbrev pub part_of : List ℕ → Result (List (List ℕ)) Fault
part_of text = if length text == 0 then Err BadPath else path_of text

-- a whole number of 64 bits, before which a plus may stand
abbrev pub IsAmount : List ℕ → Result ℕ Fault → Type 0
IsAmount text amount = ParsesUnsigned 64 10 text amount × IfErr amount (λ e. e ≡ Usage)

-- a number of seconds from 1 to a day's
abbrev pub interval_in : ℕ → Result ℕ Fault
interval_in seconds = if nat_le 1 seconds && nat_le seconds 86400 then Ok seconds else Err Usage

abbrev pub IsInterval : List ℕ → Result ℕ Fault → Type 0
IsInterval text seconds = (amount : Result ℕ Fault) × IsAmount text amount × (seconds ≡ (amount >>= interval_in))

-- the command of a key and an amount
abbrev pub IsCount : (List ℕ → ℕ → Command) → List ℕ → List ℕ → Result Command Fault → Type 0
IsCount make key by r =
    MatchResult (key_of key)
    (λ k. (amount : Result ℕ Fault) × IsAmount by amount × (r ≡ (amount >>= λ n. Ok (make k n)))) (λ e. r ≡ Err e)

-- the command, or the fault of the first word that is none
abbrev pub IsCommand : EditWords → Result Command Fault → Type 0
IsCommand (Set path value) r = r ≡ (path_of path.now >>= λ p. value_meant value >>= λ v. Ok (commands.Set p v))
IsCommand (Add path value) r = r ≡ (path_of path.now >>= λ p. value_meant value >>= λ v. Ok (commands.Add p v))
IsCommand (Del path value) r = r ≡ (path_of path.now >>= λ p. value_meant value >>= λ v. Ok (commands.Del p v))
IsCommand (Clear path) r = r ≡ (part_of path.now >>= λ p. Ok (commands.Clear p))
IsCommand ClearAll r = r ≡ Ok (commands.Clear [])
IsCommand (Inc key by) r = IsCount commands.Inc key.now by.now r
IsCommand (Dec key by) r = IsCount commands.Dec key.now by.now r

-- the names, or the fault of the first text that is none
abbrev pub names_in : List (List ℕ) → Result (List (List ℕ)) Fault
names_in [] = Ok []
names_in (text ∷ texts) = name_of text >>= λ name. names_in texts >>= λ names. Ok (name ∷ names)

-- the new names in the words of `grow`
abbrev pub names_for : GrowWords → Result (List (List ℕ)) Fault
names_for words = names_in (map (λ n. n.now) words.names.items)

-- a roster and an own number, or the fault of the first word that is none
abbrev pub roster_in : List ℕ → List ℕ → List (List ℕ) → Result (RosterValue × ℕ) Fault
roster_in group own names =
    key_of group >>= λ g. name_of own >>= λ o. names_in names >>= λ ns. roster_of g ns >>= λ r.
    number_named r o >>= λ number. Ok (r, number)

-- the same, of the words of `init`
abbrev pub roster_for : InitWords → Result (RosterValue × ℕ) Fault
roster_for words = roster_in words.group.now words.own.now (map (λ n. n.now) words.names.items)
