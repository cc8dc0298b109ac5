-- The commands that have options: which words they take, and which task these name.
use Rattle.std.specs.Prelude.{
  ◌≡◌,
  ◌==◌,
  ◌||◌,
  ℕ,
  Bool,
  true,
  false,
  List,
  [],
  ◌∷◌,
  ◌++◌,
  Option,
  Some,
  codes,
  find,
  length,
  nat_le,
  option_and_then,
  option_map,
  if◌then◌else◌,
  slice_get,
}
use Rattle.std.specs.Str.{bytes_eq}
use Rattle.clap.specs.Words.{Text}
use Rattle.rds_words.specs.Entered.{mistakes_in, named_in}
use Rattle.rds_words.specs.Raw.{
  access_words,
  changed_words,
  clear_words,
  init_words,
  log_words,
  peer_words,
  raw_words,
  token_words,
}
use Rattle.rds_words.specs.Typed.{IsTyped, Options, many_values, no_value, one_value}

-- a command's options, which numbers of words it takes, and the words of the task that its words and its options' values
-- name, where they name one
pub record WithOptions : Type 0 where
  pub options : Options
  pub takes : ℕ → Bool
  pub words_for : List Text → (Text → List Text) → Option (List Text)

abbrev pub is_there : List Text → Bool
is_there [] = false
is_there (value ∷ more) = true

-- the option, where it is given
abbrev pub flag_words : Text → (Text → List Text) → List Text
flag_words name values = if is_there (values name) then name ∷ [] else []

-- its value, or this one where it isn't given
abbrev pub value_or : Text → List Text → Text
value_or default [] = default
value_or default (value ∷ more) = value

-- a file or a node, and a path, which is the root where it is left out
abbrev pub part_words : List Text → List Text
part_words [] = []
part_words (file ∷ []) = file ∷ [] ∷ []
part_words (file ∷ path ∷ more) = file ∷ path ∷ more

abbrev pub show_with : WithOptions
show_with = record {
  options = (codes "--pretty", no_value) ∷ [];
  takes = λ n. n == 1 || n == 2;
  words_for = λ given values. Some (part_words given ++ flag_words (codes "--pretty") values);
}

abbrev pub serve_with : WithOptions
serve_with = record {
  options = (codes "--sessions", one_value) ∷ (codes "--timeout", one_value) ∷ [];
  takes = λ n. n == 2;
  words_for = λ given values.
      Some (given ++ value_or (codes "1") (values (codes "--sessions"))
      ∷ value_or (codes "60") (values (codes "--timeout")) ∷ []);
}

abbrev pub sync_with : WithOptions
sync_with = record {
  options = (codes "--timeout", one_value) ∷ (codes "--token-file", one_value) ∷ [];
  takes = λ n. n == 2;
  words_for = λ given values.
      Some (given ++ value_or (codes "60") (values (codes "--timeout"))
      ∷ token_words (slice_get (values (codes "--token-file")) 0));
}

abbrev pub run_with : WithOptions
run_with = record {
  options =
      (codes "--http", one_value) ∷ (codes "--peer", many_values) ∷ (codes "--every", one_value)
      ∷ (codes "--token-file", one_value) ∷ (codes "--open", no_value) ∷ (codes "--log", no_value) ∷ [];
  takes = λ n. n == 1;
  words_for = λ given values.
      Some (given ++ value_or (codes "127.0.0.1:7780") (values (codes "--http"))
      ∷ value_or (codes "10") (values (codes "--every"))
      ∷ (peer_words (values (codes "--peer"))
      ++ (access_words (slice_get (values (codes "--token-file")) 0) (is_there (values (codes "--open")))
      ++ log_words (is_there (values (codes "--log"))))));
}

abbrev pub watch_with : WithOptions
watch_with = record {
  options = (codes "--token-file", one_value) ∷ [];
  takes = λ n. n == 1 || n == 2;
  words_for = λ given values.
      Some (part_words given ++ token_words (slice_get (values (codes "--token-file")) 0));
}

-- `set` and `add`
abbrev pub put_with : WithOptions
put_with = record {
  options = (codes "--text", no_value) ∷ (codes "--if-changed", no_value) ∷ [];
  takes = λ n. n == 3;
  words_for = λ given values.
      Some (changed_words (is_there (values (codes "--if-changed"))) (given ++ flag_words (codes "--text") values));
}

abbrev pub del_with : WithOptions
del_with = record {
  options = (codes "--text", no_value) ∷ [];
  takes = λ n. n == 3;
  words_for = λ given values. Some (given ++ flag_words (codes "--text") values);
}

abbrev pub clear_with : WithOptions
clear_with = record {
  options = (codes "--all", no_value) ∷ [];
  takes = λ n. n == 1 || n == 2;
  words_for = λ given values.
      option_and_then (λ file. clear_words file (slice_get given 1) (is_there (values (codes "--all"))))
      (slice_get given 0);
}

abbrev pub get_with : WithOptions
get_with = record {
  options =
      (codes "--raw", no_value) ∷ (codes "--reg", no_value) ∷ (codes "--set", no_value)
      ∷ (codes "--counter", no_value) ∷ [];
  takes = λ n. n == 2;
  words_for = λ given values.
      option_map (λ kind. given ++ kind)
      (raw_words (is_there (values (codes "--raw"))) (is_there (values (codes "--reg")))
      (is_there (values (codes "--set"))) (is_there (values (codes "--counter"))));
}

abbrev pub init_with : WithOptions
init_with = record {
  options = (codes "--from", one_value) ∷ [];
  takes = nat_le 2;
  words_for = λ given values. init_words given (slice_get (values (codes "--from")) 0);
}

-- the commands that have options
abbrev pub with_options : List (Text × WithOptions)
with_options =
    (codes "init", init_with)
    ∷ (codes "set", put_with)
    ∷ (codes "add", put_with)
    ∷ (codes "del", del_with)
    ∷ (codes "clear", clear_with)
    ∷ (codes "get", get_with)
    ∷ (codes "show", show_with)
    ∷ (codes "sync", sync_with)
    ∷ (codes "serve", serve_with)
    ∷ (codes "run", run_with)
    ∷ (codes "watch", watch_with)
    ∷ []

-- the words and the options' values are typed so behind the command, and it takes so many words
abbrev pub AreTaken : WithOptions → List Text → List Text → (Text → List Text) → Type 0
AreTaken c behind given values = IsTyped c.options behind given values × (c.takes (length given) ≡ true)

-- what is typed behind such a command is no mistake just where the command takes it, and then names just this task, or
-- none
abbrev pub MeansWithOptions : Text → WithOptions → Type 0
MeansWithOptions command c =
    (called : Text) (behind : List Text)
    → (mistakes_in (called ∷ command ∷ behind) ≡ []
    → (given : List Text) × (values : Text → List Text) × AreTaken c behind given values)
    × ((given : List Text) (values : Text → List Text) → AreTaken c behind given values
    → (mistakes_in (called ∷ command ∷ behind) ≡ [])
    × (named_in (called ∷ command ∷ behind) ≡ option_map (λ words. command ∷ words) (c.words_for given values)))

abbrev pub OptionsMeanTheirSpelling : Type 0
OptionsMeanTheirSpelling =
    (command : Text) (c : WithOptions)
    → option_map (λ found. found.1) (find (λ found. bytes_eq found.0 command) with_options) ≡ Some c
    → MeansWithOptions command c
