-- What is typed behind a command that has options, part by part.
use Rattle.std.specs.Prelude.{◌≡◌, ◌⊎◌, ⊤, Bool, true, false, List, [], ◌∷◌, ◌++◌, codes, if◌then◌else◌}
use Rattle.std.specs.List.{list_any}
use Rattle.std.specs.Str.{bytes_eq}
use Rattle.clap.specs.Words.{Text}
use Rattle.rds_words.specs.Written.{is_data}

-- how an option is given: at most once without a value, at most once with one, or any number of times with one each
pub data Form : Type 0 where
  no_value : Form
  one_value : Form
  many_values : Form

-- the options of a command, each by its name
abbrev pub Options : Type 0
Options = List (Text × Form)

-- a word, an option with its value, or an option that has none
pub data Part : Type 0 where
  typed_word : Text → Part
  typed_option : Text → Text → Part
  typed_flag : Text → Part

-- an option with this value stands before these words: the value behind it as a word that can't be taken for an option,
-- or in one word with it, behind `=`
abbrev pub IsOptionWith : Text → Text → List Text → List Text → Type 0
IsOptionWith option value words behind =
    ((words ≡ option ∷ value ∷ behind) × (is_data value ≡ true)) ⊎ (words ≡ (option ++ codes "=" ++ value) ∷ behind)

-- the parts are typed so, before this rest; none of their words can be taken for an option
abbrev pub AreTyped : List Part → List Text → List Text → Type 0
AreTyped [] rest typed = typed ≡ rest
AreTyped (typed_word word ∷ parts) rest typed =
    (behind : List Text) × (typed ≡ word ∷ behind) × (is_data word ≡ true) × AreTyped parts rest behind
AreTyped (typed_option option value ∷ parts) rest typed =
    (behind : List Text) × IsOptionWith option value typed behind × AreTyped parts rest behind
AreTyped (typed_flag option ∷ parts) rest typed =
    (behind : List Text) × (typed ≡ option ∷ behind) × AreTyped parts rest behind

-- nothing is left, or two dashes and any words
abbrev pub IsRest : List Text → List Text → Type 0
IsRest after rest = ((after ≡ []) × (rest ≡ [])) ⊎ (rest ≡ codes "--" ∷ after)

-- the words among the parts
abbrev pub words_among : List Part → List Text
words_among [] = []
words_among (typed_word word ∷ parts) = word ∷ words_among parts
words_among (typed_option option value ∷ parts) = words_among parts
words_among (typed_flag option ∷ parts) = words_among parts

-- the values that an option has among them, where it has none `true` each time
abbrev pub values_among : Text → List Part → List Text
values_among name [] = []
values_among name (typed_word word ∷ parts) = values_among name parts
values_among name (typed_option option value ∷ parts) =
    (if bytes_eq option name then value ∷ [] else []) ++ values_among name parts
values_among name (typed_flag option ∷ parts) =
    (if bytes_eq option name then codes "true" ∷ [] else []) ++ values_among name parts

abbrev pub has_value : Text → Text × Form → Bool
has_value option (name, no_value) = false
has_value option (name, one_value) = bytes_eq option name
has_value option (name, many_values) = bytes_eq option name

abbrev pub is_bare : Text → Text × Form → Bool
is_bare option (name, no_value) = bytes_eq option name
is_bare option (name, one_value) = false
is_bare option (name, many_values) = false

-- each option among them is one of these
abbrev pub HaveOptionsOf : Options → List Part → Type 0
HaveOptionsOf options [] = ⊤
HaveOptionsOf options (typed_word word ∷ parts) = HaveOptionsOf options parts
HaveOptionsOf options (typed_option option value ∷ parts) =
    (list_any (has_value option) options ≡ true) × HaveOptionsOf options parts
HaveOptionsOf options (typed_flag option ∷ parts) =
    (list_any (is_bare option) options ≡ true) × HaveOptionsOf options parts

abbrev pub AtMostOne : List Text → Type 0
AtMostOne [] = ⊤
AtMostOne (value ∷ []) = ⊤
AtMostOne (value ∷ again ∷ more) = ⊥

-- an option of this form may have these values
abbrev pub IsAllowed : Form → List Text → Type 0
IsAllowed no_value values = AtMostOne values
IsAllowed one_value values = AtMostOne values
IsAllowed many_values values = ⊤

-- each of these options may have its values
abbrev pub AreAllowed : Options → (Text → List Text) → Type 0
AreAllowed [] values = ⊤
AreAllowed (option ∷ options) values = IsAllowed option.1 (values option.0) × AreAllowed options values

-- behind a command with these options: the words that are given, and among them, before any two dashes, the options in
-- any order, each at most once but where it may have many values, with these values by their names
pub record IsTyped (options : Options) (behind given : List Text) (values : Text → List Text) : Type 0 where
  pub parts : List Part
  pub after : List Text
  pub rest : List Text
  pub are_typed : AreTyped parts rest behind
  pub is_rest : IsRest after rest
  pub have_options : HaveOptionsOf options parts
  pub allowed : AreAllowed options (λ name. values_among name parts)
  pub given_are : given ≡ words_among parts ++ after
  pub values_are : (name : Text) → values name ≡ values_among name parts
