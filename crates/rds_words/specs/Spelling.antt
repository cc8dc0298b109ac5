-- How words are spelled that name a task.
use Rattle.std.specs.Prelude.{
  ◌≡◌,
  ◌≢◌,
  ◌↔◌,
  ◌⊎◌,
  ◌+◌,
  ◌≤◌,
  ℕ,
  true,
  List,
  [],
  ◌∷◌,
  ◌++◌,
  codes,
  find,
  length,
  map,
  Option,
  Some,
  option_map,
}
use Rattle.std.specs.List.{list_any}
use Rattle.std.specs.Str.{bytes_eq}
use Rattle.clap.specs.Words.{Text}
use Rattle.rds_words.specs.Commands.{commands}
use Rattle.rds_words.specs.Entered.{Names, mistakes_in}
use Rattle.rds_words.specs.Written.{AreData}

-- the words, of which none can be taken for an option; or such words, two dashes, and any words
abbrev pub AreSpelled : List Text → List Text → Type 0
AreSpelled words behind =
    ((behind ≡ words) × AreData words)
    ⊎ ((before : List Text) × (after : List Text) × (behind ≡ before ++ codes "--" ∷ after) × AreData before
    × (words ≡ before ++ after))

-- how many words stand behind a command: so many; so many, or one less where a path is left out, which is the root;
-- so many or more; so many, behind which a task has what options have that are left out
pub data Count : Type 0 where
  exactly : ℕ → Count
  or_root : ℕ → Count
  at_least : ℕ → Count
  before : ℕ → List Text → Count

-- these words were given, and a task has these behind its command
abbrev pub IsGivenWords : Count → List Text → List Text → Type 0
IsGivenWords (exactly n) given words = (length given ≡ n) × (words ≡ given)
IsGivenWords (or_root n) given words =
    ((length given ≡ n) × (words ≡ given)) ⊎ ((length given + 1 ≡ n) × (words ≡ given ++ [] ∷ []))
IsGivenWords (at_least n) given words = (n ≤ length given) × (words ≡ given)
IsGivenWords (before n left_out) given words = (length given ≡ n) × (words ≡ given ++ left_out)

-- the commands that have no option, each with how many words
abbrev pub counts : List (Text × Count)
counts =
    (codes "grow", at_least 2)
    ∷ (codes "inc", exactly 3)
    ∷ (codes "dec", exactly 3)
    ∷ (codes "edit", exactly 1)
    ∷ (codes "dump", or_root 2)
    ∷ (codes "compact", exactly 1)
    ∷ (codes "pair", exactly 2)
    ∷ (codes "ask", exactly 1)
    ∷ (codes "answer", exactly 1)
    ∷ (codes "take", exactly 3)
    ∷ (codes "merge", exactly 2)
    ∷ (codes "status", exactly 1)
    ∷ (codes "check", exactly 2)
    ∷ (codes "conflicts", or_root 2)
    ∷ (codes "diff", exactly 2)
    ∷ (codes "join", exactly 0)
    ∷ (codes "sim", exactly 0)
    ∷ (codes "files", exactly 0)
    ∷ (codes "faults", exactly 0)
    ∷ []

-- the commands that have options but `init` and `clear`, each with how many words where no option is given
abbrev pub option_counts : List (Text × Count)
option_counts =
    (codes "set", exactly 3)
    ∷ (codes "add", exactly 3)
    ∷ (codes "del", exactly 3)
    ∷ (codes "get", exactly 2)
    ∷ (codes "show", or_root 2)
    ∷ (codes "sync", before 2 (codes "60" ∷ []))
    ∷ (codes "serve", before 2 (codes "1" ∷ codes "60" ∷ []))
    ∷ (codes "run", before 1 (codes "127.0.0.1:7780" ∷ codes "10" ∷ []))
    ∷ (codes "watch", or_root 2)
    ∷ []

-- how many words a command of these takes
abbrev pub count_in : List (Text × Count) → Text → Option Count
count_in cs command = option_map (λ c. c.1) (find (λ c. bytes_eq c.0 command) cs)

-- the names of all commands
abbrev pub command_names : List Text
command_names = map (λ a. a.top.name) commands

-- there is a command behind the name that the program was called by
abbrev pub HasCommand : List Text → Type 0
HasCommand entered =
    (called : Text) × (command : Text) × (behind : List Text) × (entered ≡ called ∷ command ∷ behind)
    × (list_any (λ name. bytes_eq name command) command_names ≡ true)

-- what stands behind a command that takes so many words names the task of these
abbrev pub AreWordsOf : Count → List Text → List Text → Type 0
AreWordsOf count behind words = (given : List Text) × AreSpelled given behind × IsGivenWords count given words

abbrev pub WordsMeanTheirSpelling : Type 0
WordsMeanTheirSpelling =
    (called command : Text) (count : Count) → count_in counts command ≡ Some count → (behind words : List Text)
    → Names (called ∷ command ∷ behind) (command ∷ words) ↔ AreWordsOf count behind words

abbrev pub OtherWordsAreRefused : Type 0
OtherWordsAreRefused =
    (called command : Text) (count : Count) → count_in counts command ≡ Some count → (behind : List Text)
    → ((words : List Text) → AreWordsOf count behind words → ⊥) → mistakes_in (called ∷ command ∷ behind) ≢ []

-- the same of a command that has options, where none is given
abbrev pub WordsWithoutOptions : Type 0
WordsWithoutOptions =
    (called command : Text) (count : Count) → count_in option_counts command ≡ Some count
    → (given behind : List Text) → AreSpelled given behind → (words : List Text)
    → Names (called ∷ command ∷ behind) (command ∷ words) ↔ IsGivenWords count given words

abbrev pub OtherWordsWithoutOptions : Type 0
OtherWordsWithoutOptions =
    (called command : Text) (count : Count) → count_in option_counts command ≡ Some count
    → (given behind : List Text) → AreSpelled given behind
    → ((words : List Text) → IsGivenWords count given words → ⊥) → mistakes_in (called ∷ command ∷ behind) ≢ []

abbrev pub OtherCommandsAreRefused : Type 0
OtherCommandsAreRefused = (entered : List Text) → (HasCommand entered → ⊥) → mistakes_in entered ≢ []
