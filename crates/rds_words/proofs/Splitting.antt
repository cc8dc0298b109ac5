-- The words behind a command: spelled, or with an option among them.
use Rattle.std.proofs.Common.{◌≡◌, ◌∙◌, ◌⊎◌, Bool, List, [], ◌∷◌, ◌++◌, codes, true, false, Some, refl, ap, ap₂, sym, subst, inl, inr}
use Rattle.std.specs.Prelude.{find}
use Rattle.std.specs.Str.{bytes_eq}
use Rattle.std.proofs.lemmas.Slice.Eq.{bytes_eq-Decides}
use Rattle.clap.specs.Words.{Kinds, Row, Shape, Text, built}
use Rattle.clap.specs.Kinds.{or_else}
use Rattle.clap.specs.Faults.{check_fault, defaults_fault, entered_fault, level_fault, settle_fault, walk_fault}
use Rattle.clap.specs.Simple.{entered, label_of, rows_at}
use Rattle.clap.specs.Walk.{Held, answers_to, finished, idle, nothing_held, settled, walk_from, walked}
use Rattle.rds_words.specs.Commands.{node_app}
use Rattle.rds_words.specs.Entered.{mistakes_in, named_in}
use Rattle.rds_words.specs.Spelling.{AreSpelled}
use Rattle.rds_words.specs.Task.{words_in}
use Rattle.rds_words.specs.Written.{AreData, is_data}
use Rattle.rds_names.specs.Conditions.{and_true}
use Rattle.rds_words.proofs.Behind.{Alike, AreShort, dashes_among}
use Rattle.rds_words.proofs.CommandWords.{node_on_words}
use Rattle.rds_words.proofs.Dashed.{Meets, at, command_fault, command_rows, comes_to, fault_alike, held_alike, stopped_at}
use Rattle.rds_words.proofs.Refusing.{HasRequestsAlone, IsOption, IsRefused, refused_among, refused_first}

-- an option stands behind words that are data
pub record HasOption (behind : List Text) : Type 0 where
  pub before : List Text
  pub word : Text
  pub after : List Text
  pub is : behind ≡ before ++ word ∷ after
  pub data_before : AreData before
  pub is_option : IsOption word

abbrev pub IsSplit : List Text → Type 0
IsSplit behind = ((given : List Text) × AreSpelled given behind) ⊎ HasOption behind

spelled_on : (word : Text) (given words : List Text) → is_data word ≡ true → AreSpelled given words → AreSpelled (word ∷ given) (word ∷ words)
spelled_on word given words are (inl all) = inl (ap (λ (ws : List Text). word ∷ ws) all.0, and_true _ _ are all.1)
spelled_on word given words are (inr some) =
    inr (word ∷ some.0, some.1, ap (λ (ws : List Text). word ∷ ws) some.2, and_true _ _ are some.3, ap (λ (ws : List Text). word ∷ ws) some.4)

option_on : (word : Text) (words : List Text) → is_data word ≡ true → HasOption words → HasOption (word ∷ words)
option_on word words are option = record {
  before = word ∷ option.before;
  word = option.word;
  after = option.after;
  is = ap (λ (ws : List Text). word ∷ ws) option.is;
  data_before = and_true _ _ are option.data_before;
  is_option = option.is_option;
}

split_on : (word : Text) (words : List Text) → is_data word ≡ true → IsSplit words → IsSplit (word ∷ words)
split_on word words are (inl spelled) = inl (word ∷ spelled.0, spelled_on word spelled.0 words are spelled.1)
split_on word words are (inr option) = inr (option_on word words are option)

split_by : (word : Text) (words : List Text) → IsSplit words → (dashes : Bool) → bytes_eq word (codes "--") ≡ dashes → (are : Bool) → is_data word ≡ are → IsSplit (word ∷ words)
split_by word words rest true e are k =
    inl (words, inr ([], words, ap (λ (w : Text). w ∷ words) ((bytes_eq-Decides word (codes "--")).0 e), refl, refl))
split_by word words rest false e true k = split_on word words k rest
split_by word words rest false e false k = inr (record {
  before = [];
  word = word;
  after = words;
  is = refl;
  data_before = refl;
  is_option = record { taken = k; other = e };
})

pub split : (behind : List Text) → IsSplit behind
split [] = inl ([], inl (refl, refl))
split (word ∷ words) = split_by word words (split words) (bytes_eq word (codes "--")) refl (is_data word) refl

-- ---- what spelled words come to, as behind dashes

-- from the beginning of a command's words, and from behind dashes there
abbrev pub IsAlike : (s : Shape) → AreShort s.rules → List Text → List Text → Type 0
IsAlike s short behind given = Alike s short behind given (at nothing_held idle 1 false) (at nothing_held idle 1 true)

spelled_alike : (s : Shape) (short : AreShort s.rules) (given behind : List Text) → AreSpelled given behind → IsAlike s short behind given
spelled_alike s short given behind (inl all) =
    rw all.0 (held_alike s.rules given all.1 nothing_held idle 1 false refl refl, fault_alike s given all.1 nothing_held idle 1 false refl refl)
spelled_alike s short given behind (inr some) = rw (some.2, some.4) (dashes_among s short some.0 some.1 some.3 nothing_held idle 1 refl refl)

level_alike : (s : Shape) (short : AreShort s.rules) (given behind : List Text) → IsAlike s short behind given
    → level_fault s [] nothing_held behind false [] ≡ level_fault s [] nothing_held (codes "--" ∷ given) false []
unfolding walked walk_fault
level_alike s short given behind alike = ap₂ (λ (k : Kinds) (h : Held). or_else k (or_else [] (or_else (settle_fault s.rules s.args_override_self h)
    (or_else (defaults_fault (settled s.rules h).rows s.rules) (check_fault s (finished s.rules h) false))))) alike.1 alike.0

rows_alike : (s : Shape) (short : AreShort s.rules) (given behind : List Text) → IsAlike s short behind given → rows_at s behind ≡ rows_at s (codes "--" ∷ given)
unfolding walked
rows_alike s short given behind alike = ap (λ (h : Held). (s.name, finished s.rules h)) alike.0

-- ---- a command

pub record IsCommand (command : Text) (s : Shape) : Type 0 where
  pub met : Meets (built node_app) command
  pub found : find (λ s. answers_to command (label_of s)) (built node_app).subs ≡ Some s
  pub short : AreShort s.rules

abbrev pub words_fault : Shape → List Text → Kinds
words_fault s words = or_else (level_fault s [] nothing_held words false []) []

fault_below : (command : Text) (s : Shape) (words : List Text) → IsCommand command s → entered_fault (built node_app) (Some (command, words)) ≡ level_fault s [] nothing_held words false []
fault_below command s words is = rw is.found refl

rows_below : (command : Text) (s : Shape) (words : List Text) → IsCommand command s → entered (built node_app) (Some (command, words)) ≡ Some (rows_at s words)
rows_below command s words is = rw is.found refl

-- nothing is wrong above a command
none_above : (command : Text) (words : List Text) (below : Kinds) (rows : Text × List Row) → entered (built node_app) (Some (command, words)) ≡ Some rows
    → comes_to (built node_app) [] below (stopped_at command words) ≡ or_else below []
unfolding node_on_words
none_above command words below rows is = rw is refl

pub words_mistaken : (called command : Text) (s : Shape) (words : List Text) → IsCommand command s → mistakes_in (called ∷ command ∷ words) ≡ words_fault s words
unfolding node_on_words
words_mistaken called command s words is =
    command_fault (built node_app) command words is.met
    ∙ ap (λ (below : Kinds). comes_to (built node_app) [] below (stopped_at command words)) (fault_below command s words is)
    ∙ none_above command words (level_fault s [] nothing_held words false []) (rows_at s words) (rows_below command s words is)

pub words_named : (called command : Text) (s : Shape) (words : List Text) → IsCommand command s → named_in (called ∷ command ∷ words) ≡ words_in (Some (rows_at s words))
unfolding node_on_words
words_named called command s words is =
    ap words_in (command_rows (built node_app) command words is.met) ∙ ap words_in (rows_below command s words is)

-- what is refused of a command's words is refused of all
pub refused_below : (called command : Text) (s : Shape) (words : List Text) → IsCommand command s → IsRefused (words_fault s words) → IsRefused (mistakes_in (called ∷ command ∷ words))
refused_below called command s words is refused = subst IsRefused (sym (words_mistaken called command s words is)) refused

-- how words are spelled makes no difference
pub mistaken_alike : (called command : Text) (s : Shape) (given behind : List Text) → IsCommand command s → AreSpelled given behind
    → mistakes_in (called ∷ command ∷ behind) ≡ mistakes_in (called ∷ command ∷ codes "--" ∷ given)
mistaken_alike called command s given behind is spelled =
    words_mistaken called command s behind is
    ∙ ap (λ (k : Kinds). or_else k []) (level_alike s is.short given behind (spelled_alike s is.short given behind spelled))
    ∙ sym (words_mistaken called command s (codes "--" ∷ given) is)

pub named_alike : (called command : Text) (s : Shape) (given behind : List Text) → IsCommand command s → AreSpelled given behind
    → named_in (called ∷ command ∷ behind) ≡ named_in (called ∷ command ∷ codes "--" ∷ given)
named_alike called command s given behind is spelled =
    words_named called command s behind is
    ∙ ap (λ (rows : Text × List Row). words_in (Some rows)) (rows_alike s is.short given behind (spelled_alike s is.short given behind spelled))
    ∙ sym (words_named called command s (codes "--" ∷ given) is)

-- an option among them is refused
pub option_mistaken : (called command : Text) (s : Shape) (behind : List Text) → IsCommand command s → HasRequestsAlone s → HasOption behind → IsRefused (mistakes_in (called ∷ command ∷ behind))
option_mistaken called command s behind is requests has =
    refused_below called command s behind is
    (refused_first (level_fault s [] nothing_held behind false []) [] (refused_first (walk_fault s [] (walk_from nothing_held) behind) _
    (subst (λ (words : List Text). IsRefused (walk_fault s [] (walk_from nothing_held) words)) (sym has.is)
    (refused_among s requests is.short has.before has.word has.after has.data_before has.is_option nothing_held idle 1 refl refl))))
