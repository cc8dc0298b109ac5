-- What is typed behind a command that has options names its task.
use Rattle.std.proofs.Common.{◌≡◌, ◌∙◌, ◌&&◌, Bool, true, false, List, [], ◌∷◌, ◌++◌, codes, length, Some, refl, ap, inl, inr}
use Rattle.std.specs.Prelude.{option_map}
use Rattle.std.specs.List.{list_all, list_any}
use Rattle.clap.specs.Words.{Text}
use Rattle.rds_names.specs.Conditions.{and_left, and_right}
use Rattle.rds_words.specs.Entered.{Names}
use Rattle.rds_words.specs.Typed.{AreAllowed, AreTyped, AtMostOne, Form, HaveOptionsOf, IsAllowed, IsRest, Options, Part, is_bare, has_value, many_values, no_value, one_value, typed_flag, typed_option, typed_word, values_among, words_among}
use Rattle.rds_words.specs.Written.{AreData, is_data}
use Rattle.rds_words.proofs.PlanMeant.{means}
use Rattle.rds_words.proofs.PlanWalk.{Plan, Takes}

-- a part as it is typed: a word, an option with its value as the next word or in one word with it, or without a value
pub data Typed : Type 0 where
  placed : Text → Typed
  apart : Text → Text → Typed
  joined : Text → Text → Typed
  alone : Text → Typed

abbrev pub parts_of : List Typed → List Part
parts_of [] = []
parts_of (placed word ∷ ts) = typed_word word ∷ parts_of ts
parts_of (apart name value ∷ ts) = typed_option name value ∷ parts_of ts
parts_of (joined name value ∷ ts) = typed_option name value ∷ parts_of ts
parts_of (alone name ∷ ts) = typed_flag name ∷ parts_of ts

-- the words, with others behind them
abbrev pub typed_in : List Typed → List Text → List Text
typed_in [] rest = rest
typed_in (placed word ∷ ts) rest = word ∷ typed_in ts rest
typed_in (apart name value ∷ ts) rest = name ∷ value ∷ typed_in ts rest
typed_in (joined name value ∷ ts) rest = (name ++ codes "=" ++ value) ∷ typed_in ts rest
typed_in (alone name ∷ ts) rest = name ∷ typed_in ts rest

-- the words among them that have to be data
abbrev pub data_in : List Typed → List Text
data_in [] = []
data_in (placed word ∷ ts) = word ∷ data_in ts
data_in (apart name value ∷ ts) = value ∷ data_in ts
data_in (joined name value ∷ ts) = data_in ts
data_in (alone name ∷ ts) = data_in ts

are_typed : (ts : List Typed) (rest : List Text) → AreData (data_in ts) → AreTyped (parts_of ts) rest (typed_in ts rest)
are_typed [] rest are = refl
are_typed (placed word ∷ ts) rest are =
    (typed_in ts rest, refl, and_left (is_data word) _ are, are_typed ts rest (and_right (is_data word) _ are))
are_typed (apart name value ∷ ts) rest are =
    (typed_in ts rest, inl (refl, and_left (is_data value) _ are), are_typed ts rest (and_right (is_data value) _ are))
are_typed (joined name value ∷ ts) rest are = (typed_in ts rest, inr refl, are_typed ts rest are)
are_typed (alone name ∷ ts) rest are = (typed_in ts rest, refl, are_typed ts rest are)

-- ---- options that the command has, each as often as it may stand there

abbrev is_had : Options → Typed → Bool
is_had options (placed word) = true
is_had options (apart name value) = list_any (has_value name) options
is_had options (joined name value) = list_any (has_value name) options
is_had options (alone name) = list_any (is_bare name) options

have_options : (options : Options) (ts : List Typed) → list_all (is_had options) ts ≡ true → HaveOptionsOf options (parts_of ts)
have_options options [] all = tt
have_options options (placed word ∷ ts) all = have_options options ts (and_right true _ all)
have_options options (apart name value ∷ ts) all =
    let one = list_any (has_value name) options in (and_left one _ all, have_options options ts (and_right one _ all))
have_options options (joined name value ∷ ts) all =
    let one = list_any (has_value name) options in (and_left one _ all, have_options options ts (and_right one _ all))
have_options options (alone name ∷ ts) all =
    let one = list_any (is_bare name) options in (and_left one _ all, have_options options ts (and_right one _ all))

abbrev is_once : List Text → Bool
is_once [] = true
is_once (value ∷ []) = true
is_once (value ∷ next ∷ more) = false

at_most_one : (values : List Text) → is_once values ≡ true → AtMostOne values
at_most_one [] once = tt
at_most_one (value ∷ []) once = tt
at_most_one (value ∷ next ∷ more) once = absurd cc

abbrev may_be : Form → List Text → Bool
may_be no_value values = is_once values
may_be one_value values = is_once values
may_be many_values values = true

is_allowed : (form : Form) (values : List Text) → may_be form values ≡ true → IsAllowed form values
is_allowed no_value values may = at_most_one values may
is_allowed one_value values may = at_most_one values may
is_allowed many_values values may = tt

are_allowed : (options : Options) (values : Text → List Text) → list_all (λ o. may_be o.1 (values o.0)) options ≡ true → AreAllowed options values
are_allowed [] values all = tt
are_allowed (o ∷ options) values all =
    let one = may_be o.1 (values o.0) in
    (is_allowed o.1 (values o.0) (and_left one _ all), are_allowed options values (and_right one _ all))

abbrev pub is_fit : Options → List Typed → Bool
is_fit options ts = list_all (is_had options) ts && list_all (λ o. may_be o.1 (values_among o.0 (parts_of ts))) options

-- ---- the task that they name

module _ (p : Plan) (takes : Takes p) where
  names_with : (called : Text) (ts : List Typed) (after rest words : List Text) → IsRest after rest → AreData (data_in ts)
      → is_fit p.with_options.options ts ≡ true → p.with_options.takes (length (words_among (parts_of ts) ++ after)) ≡ true
      → p.with_options.words_for (words_among (parts_of ts) ++ after) (λ n. values_among n (parts_of ts)) ≡ Some words
      → Names (called ∷ p.command ∷ typed_in ts rest) (p.command ∷ words)
  names_with called ts after rest words is are fit taken says =
      let parts = parts_of ts in
      let all_had = list_all (is_had p.with_options.options) ts in
      let meant = (means p takes called (typed_in ts rest)).1 (words_among parts ++ after) (λ n. values_among n parts) (
        record {
          parts = parts;
          after = after;
          rest = rest;
          are_typed = are_typed ts rest are;
          is_rest = is;
          have_options = have_options p.with_options.options ts (and_left all_had _ fit);
          allowed = are_allowed p.with_options.options (λ n. values_among n parts) (and_right all_had _ fit);
          given_are = refl;
          values_are = λ n. refl;
        },
        taken,
      ) in
      (meant.0, meant.1 ∙ ap (option_map (λ words. p.command ∷ words)) says)

  pub named : (called : Text) (ts : List Typed) (words : List Text) → AreData (data_in ts)
      → is_fit p.with_options.options ts ≡ true → p.with_options.takes (length (words_among (parts_of ts) ++ [])) ≡ true
      → p.with_options.words_for (words_among (parts_of ts) ++ []) (λ n. values_among n (parts_of ts)) ≡ Some words
      → Names (called ∷ p.command ∷ typed_in ts []) (p.command ∷ words)
  named called ts words = names_with called ts [] [] words (inl (refl, refl))

  -- with two dashes before these words
  pub named_dashed : (called : Text) (ts : List Typed) (after words : List Text) → AreData (data_in ts)
      → is_fit p.with_options.options ts ≡ true → p.with_options.takes (length (words_among (parts_of ts) ++ after)) ≡ true
      → p.with_options.words_for (words_among (parts_of ts) ++ after) (λ n. values_among n (parts_of ts)) ≡ Some words
      → Names (called ∷ p.command ∷ typed_in ts (codes "--" ∷ after)) (p.command ∷ words)
  named_dashed called ts after words = names_with called ts after (codes "--" ∷ after) words (inr refl)
