-- What stands under the ids of a command's words and options at the end, and how many words are taken.
use Rattle.std.proofs.Common.{◌≡◌, ◌∙◌, ◌||◌, ◌==◌, Bool, true, false, List, [], ◌∷◌, codes, length, Option, Some, None, refl, sym, ap, arith, inl, inr}
use Rattle.std.specs.Prelude.{fold, nat_le, option_and_then, option_map, slice_get, unwrap_or}
use Rattle.std.specs.Option.{option_map_or}
use Rattle.std.specs.Str.{bytes_eq}
use Rattle.std.proofs.lemmas.Bool.{cases_Bool, eqb-true, le-leb}
use Rattle.clap.specs.Words.{Row, Rule, Text, all_of, first_of}
use Rattle.clap.specs.Facts.{parser_of_value}
use Rattle.clap.specs.Values.{reading_of}
use Rattle.clap.specs.Walk.{with_default}
use Rattle.clap.specs.declared.builder.value_parser.Reading.{Reading}
use Rattle.clap.specs.declared.builder.value_parser.ValueParser.TheVariants as parser
use Rattle.rds_words.specs.Task.{is_given}
use Rattle.rds_words.specs.WithOptions.{is_there, value_or}
use Rattle.rds_words.proofs.Defaulted.{HasDefault, HasNoDefault, first_default, row_kept, row_missing}
use Rattle.rds_words.proofs.OptionNames.{is_none}
use Rattle.rds_words.proofs.PlanWalk.{Fits, IsTrue}
use Rattle.rds_words.proofs.Plans.{read_row, text_reading, values_row}
use Rattle.rds_words.proofs.RowsById.{row_at}

abbrev pub flag_reading : Reading
flag_reading = reading_of (parser_of_value (Some parser.Bool))

-- ---- under an id

first_among : (c : List Rule) (rows : List Row) (id v : Text) (vs : List Text) (reading : Reading) → row_at id rows ≡ Some (read_row reading id (v ∷ vs)) → first_of id (fold with_default rows c) ≡ Some v
first_among c rows id v vs reading is = ap (λ (f : Option Row). option_and_then (λ r. slice_get r.values 0) f) (row_kept c rows id (read_row reading id (v ∷ vs)) is)

pub first_there : (c : List Rule) (rows : List Row) (id v : Text) (reading : Reading) → row_at id rows ≡ Some (read_row reading id (v ∷ [])) → first_of id (fold with_default rows c) ≡ Some v
first_there c rows id v reading is = first_among c rows id v [] reading is

pub first_missing : (c : List Rule) (rows : List Row) (id : Text) → HasNoDefault id c → row_at id rows ≡ None → first_of id (fold with_default rows c) ≡ None
first_missing c rows id has none = ap (λ (f : Option Row). option_and_then (λ r. slice_get r.values 0) f) (row_missing c rows id has none)

pub all_missing : (c : List Rule) (rows : List Row) (id : Text) → HasNoDefault id c → row_at id rows ≡ None → all_of id (fold with_default rows c) ≡ None
all_missing c rows id has none = ap (option_map (λ (r : Row). r.values)) (row_missing c rows id has none)

pub all_there : (c : List Rule) (rows : List Row) (id : Text) (vs : List Text) → row_at id rows ≡ Some (read_row text_reading id vs) → all_of id (fold with_default rows c) ≡ Some vs
all_there c rows id vs is = ap (option_map (λ (r : Row). r.values)) (row_kept c rows id (read_row text_reading id vs) is)

-- an option with a value, which has this one where it isn't given
pub value_given : (c : List Rule) (rows : List Row) (id d : Text) (given : List Text) → HasDefault id d c → row_at id rows ≡ values_row text_reading id given → first_of id (fold with_default rows c) ≡ Some (value_or d given)
value_given c rows id d [] has is = first_default c rows id d has is
value_given c rows id d (v ∷ vs) has is = first_among c rows id v vs text_reading is

-- or none
pub value_there : (c : List Rule) (rows : List Row) (id : Text) (given : List Text) → HasNoDefault id c → row_at id rows ≡ values_row text_reading id given → first_of id (fold with_default rows c) ≡ slice_get given 0
value_there c rows id [] has is = first_missing c rows id has is
value_there c rows id (v ∷ vs) has is = first_among c rows id v vs text_reading is

-- or any number of them
pub values_there : (c : List Rule) (rows : List Row) (id : Text) (given : List Text) → HasNoDefault id c → row_at id rows ≡ values_row text_reading id given
    → unwrap_or (all_of id (fold with_default rows c)) [] ≡ given
values_there c rows id [] has is = ap (λ (ws : Option (List Text)). unwrap_or ws []) (all_missing c rows id has is)
values_there c rows id (v ∷ vs) has is = ap (λ (ws : Option (List Text)). unwrap_or ws []) (all_there c rows id (v ∷ vs) is)

-- an option without a value
pub flag_given : (c : List Rule) (rows : List Row) (id : Text) (given : List Text) → HasDefault id (codes "false") c → IsTrue given → row_at id rows ≡ values_row flag_reading id given
    → is_given id (fold with_default rows c) ≡ is_there given
flag_given c rows id [] has are is = ap (λ (w : Option Text). option_map_or (λ word. bytes_eq word (codes "true")) w false) (first_default c rows id (codes "false") has is)
flag_given c rows id (v ∷ vs) has are is =
    ap (λ (w : Option Text). option_map_or (λ word. bytes_eq word (codes "true")) w false) (first_among c rows id v vs flag_reading is) ∙ ap (λ (t : Text). bytes_eq t (codes "true")) are

-- ---- how many words

module _ (i j k : Text) where
  pub fits_one : (ws : List Text) → Fits (i ∷ []) [] None ws → (length ws == 1) ≡ true
  fits_one [] fits = absurd fits
  fits_one (a ∷ []) fits = refl
  fits_one (a ∷ b ∷ ws) fits = absurd fits

  pub taken_one : (ws : List Text) → (length ws == 1) ≡ true → Fits (i ∷ []) [] None ws
  taken_one [] e = absurd (omega (arith, eqb-true 0 1 e))
  taken_one (a ∷ []) e = tt
  taken_one (a ∷ b ∷ ws) e = absurd (omega (arith, eqb-true (length (a ∷ b ∷ ws)) 1 e))

  pub fits_two : (ws : List Text) → Fits (i ∷ j ∷ []) [] None ws → (length ws == 2) ≡ true
  fits_two [] fits = absurd fits
  fits_two (a ∷ []) fits = absurd fits
  fits_two (a ∷ b ∷ []) fits = refl
  fits_two (a ∷ b ∷ c ∷ ws) fits = absurd fits

  pub taken_two : (ws : List Text) → (length ws == 2) ≡ true → Fits (i ∷ j ∷ []) [] None ws
  taken_two [] e = absurd (omega (arith, eqb-true 0 2 e))
  taken_two (a ∷ []) e = absurd (omega (arith, eqb-true 1 2 e))
  taken_two (a ∷ b ∷ []) e = tt
  taken_two (a ∷ b ∷ c ∷ ws) e = absurd (omega (arith, eqb-true (length (a ∷ b ∷ c ∷ ws)) 2 e))

  pub fits_three : (ws : List Text) → Fits (i ∷ j ∷ k ∷ []) [] None ws → (length ws == 3) ≡ true
  fits_three [] fits = absurd fits
  fits_three (a ∷ []) fits = absurd fits
  fits_three (a ∷ b ∷ []) fits = absurd fits
  fits_three (a ∷ b ∷ c ∷ []) fits = refl
  fits_three (a ∷ b ∷ c ∷ d ∷ ws) fits = absurd fits

  pub taken_three : (ws : List Text) → (length ws == 3) ≡ true → Fits (i ∷ j ∷ k ∷ []) [] None ws
  taken_three [] e = absurd (omega (arith, eqb-true 0 3 e))
  taken_three (a ∷ []) e = absurd (omega (arith, eqb-true 1 3 e))
  taken_three (a ∷ b ∷ []) e = absurd (omega (arith, eqb-true 2 3 e))
  taken_three (a ∷ b ∷ c ∷ []) e = tt
  taken_three (a ∷ b ∷ c ∷ d ∷ ws) e = absurd (omega (arith, eqb-true (length (a ∷ b ∷ c ∷ d ∷ ws)) 3 e))

  pub fits_part : (ws : List Text) → Fits (i ∷ []) (j ∷ []) None ws → (length ws == 1 || length ws == 2) ≡ true
  fits_part [] fits = absurd fits
  fits_part (a ∷ []) fits = refl
  fits_part (a ∷ b ∷ []) fits = refl
  fits_part (a ∷ b ∷ c ∷ ws) fits = absurd fits

  pub taken_part : (ws : List Text) → (length ws == 1 || length ws == 2) ≡ true → Fits (i ∷ []) (j ∷ []) None ws
  taken_part [] e = absurd (is_none e)
  taken_part (a ∷ []) e = tt
  taken_part (a ∷ b ∷ []) e = tt
  taken_part (a ∷ b ∷ c ∷ ws) e = elim (cases_Bool (length (a ∷ b ∷ c ∷ ws) == 1)) [
    | inl one ↦ absurd (omega (arith, eqb-true (length (a ∷ b ∷ c ∷ ws)) 1 one))
    | inr other ↦ absurd (omega (arith, eqb-true (length (a ∷ b ∷ c ∷ ws)) 2 (sym (ap (λ (t : Bool). t || (length (a ∷ b ∷ c ∷ ws) == 2)) other) ∙ e)))
  ]

  pub fits_more : (m : Text) (ws : List Text) → Fits (i ∷ j ∷ []) (k ∷ []) (Some m) ws → nat_le 2 (length ws) ≡ true
  fits_more m [] fits = absurd fits
  fits_more m (a ∷ []) fits = absurd fits
  fits_more m (a ∷ b ∷ ws) fits = le-leb 2 (length (a ∷ b ∷ ws)) (omega arith)

  pub taken_more : (m : Text) (ws : List Text) → nat_le 2 (length ws) ≡ true → Fits (i ∷ j ∷ []) (k ∷ []) (Some m) ws
  taken_more m [] e = absurd (is_none e)
  taken_more m (a ∷ []) e = absurd (is_none e)
  taken_more m (a ∷ b ∷ []) e = tt
  taken_more m (a ∷ b ∷ c ∷ []) e = tt
  taken_more m (a ∷ b ∷ c ∷ d ∷ ws) e = tt
