-- `clear`, as it takes its option.
use Rattle.std.proofs.Common.{◌≡◌, ◌⊎◌, List, [], ◌∷◌, codes, Some, None, refl, inl, inr}
use Rattle.std.specs.Prelude.{fold, option_and_then, option_map, unwrap_or}
use Rattle.clap.specs.Words.{Row, Shape, Text}
use Rattle.clap.specs.Walk.{arg_by_index, arg_by_long, has_long, with_default}
use Rattle.rds_words.specs.Commands.{file_rule}
use Rattle.rds_words.specs.Raw.{clear_words}
use Rattle.rds_words.specs.Task.{named_words, words_in}
use Rattle.rds_words.specs.Typed.{no_value}
use Rattle.rds_words.specs.WithOptions.{clear_with}
use Rattle.rds_words.proofs.CommandWords.{node_on_words, shape_behind}
use Rattle.rds_words.proofs.OptionNames.{is_name, is_none}
use Rattle.rds_words.proofs.OptionPlans.{Chosen, at_both, short_by, told_by}
use Rattle.rds_words.proofs.PlanRows.{first_missing, first_there, fits_part, flag_given, flag_reading, taken_part}
use Rattle.rds_words.proofs.PlanWalk.{AreChosen, AreTrue, Fits, IsFlag, IsFlagAt, Plan, Takes, held, ids_of, once_by, settles}
use Rattle.rds_words.proofs.Plans.{AreAt, Known, text_reading}
use Rattle.rds_words.proofs.Refusing.{HasShortRequests, IsRefused, IsRequest, refused_first}
use Rattle.rds_words.proofs.RuleFacts.{all_short, found_other}
use Rattle.rds_words.proofs.Splitting.{IsCommand}

abbrev pub all_option : Known
all_option = record { bare = codes "all"; id = codes "ALL"; form = no_value; reading = flag_reading }

abbrev clear_shape : Shape
clear_shape = shape_behind (codes "clear")

abbrev pub clear_plan : Plan
clear_plan = record {
  command = codes "clear";
  shape = clear_shape;
  required = codes "FILE" ∷ [];
  optional = codes "PATH" ∷ [];
  more = None;
  known = all_option ∷ [];
  with_options = clear_with;
}

pub clear_is : IsCommand (codes "clear") clear_shape
unfolding node_on_words
clear_is = record { met = (refl, refl); found = refl; short = all_short clear_shape.rules refl }

clear_all : IsFlag clear_shape flag_reading (codes "--all") (codes "ALL")
unfolding IsRefused node_on_words
clear_all = record { at_free = at_both (IsFlagAt clear_shape flag_reading (codes "--all") (codes "ALL")) (record { uses = λ h position. refl; turn = λ h position. refl }) (record { uses = λ h position. refl; turn = λ h position. refl }); other = λ h is. refused_first (settles clear_shape h) _ is; valued = λ v h skip. tt }

clear_long : (name : Text) → ((o : Chosen (all_option ∷ [])) × (name ≡ o.0.bare)) ⊎ IsRequest clear_shape (arg_by_long clear_shape.rules name)
unfolding IsRefused node_on_words
clear_long name =
    found_other clear_shape (λ a. has_long a name) ((o : Chosen (all_option ∷ [])) × (name ≡ o.0.bare)) clear_shape.rules
    (inl refl, (inl refl, (inr (inr (λ e. ((all_option, inl refl), is_name (codes "all") name e))), (inr (inl (refl, λ rows. tt)), tt))))

clear_short : HasShortRequests clear_shape
unfolding IsRefused node_on_words
clear_short = short_by clear_shape (λ character. (inl refl, (inl refl, (inr (inr is_none), (inr (inl (refl, λ rows. tt)), tt)))))

clear_reads : (rows : List Row) (ws : List Text) (vs : Text → List Text) → AreAt (ids_of clear_plan) (clear_plan.more) ws rows → Fits (clear_plan.required) (clear_plan.optional) (clear_plan.more) ws
    → AreChosen (clear_plan.known) vs rows → AreTrue (clear_plan.known) vs
    → words_in (Some (clear_shape.name, fold with_default rows clear_shape.rules)) ≡ option_map (λ words. codes "clear" ∷ words) (clear_plan.with_options.words_for ws vs)
unfolding node_on_words
clear_reads rows ([]) vs stands fits chosen are = absurd fits
clear_reads rows (a ∷ []) vs stands fits chosen are = λ i. named_words (codes "clear") (option_and_then (λ file. clear_words file (first_missing clear_shape.rules rows (codes "PATH") (inl refl, (inr refl, (inl refl, (inl refl, tt)))) stands.1.0 i) (flag_given clear_shape.rules rows (codes "ALL") (vs (codes "--all")) (inr (refl, inr (refl, inl (refl, refl)))) (are all_option (inl refl) refl) (chosen all_option (inl refl)) i)) (first_there clear_shape.rules rows (codes "FILE") a text_reading stands.0 i))
clear_reads rows (a ∷ b ∷ []) vs stands fits chosen are = λ i. named_words (codes "clear") (option_and_then (λ file. clear_words file (first_there clear_shape.rules rows (codes "PATH") b text_reading stands.1.0 i) (flag_given clear_shape.rules rows (codes "ALL") (vs (codes "--all")) (inr (refl, inr (refl, inl (refl, refl)))) (are all_option (inl refl) refl) (chosen all_option (inl refl)) i)) (first_there clear_shape.rules rows (codes "FILE") a text_reading stands.0 i))
clear_reads rows (a ∷ b ∷ c ∷ ws) vs stands fits chosen are = absurd fits

pub clear_takes : Takes clear_plan
unfolding IsRefused held node_on_words
clear_takes = record {
  is = clear_is;
  options = (inr (refl, clear_all), tt);
  told = told_by clear_shape (all_option ∷ []) clear_long clear_short;
  places = (record { rule = unwrap_or (arg_by_index clear_shape.rules 1) file_rule; is = refl; single = refl; lone = refl; short = refl; called = refl; place_then = refl }, once_by clear_shape text_reading (codes "FILE") (λ rows v. refl) (λ rows v. refl), (record { rule = unwrap_or (arg_by_index clear_shape.rules 2) file_rule; is = refl; single = refl; lone = refl; short = refl; called = refl; place_then = refl }, once_by clear_shape text_reading (codes "PATH") (λ rows v. refl) (λ rows v. refl), λ h. tt));
  places_apart = refl;
  options_apart = refl;
  ids_apart = refl;
  names_apart = refl;
  checks = λ rows. refl;
  quiet = (inl refl, (inl refl, (inr refl, (inl refl, tt))));
  no_default = ((inr refl, (inl refl, (inl refl, (inl refl, tt)))), tt);
  listed = refl;
  fits = fits_part (codes "FILE") (codes "PATH") [];
  taken = taken_part (codes "FILE") (codes "PATH") [];
  reads = clear_reads;
}
