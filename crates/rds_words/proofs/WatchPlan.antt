-- `watch`, as it takes its option.
use Rattle.std.proofs.Common.{◌≡◌, ◌⊎◌, List, [], ◌∷◌, codes, Option, Some, None, refl, inl, inr}
use Rattle.std.specs.Prelude.{fold, option_map, unwrap_or}
use Rattle.clap.specs.Words.{Row, Shape, Text}
use Rattle.clap.specs.Walk.{arg_by_index, arg_by_long, has_long, option, with_default}
use Rattle.rds_words.specs.Commands.{file_rule}
use Rattle.rds_words.specs.Raw.{token_words}
use Rattle.rds_words.specs.Task.{named_words, words_in}
use Rattle.rds_words.specs.Typed.{one_value}
use Rattle.rds_words.specs.WithOptions.{watch_with}
use Rattle.rds_words.proofs.CommandWords.{node_on_words, shape_behind}
use Rattle.rds_words.proofs.Dashed.{data_next, data_turn}
use Rattle.rds_words.proofs.OptionNames.{is_name, is_none}
use Rattle.rds_words.proofs.OptionPlans.{Chosen, at_both, short_by, token_option, told_by}
use Rattle.rds_words.proofs.PlanRows.{first_missing, first_there, fits_part, taken_part, value_there}
use Rattle.rds_words.proofs.PlanWalk.{AreChosen, AreTrue, Fits, IsValued, IsValuedAt, Plan, Takes, held, ids_of, once_by, settles}
use Rattle.rds_words.proofs.Plans.{AreAt, text_reading}
use Rattle.rds_words.proofs.Refusing.{HasShortRequests, IsRefused, IsRequest, refused_first}
use Rattle.rds_words.proofs.RuleFacts.{all_short, found_other}
use Rattle.rds_words.proofs.Splitting.{IsCommand}

abbrev watch_shape : Shape
watch_shape = shape_behind (codes "watch")

abbrev pub watch_plan : Plan
watch_plan = record {
  command = codes "watch";
  shape = watch_shape;
  required = codes "NODE" ∷ [];
  optional = codes "PATH" ∷ [];
  more = None;
  known = token_option ∷ [];
  with_options = watch_with;
}

pub watch_is : IsCommand (codes "watch") watch_shape
unfolding node_on_words
watch_is = record { met = (refl, refl); found = refl; short = all_short watch_shape.rules refl }

watch_token : IsValued watch_shape one_value (codes "--token-file") (codes "TOKEN_FILE")
unfolding IsRefused held node_on_words
watch_token = record {
  usage = once_by watch_shape text_reading (codes "TOKEN_FILE") (λ rows v. refl) (λ rows v. refl);
  bare = λ rows. tt;
  at_free = at_both (IsValuedAt watch_shape (codes "--token-file") (codes "TOKEN_FILE")) (record { waits = λ h position. refl; turn = λ h position. refl; valued = λ h position v. refl; valued_turn = λ h position v. refl }) (record { waits = λ h position. refl; turn = λ h position. refl; valued = λ h position v. refl; valued_turn = λ h position v. refl });
  other = λ h is. is;
  takes = λ rows position v are.
      let h = held rows (Some (codes "TOKEN_FILE", [])) in
      let waiting = option (codes "TOKEN_FILE") in
      (data_next watch_shape.rules h waiting position v are refl, data_turn watch_shape h waiting position v are refl);
  valued_other = λ h v is. refused_first (settles watch_shape h) _ is;
}

watch_long : (name : Text) → ((o : Chosen watch_plan.known) × (name ≡ o.0.bare)) ⊎ IsRequest watch_shape (arg_by_long watch_shape.rules name)
unfolding IsRefused node_on_words
watch_long name =
    found_other watch_shape (λ a. has_long a name) ((o : Chosen watch_plan.known) × (name ≡ o.0.bare)) watch_shape.rules
    (inl refl, (inl refl, (inr (inr (λ e. ((token_option, inl refl), is_name (codes "token-file") name e))), (inr (inl (refl, λ rows. tt)), tt))))

watch_short : HasShortRequests watch_shape
unfolding IsRefused node_on_words
watch_short = short_by watch_shape (λ character. (inl refl, (inl refl, (inr (inr is_none), (inr (inl (refl, λ rows. tt)), tt)))))

watch_reads : (rows : List Row) (ws : List Text) (vs : Text → List Text) → AreAt (ids_of watch_plan) (watch_plan.more) ws rows → Fits (watch_plan.required) (watch_plan.optional) (watch_plan.more) ws
    → AreChosen (watch_plan.known) vs rows → AreTrue (watch_plan.known) vs
    → words_in (Some (watch_shape.name, fold with_default rows watch_shape.rules)) ≡ option_map (λ words. codes "watch" ∷ words) (watch_plan.with_options.words_for ws vs)
unfolding node_on_words
watch_reads rows ([]) vs stands fits chosen are = absurd fits
watch_reads rows (a ∷ []) vs stands fits chosen are =
    let node_is = first_there watch_shape.rules rows (codes "NODE") a text_reading stands.0 in
    let path_is = first_missing watch_shape.rules rows (codes "PATH") (inl refl, (inr refl, (inl refl, (inl refl, tt)))) stands.1.0 in
    let token_is = value_there watch_shape.rules rows (codes "TOKEN_FILE") (vs (codes "--token-file")) (inl refl, (inl refl, (inr refl, (inl refl, tt)))) (chosen token_option (inl refl)) in
    λ i. named_words (codes "watch") (option_map (λ node. node ∷ unwrap_or (path_is i) [] ∷ token_words (token_is i)) (node_is i))
watch_reads rows (a ∷ b ∷ []) vs stands fits chosen are =
    let node_is = first_there watch_shape.rules rows (codes "NODE") a text_reading stands.0 in
    let path_is = first_there watch_shape.rules rows (codes "PATH") b text_reading stands.1.0 in
    let token_is = value_there watch_shape.rules rows (codes "TOKEN_FILE") (vs (codes "--token-file")) (inl refl, (inl refl, (inr refl, (inl refl, tt)))) (chosen token_option (inl refl)) in
    λ i. named_words (codes "watch") (option_map (λ node. node ∷ unwrap_or (path_is i) [] ∷ token_words (token_is i)) (node_is i))
watch_reads rows (a ∷ b ∷ c ∷ ws) vs stands fits chosen are = absurd fits

pub watch_takes : Takes watch_plan
unfolding IsRefused held node_on_words
watch_takes = record {
  is = watch_is;
  options = (inl (refl, refl, watch_token), tt);
  told = told_by watch_shape watch_plan.known watch_long watch_short;
  places = (record { rule = unwrap_or (arg_by_index watch_shape.rules 1) file_rule; is = refl; single = refl; lone = refl; short = refl; called = refl; place_then = refl }, once_by watch_shape text_reading (codes "NODE") (λ rows v. refl) (λ rows v. refl), (record { rule = unwrap_or (arg_by_index watch_shape.rules 2) file_rule; is = refl; single = refl; lone = refl; short = refl; called = refl; place_then = refl }, once_by watch_shape text_reading (codes "PATH") (λ rows v. refl) (λ rows v. refl), λ h. tt));
  places_apart = refl;
  options_apart = refl;
  ids_apart = refl;
  names_apart = refl;
  checks = λ rows. refl;
  quiet = (inl refl, (inl refl, (inl refl, (inl refl, tt))));
  no_default = ((inr refl, (inl refl, (inl refl, (inl refl, tt)))), tt);
  listed = refl;
  fits = fits_part (codes "NODE") (codes "PATH") [];
  taken = taken_part (codes "NODE") (codes "PATH") [];
  reads = watch_reads;
}
