-- The commands that have options, as they take them.
use Rattle.std.proofs.Common.{◌≡◌, ◌∙◌, ◌⊎◌, ◌++◌, ℕ, Bool, true, false, List, [], ◌∷◌, codes, Option, Some, None, refl, inl, inr}
use Rattle.std.specs.Prelude.{fold, if◌then◌else◌, option_and_then, option_map, slice_get, unwrap_or}
use Rattle.clap.specs.Words.{Row, Shape, Text}
use Rattle.clap.specs.Walk.{Waiting, arg_by_index, arg_by_long, has_long, has_short, idle, option, positional, with_default}
use Rattle.rds_words.specs.Commands.{file_rule}
use Rattle.rds_words.specs.Raw.{access_words, changed_words, init_words, log_words, peer_words, raw_words, token_words}
use Rattle.rds_words.specs.Task.{changed_words_in, init_words_by, named_words, words_in}
use Rattle.rds_words.specs.Typed.{many_values, no_value, one_value}
use Rattle.rds_words.specs.WithOptions.{del_with, put_with, get_with, init_with, run_with, serve_with, show_with, sync_with}
use Rattle.rds_words.proofs.CommandWords.{node_on_words, shape_behind}
use Rattle.rds_words.proofs.Dashed.{data_next, data_turn}
use Rattle.rds_words.proofs.OptionNames.{is_name, is_none, told}
use Rattle.rds_words.proofs.PlanRows.{all_missing, all_there, first_missing, first_there, fits_more, fits_one, fits_part, fits_three, fits_two, flag_given, flag_reading, taken_more, taken_one, taken_part, taken_three, taken_two, value_given, value_there, values_there}
use Rattle.rds_words.proofs.PlanWalk.{AreChosen, AreTrue, Fits, IsFlag, IsFlagAt, IsThis, IsValued, IsValuedAt, Plan, Takes, free, held, ids_of, once_by, settles}
use Rattle.rds_words.proofs.Plans.{AreAt, IsIn, Known, name_of, text_reading}
use Rattle.rds_words.proofs.Refusing.{HasShortRequests, IsAlwaysRefused, IsOption, IsRefused, IsRequest, refused_first}
use Rattle.rds_words.proofs.RuleFacts.{EachOther, all_short, found_other}
use Rattle.rds_words.proofs.Splitting.{IsCommand}

-- ---- the options

abbrev pub from_option : Known
from_option = record { bare = codes "from"; id = codes "FROM"; form = one_value; reading = text_reading }

abbrev pub text_option : Known
text_option = record { bare = codes "text"; id = codes "TEXT"; form = no_value; reading = flag_reading }

abbrev pub changed_option : Known
changed_option = record { bare = codes "if-changed"; id = codes "IF_CHANGED"; form = no_value; reading = flag_reading }

abbrev pub raw_option : Known
raw_option = record { bare = codes "raw"; id = codes "RAW"; form = no_value; reading = flag_reading }

abbrev pub register_option : Known
register_option = record { bare = codes "reg"; id = codes "REG"; form = no_value; reading = flag_reading }

abbrev pub set_option : Known
set_option = record { bare = codes "set"; id = codes "SET"; form = no_value; reading = flag_reading }

abbrev pub counter_option : Known
counter_option = record { bare = codes "counter"; id = codes "COUNTER"; form = no_value; reading = flag_reading }

abbrev pub pretty_option : Known
pretty_option = record { bare = codes "pretty"; id = codes "PRETTY"; form = no_value; reading = flag_reading }

abbrev pub sessions_option : Known
sessions_option = record { bare = codes "sessions"; id = codes "SESSIONS"; form = one_value; reading = text_reading }

abbrev pub timeout_option : Known
timeout_option = record { bare = codes "timeout"; id = codes "TIMEOUT"; form = one_value; reading = text_reading }

abbrev pub http_option : Known
http_option = record { bare = codes "http"; id = codes "HTTP"; form = one_value; reading = text_reading }

abbrev pub peers_option : Known
peers_option = record { bare = codes "peer"; id = codes "PEERS"; form = many_values; reading = text_reading }

abbrev pub every_option : Known
every_option = record { bare = codes "every"; id = codes "EVERY"; form = one_value; reading = text_reading }

abbrev pub token_option : Known
token_option = record { bare = codes "token-file"; id = codes "TOKEN_FILE"; form = one_value; reading = text_reading }

abbrev pub open_option : Known
open_option = record { bare = codes "open"; id = codes "OPEN"; form = no_value; reading = flag_reading }

abbrev pub log_option : Known
log_option = record { bare = codes "log"; id = codes "LOG"; form = no_value; reading = flag_reading }

-- texts, where each is there
abbrev joined : List (Option Text) → Option (List Text)
joined [] = Some []
joined (w ∷ ws) = option_and_then (λ word. option_map (λ words. word ∷ words) (joined ws)) w

abbrev pub Chosen : List Known → Type 0
Chosen known = (o : Known) × IsIn o known

-- whether more names are waited for or nothing
pub at_both : (P : Waiting → Type 0) → P positional → P idle → (b : Bool) → P (free b)
at_both P more nothing true = more
at_both P more nothing false = nothing

-- each word that is an option is one of the known ones or is refused
pub told_by : (s : Shape) (known : List Known) → ((name : Text) → ((o : Chosen known) × (name ≡ o.0.bare)) ⊎ IsRequest s (arg_by_long s.rules name)) → HasShortRequests s
    → (word : Text) → IsOption word → ((o : Known) × IsIn o known × IsThis (name_of o) word) ⊎ IsAlwaysRefused s word
told_by s known long short word is = elim (told s (Chosen known) (λ o. o.0.bare) long short word is) [
  | inl this ↦ inl (this.0.0, this.0.1, this.1)
  | inr refused ↦ inr refused
]

pub short_by : (s : Shape) → ((character : ℕ) → EachOther s (λ a. has_short a character) ⊥ s.rules) → HasShortRequests s
short_by s each character = elim (found_other s (λ a. has_short a character) ⊥ s.rules (each character)) [
  | inl none ↦ absurd none
  | inr is ↦ is
]

-- ---- init

abbrev init_shape : Shape
init_shape = shape_behind (codes "init")

abbrev pub init_plan : Plan
init_plan = record {
  command = codes "init";
  shape = init_shape;
  required = codes "FILE" ∷ codes "GROUP" ∷ [];
  optional = codes "OWN" ∷ [];
  more = Some (codes "NAMES");
  known = from_option ∷ [];
  with_options = init_with;
}

pub init_is : IsCommand (codes "init") init_shape
unfolding node_on_words
init_is = record { met = (refl, refl); found = refl; short = all_short init_shape.rules refl }

init_from : IsValued init_shape one_value (codes "--from") (codes "FROM")
unfolding IsRefused held node_on_words
init_from = record {
  usage = once_by init_shape text_reading (codes "FROM") (λ rows v. refl) (λ rows v. refl);
  bare = λ rows. tt;
  at_free = at_both (IsValuedAt init_shape (codes "--from") (codes "FROM")) (record { waits = λ h position. refl; turn = λ h position. refl; valued = λ h position v. refl; valued_turn = λ h position v. refl }) (record { waits = λ h position. refl; turn = λ h position. refl; valued = λ h position v. refl; valued_turn = λ h position v. refl });
  other = λ h is. is;
  takes = λ rows position v are.
      let h = held rows (Some (codes "FROM", [])) in
      let waiting = option (codes "FROM") in
      (data_next init_shape.rules h waiting position v are refl, data_turn init_shape h waiting position v are refl);
  valued_other = λ h v is. refused_first (settles init_shape h) _ is;
}

init_long : (name : Text) → ((o : Chosen (from_option ∷ [])) × (name ≡ o.0.bare)) ⊎ IsRequest init_shape (arg_by_long init_shape.rules name)
unfolding IsRefused node_on_words
init_long name =
    found_other init_shape (λ a. has_long a name) ((o : Chosen (from_option ∷ [])) × (name ≡ o.0.bare)) init_shape.rules
    (inl refl, (inl refl, (inl refl, (inl refl, (inr (inr (λ e. ((from_option, inl refl), is_name (codes "from") name e))), (inr (inl (refl, λ rows. tt)), tt))))))

init_short : HasShortRequests init_shape
unfolding IsRefused node_on_words
init_short = short_by init_shape (λ character. (inl refl, (inl refl, (inl refl, (inl refl, (inr (inr is_none), (inr (inl (refl, λ rows. tt)), tt)))))))

init_reads : (rows : List Row) (ws : List Text) (vs : Text → List Text) → AreAt (ids_of init_plan) (init_plan.more) ws rows → Fits (init_plan.required) (init_plan.optional) (init_plan.more) ws
    → AreChosen (init_plan.known) vs rows → AreTrue (init_plan.known) vs
    → words_in (Some (init_shape.name, fold with_default rows init_shape.rules)) ≡ option_map (λ words. codes "init" ∷ words) (init_plan.with_options.words_for ws vs)
unfolding node_on_words
init_reads rows ([]) vs stands fits chosen are = absurd fits
init_reads rows (a ∷ []) vs stands fits chosen are = absurd fits
init_reads rows (a ∷ b ∷ []) vs stands fits chosen are = (λ i. named_words (codes "init") (option_and_then (λ file. option_and_then (λ group. init_words_by file group (first_missing init_shape.rules rows (codes "OWN") (inl refl, (inl refl, (inr refl, (inl refl, (inl refl, (inl refl, tt)))))) stands.1.1.0 i) (all_missing init_shape.rules rows (codes "NAMES") (inl refl, (inl refl, (inl refl, (inr refl, (inl refl, (inl refl, tt)))))) stands.1.1.1 i) (value_there init_shape.rules rows (codes "FROM") (vs (codes "--from")) (inl refl, (inl refl, (inl refl, (inl refl, (inr refl, (inl refl, tt)))))) (chosen from_option (inl refl)) i)) (first_there init_shape.rules rows (codes "GROUP") b text_reading stands.1.0 i)) (first_there init_shape.rules rows (codes "FILE") a text_reading stands.0 i))) ∙ same (slice_get (vs (codes "--from")) 0)
  where
    same : (from : Option Text) → named_words (codes "init") (init_words_by a b None None from) ≡ option_map (λ words. codes "init" ∷ words) (init_words (a ∷ b ∷ []) from)
    same None = refl
    same (Some from) = refl
init_reads rows (a ∷ b ∷ c ∷ []) vs stands fits chosen are = (λ i. named_words (codes "init") (option_and_then (λ file. option_and_then (λ group. init_words_by file group (first_there init_shape.rules rows (codes "OWN") c text_reading stands.1.1.0 i) (all_missing init_shape.rules rows (codes "NAMES") (inl refl, (inl refl, (inl refl, (inr refl, (inl refl, (inl refl, tt)))))) stands.1.1.1 i) (value_there init_shape.rules rows (codes "FROM") (vs (codes "--from")) (inl refl, (inl refl, (inl refl, (inl refl, (inr refl, (inl refl, tt)))))) (chosen from_option (inl refl)) i)) (first_there init_shape.rules rows (codes "GROUP") b text_reading stands.1.0 i)) (first_there init_shape.rules rows (codes "FILE") a text_reading stands.0 i))) ∙ same (slice_get (vs (codes "--from")) 0)
  where
    same : (from : Option Text) → named_words (codes "init") (init_words_by a b (Some c) None from) ≡ option_map (λ words. codes "init" ∷ words) (init_words (a ∷ b ∷ c ∷ []) from)
    same None = refl
    same (Some from) = refl
init_reads rows (a ∷ b ∷ c ∷ d ∷ ws) vs stands fits chosen are = (λ i. named_words (codes "init") (option_and_then (λ file. option_and_then (λ group. init_words_by file group (first_there init_shape.rules rows (codes "OWN") c text_reading stands.1.1.0 i) (all_there init_shape.rules rows (codes "NAMES") (d ∷ ws) stands.1.1.1 i) (value_there init_shape.rules rows (codes "FROM") (vs (codes "--from")) (inl refl, (inl refl, (inl refl, (inl refl, (inr refl, (inl refl, tt)))))) (chosen from_option (inl refl)) i)) (first_there init_shape.rules rows (codes "GROUP") b text_reading stands.1.0 i)) (first_there init_shape.rules rows (codes "FILE") a text_reading stands.0 i))) ∙ same (slice_get (vs (codes "--from")) 0)
  where
    same : (from : Option Text) → named_words (codes "init") (init_words_by a b (Some c) (Some (d ∷ ws)) from) ≡ option_map (λ words. codes "init" ∷ words) (init_words (a ∷ b ∷ c ∷ d ∷ ws) from)
    same None = refl
    same (Some from) = refl

pub init_takes : Takes init_plan
unfolding IsRefused held node_on_words
init_takes = record {
  is = init_is;
  options = (inl (refl, refl, init_from), tt);
  told = told_by init_shape (from_option ∷ []) init_long init_short;
  places = (record { rule = unwrap_or (arg_by_index init_shape.rules 1) file_rule; is = refl; single = refl; lone = refl; short = refl; called = refl; place_then = refl }, once_by init_shape text_reading (codes "FILE") (λ rows v. refl) (λ rows v. refl), (record { rule = unwrap_or (arg_by_index init_shape.rules 2) file_rule; is = refl; single = refl; lone = refl; short = refl; called = refl; place_then = refl }, once_by init_shape text_reading (codes "GROUP") (λ rows v. refl) (λ rows v. refl), (record { rule = unwrap_or (arg_by_index init_shape.rules 3) file_rule; is = refl; single = refl; lone = refl; short = refl; called = refl; place_then = refl }, once_by init_shape text_reading (codes "OWN") (λ rows v. refl) (λ rows v. refl), (record { rule = unwrap_or (arg_by_index init_shape.rules 4) file_rule; is = refl; single = refl; lone = refl; short = refl; called = refl; place_then = refl }, record { clean = λ rows v. refl; gives = λ rows v. refl }))));
  places_apart = refl;
  options_apart = refl;
  ids_apart = refl;
  names_apart = refl;
  checks = λ rows. refl;
  quiet = (inl refl, (inl refl, (inl refl, (inl refl, (inl refl, (inl refl, tt))))));
  no_default = ((inr refl, (inl refl, (inl refl, (inl refl, (inl refl, (inl refl, tt)))))), ((inl refl, (inr refl, (inl refl, (inl refl, (inl refl, (inl refl, tt)))))), tt));
  listed = refl;
  fits = fits_more (codes "FILE") (codes "GROUP") (codes "OWN") (codes "NAMES");
  taken = taken_more (codes "FILE") (codes "GROUP") (codes "OWN") (codes "NAMES");
  reads = init_reads;
}

-- ---- set and add, which differ in their names alone

module _ (command : Text) where
  abbrev entry_shape : Shape
  entry_shape = record (shape_behind (codes "set")) { name = command }

  abbrev pub entry_plan : Plan
  entry_plan = record {
    command = command;
    shape = entry_shape;
    required = codes "FILE" ∷ codes "PATH" ∷ codes "VALUE" ∷ [];
    optional = [];
    more = None;
    known = text_option ∷ changed_option ∷ [];
    with_options = put_with;
  }

  entry_text : IsFlag entry_shape flag_reading (codes "--text") (codes "TEXT")
  unfolding IsRefused node_on_words
  entry_text = record { at_free = at_both (IsFlagAt entry_shape flag_reading (codes "--text") (codes "TEXT")) (record { uses = λ h position. refl; turn = λ h position. refl }) (record { uses = λ h position. refl; turn = λ h position. refl }); other = λ h is. refused_first (settles entry_shape h) _ is; valued = λ v h skip. tt }

  entry_if_changed : IsFlag entry_shape flag_reading (codes "--if-changed") (codes "IF_CHANGED")
  unfolding IsRefused node_on_words
  entry_if_changed = record { at_free = at_both (IsFlagAt entry_shape flag_reading (codes "--if-changed") (codes "IF_CHANGED")) (record { uses = λ h position. refl; turn = λ h position. refl }) (record { uses = λ h position. refl; turn = λ h position. refl }); other = λ h is. refused_first (settles entry_shape h) _ is; valued = λ v h skip. tt }

  entry_long : (name : Text) → ((o : Chosen (text_option ∷ changed_option ∷ [])) × (name ≡ o.0.bare)) ⊎ IsRequest entry_shape (arg_by_long entry_shape.rules name)
  unfolding IsRefused node_on_words
  entry_long name =
      found_other entry_shape (λ a. has_long a name) ((o : Chosen (text_option ∷ changed_option ∷ [])) × (name ≡ o.0.bare)) entry_shape.rules
      (inl refl, (inl refl, (inl refl, (inr (inr (λ e. ((text_option, inl refl), is_name (codes "text") name e))), (inr (inr (λ e. ((changed_option, inr (inl refl)), is_name (codes "if-changed") name e))), (inr (inl (refl, λ rows. tt)), tt))))))

  entry_short : HasShortRequests entry_shape
  unfolding IsRefused node_on_words
  entry_short = short_by entry_shape (λ character. (inl refl, (inl refl, (inl refl, (inr (inr is_none), (inr (inr is_none), (inr (inl (refl, λ rows. tt)), tt)))))))

  entry_reads : ((rows : List Row) → words_in (Some (command, rows)) ≡ named_words command (changed_words_in rows)) → (rows : List Row) (ws : List Text) (vs : Text → List Text) → AreAt (ids_of entry_plan) (entry_plan.more) ws rows → Fits (entry_plan.required) (entry_plan.optional) (entry_plan.more) ws
      → AreChosen (entry_plan.known) vs rows → AreTrue (entry_plan.known) vs
      → words_in (Some (entry_shape.name, fold with_default rows entry_shape.rules)) ≡ option_map (λ words. command ∷ words) (entry_plan.with_options.words_for ws vs)
  unfolding node_on_words
  entry_reads named rows ([]) vs stands fits chosen are = absurd fits
  entry_reads named rows (a ∷ []) vs stands fits chosen are = absurd fits
  entry_reads named rows (a ∷ b ∷ []) vs stands fits chosen are = absurd fits
  entry_reads named rows (a ∷ b ∷ c ∷ []) vs stands fits chosen are = named (fold with_default rows entry_shape.rules) ∙ (λ i. named_words command (option_map (changed_words (flag_given entry_shape.rules rows (codes "IF_CHANGED") (vs (codes "--if-changed")) (inr (refl, inr (refl, inr (refl, inr (refl, inl (refl, refl)))))) (are changed_option (inr (inl refl)) refl) (chosen changed_option (inr (inl refl))) i)) (option_map (λ words. words ++ (if flag_given entry_shape.rules rows (codes "TEXT") (vs (codes "--text")) (inr (refl, inr (refl, inr (refl, inl (refl, refl))))) (are text_option (inl refl) refl) (chosen text_option (inl refl)) i then codes "--text" ∷ [] else [])) (joined (first_there entry_shape.rules rows (codes "FILE") a text_reading stands.0 i ∷ first_there entry_shape.rules rows (codes "PATH") b text_reading stands.1.0 i ∷ first_there entry_shape.rules rows (codes "VALUE") c text_reading stands.1.1.0 i ∷ [])))))
  entry_reads named rows (a ∷ b ∷ c ∷ d ∷ ws) vs stands fits chosen are = absurd fits

  pub entry_takes : IsCommand command entry_shape → ((rows : List Row) → words_in (Some (command, rows)) ≡ named_words command (changed_words_in rows)) → Takes entry_plan
  unfolding IsRefused held node_on_words
  entry_takes is named = record {
    is = is;
    options = (inr (refl, entry_text), (inr (refl, entry_if_changed), tt));
    told = told_by entry_shape (text_option ∷ changed_option ∷ []) entry_long entry_short;
    places = (record { rule = unwrap_or (arg_by_index entry_shape.rules 1) file_rule; is = refl; single = refl; lone = refl; short = refl; called = refl; place_then = refl }, once_by entry_shape text_reading (codes "FILE") (λ rows v. refl) (λ rows v. refl), (record { rule = unwrap_or (arg_by_index entry_shape.rules 2) file_rule; is = refl; single = refl; lone = refl; short = refl; called = refl; place_then = refl }, once_by entry_shape text_reading (codes "PATH") (λ rows v. refl) (λ rows v. refl), (record { rule = unwrap_or (arg_by_index entry_shape.rules 3) file_rule; is = refl; single = refl; lone = refl; short = refl; called = refl; place_then = refl }, once_by entry_shape text_reading (codes "VALUE") (λ rows v. refl) (λ rows v. refl), λ h. tt)));
    places_apart = refl;
    options_apart = refl;
    ids_apart = refl;
    names_apart = refl;
    checks = λ rows. refl;
    quiet = (inl refl, (inl refl, (inl refl, (inr refl, (inr refl, (inl refl, tt))))));
    no_default = ((inr refl, (inl refl, (inl refl, (inl refl, (inl refl, (inl refl, tt)))))), ((inl refl, (inr refl, (inl refl, (inl refl, (inl refl, (inl refl, tt)))))), ((inl refl, (inl refl, (inr refl, (inl refl, (inl refl, (inl refl, tt)))))), tt)));
    listed = refl;
    fits = fits_three (codes "FILE") (codes "PATH") (codes "VALUE");
    taken = taken_three (codes "FILE") (codes "PATH") (codes "VALUE");
    reads = entry_reads named;
  }

abbrev pub set_plan : Plan
set_plan = entry_plan (codes "set")

pub set_is : IsCommand (codes "set") (shape_behind (codes "set"))
unfolding node_on_words
set_is = record { met = (refl, refl); found = refl; short = all_short (shape_behind (codes "set")).rules refl }

pub set_takes : Takes set_plan
unfolding node_on_words
set_takes = entry_takes (codes "set") set_is (λ rows. refl)

abbrev pub add_plan : Plan
add_plan = entry_plan (codes "add")

pub add_is : IsCommand (codes "add") (shape_behind (codes "add"))
unfolding node_on_words
add_is = record { met = (refl, refl); found = refl; short = all_short (shape_behind (codes "add")).rules refl }

pub add_takes : Takes add_plan
unfolding node_on_words
add_takes = entry_takes (codes "add") add_is (λ rows. refl)

-- ---- del

abbrev del_shape : Shape
del_shape = shape_behind (codes "del")

abbrev pub del_plan : Plan
del_plan = record {
  command = codes "del";
  shape = del_shape;
  required = codes "FILE" ∷ codes "PATH" ∷ codes "VALUE" ∷ [];
  optional = [];
  more = None;
  known = text_option ∷ [];
  with_options = del_with;
}

pub del_is : IsCommand (codes "del") del_shape
unfolding node_on_words
del_is = record { met = (refl, refl); found = refl; short = all_short del_shape.rules refl }

del_text : IsFlag del_shape flag_reading (codes "--text") (codes "TEXT")
unfolding IsRefused node_on_words
del_text = record { at_free = at_both (IsFlagAt del_shape flag_reading (codes "--text") (codes "TEXT")) (record { uses = λ h position. refl; turn = λ h position. refl }) (record { uses = λ h position. refl; turn = λ h position. refl }); other = λ h is. refused_first (settles del_shape h) _ is; valued = λ v h skip. tt }

del_long : (name : Text) → ((o : Chosen (text_option ∷ [])) × (name ≡ o.0.bare)) ⊎ IsRequest del_shape (arg_by_long del_shape.rules name)
unfolding IsRefused node_on_words
del_long name =
    found_other del_shape (λ a. has_long a name) ((o : Chosen (text_option ∷ [])) × (name ≡ o.0.bare)) del_shape.rules
    (inl refl, (inl refl, (inl refl, (inr (inr (λ e. ((text_option, inl refl), is_name (codes "text") name e))), (inr (inl (refl, λ rows. tt)), tt)))))

del_short : HasShortRequests del_shape
unfolding IsRefused node_on_words
del_short = short_by del_shape (λ character. (inl refl, (inl refl, (inl refl, (inr (inr is_none), (inr (inl (refl, λ rows. tt)), tt))))))

del_reads : (rows : List Row) (ws : List Text) (vs : Text → List Text) → AreAt (ids_of del_plan) (del_plan.more) ws rows → Fits (del_plan.required) (del_plan.optional) (del_plan.more) ws
    → AreChosen (del_plan.known) vs rows → AreTrue (del_plan.known) vs
    → words_in (Some (del_shape.name, fold with_default rows del_shape.rules)) ≡ option_map (λ words. codes "del" ∷ words) (del_plan.with_options.words_for ws vs)
unfolding node_on_words
del_reads rows ([]) vs stands fits chosen are = absurd fits
del_reads rows (a ∷ []) vs stands fits chosen are = absurd fits
del_reads rows (a ∷ b ∷ []) vs stands fits chosen are = absurd fits
del_reads rows (a ∷ b ∷ c ∷ []) vs stands fits chosen are = λ i. named_words (codes "del") (option_map (λ words. words ++ (if flag_given del_shape.rules rows (codes "TEXT") (vs (codes "--text")) (inr (refl, inr (refl, inr (refl, inl (refl, refl))))) (are text_option (inl refl) refl) (chosen text_option (inl refl)) i then codes "--text" ∷ [] else [])) (joined (first_there del_shape.rules rows (codes "FILE") a text_reading stands.0 i ∷ first_there del_shape.rules rows (codes "PATH") b text_reading stands.1.0 i ∷ first_there del_shape.rules rows (codes "VALUE") c text_reading stands.1.1.0 i ∷ [])))
del_reads rows (a ∷ b ∷ c ∷ d ∷ ws) vs stands fits chosen are = absurd fits

pub del_takes : Takes del_plan
unfolding IsRefused held node_on_words
del_takes = record {
  is = del_is;
  options = (inr (refl, del_text), tt);
  told = told_by del_shape (text_option ∷ []) del_long del_short;
  places = (record { rule = unwrap_or (arg_by_index del_shape.rules 1) file_rule; is = refl; single = refl; lone = refl; short = refl; called = refl; place_then = refl }, once_by del_shape text_reading (codes "FILE") (λ rows v. refl) (λ rows v. refl), (record { rule = unwrap_or (arg_by_index del_shape.rules 2) file_rule; is = refl; single = refl; lone = refl; short = refl; called = refl; place_then = refl }, once_by del_shape text_reading (codes "PATH") (λ rows v. refl) (λ rows v. refl), (record { rule = unwrap_or (arg_by_index del_shape.rules 3) file_rule; is = refl; single = refl; lone = refl; short = refl; called = refl; place_then = refl }, once_by del_shape text_reading (codes "VALUE") (λ rows v. refl) (λ rows v. refl), λ h. tt)));
  places_apart = refl;
  options_apart = refl;
  ids_apart = refl;
  names_apart = refl;
  checks = λ rows. refl;
  quiet = (inl refl, (inl refl, (inl refl, (inr refl, (inl refl, tt)))));
  no_default = ((inr refl, (inl refl, (inl refl, (inl refl, (inl refl, tt))))), ((inl refl, (inr refl, (inl refl, (inl refl, (inl refl, tt))))), ((inl refl, (inl refl, (inr refl, (inl refl, (inl refl, tt))))), tt)));
  listed = refl;
  fits = fits_three (codes "FILE") (codes "PATH") (codes "VALUE");
  taken = taken_three (codes "FILE") (codes "PATH") (codes "VALUE");
  reads = del_reads;
}

-- ---- get

abbrev get_shape : Shape
get_shape = shape_behind (codes "get")

abbrev pub get_plan : Plan
get_plan = record {
  command = codes "get";
  shape = get_shape;
  required = codes "FILE" ∷ codes "PATH" ∷ [];
  optional = [];
  more = None;
  known = raw_option ∷ register_option ∷ set_option ∷ counter_option ∷ [];
  with_options = get_with;
}

pub get_is : IsCommand (codes "get") get_shape
unfolding node_on_words
get_is = record { met = (refl, refl); found = refl; short = all_short get_shape.rules refl }

get_raw : IsFlag get_shape flag_reading (codes "--raw") (codes "RAW")
unfolding IsRefused node_on_words
get_raw = record { at_free = at_both (IsFlagAt get_shape flag_reading (codes "--raw") (codes "RAW")) (record { uses = λ h position. refl; turn = λ h position. refl }) (record { uses = λ h position. refl; turn = λ h position. refl }); other = λ h is. refused_first (settles get_shape h) _ is; valued = λ v h skip. tt }

get_reg : IsFlag get_shape flag_reading (codes "--reg") (codes "REG")
unfolding IsRefused node_on_words
get_reg = record { at_free = at_both (IsFlagAt get_shape flag_reading (codes "--reg") (codes "REG")) (record { uses = λ h position. refl; turn = λ h position. refl }) (record { uses = λ h position. refl; turn = λ h position. refl }); other = λ h is. refused_first (settles get_shape h) _ is; valued = λ v h skip. tt }

get_set : IsFlag get_shape flag_reading (codes "--set") (codes "SET")
unfolding IsRefused node_on_words
get_set = record { at_free = at_both (IsFlagAt get_shape flag_reading (codes "--set") (codes "SET")) (record { uses = λ h position. refl; turn = λ h position. refl }) (record { uses = λ h position. refl; turn = λ h position. refl }); other = λ h is. refused_first (settles get_shape h) _ is; valued = λ v h skip. tt }

get_counter : IsFlag get_shape flag_reading (codes "--counter") (codes "COUNTER")
unfolding IsRefused node_on_words
get_counter = record { at_free = at_both (IsFlagAt get_shape flag_reading (codes "--counter") (codes "COUNTER")) (record { uses = λ h position. refl; turn = λ h position. refl }) (record { uses = λ h position. refl; turn = λ h position. refl }); other = λ h is. refused_first (settles get_shape h) _ is; valued = λ v h skip. tt }

get_long : (name : Text) → ((o : Chosen (raw_option ∷ register_option ∷ set_option ∷ counter_option ∷ [])) × (name ≡ o.0.bare)) ⊎ IsRequest get_shape (arg_by_long get_shape.rules name)
unfolding IsRefused node_on_words
get_long name =
    found_other get_shape (λ a. has_long a name) ((o : Chosen (raw_option ∷ register_option ∷ set_option ∷ counter_option ∷ [])) × (name ≡ o.0.bare)) get_shape.rules
    (inl refl, (inl refl, (inr (inr (λ e. ((raw_option, inl refl), is_name (codes "raw") name e))), (inr (inr (λ e. ((register_option, inr (inl refl)), is_name (codes "reg") name e))), (inr (inr (λ e. ((set_option, inr (inr (inl refl))), is_name (codes "set") name e))), (inr (inr (λ e. ((counter_option, inr (inr (inr (inl refl)))), is_name (codes "counter") name e))), (inr (inl (refl, λ rows. tt)), tt)))))))

get_short : HasShortRequests get_shape
unfolding IsRefused node_on_words
get_short = short_by get_shape (λ character. (inl refl, (inl refl, (inr (inr is_none), (inr (inr is_none), (inr (inr is_none), (inr (inr is_none), (inr (inl (refl, λ rows. tt)), tt))))))))

get_reads : (rows : List Row) (ws : List Text) (vs : Text → List Text) → AreAt (ids_of get_plan) (get_plan.more) ws rows → Fits (get_plan.required) (get_plan.optional) (get_plan.more) ws
    → AreChosen (get_plan.known) vs rows → AreTrue (get_plan.known) vs
    → words_in (Some (get_shape.name, fold with_default rows get_shape.rules)) ≡ option_map (λ words. codes "get" ∷ words) (get_plan.with_options.words_for ws vs)
unfolding node_on_words
get_reads rows ([]) vs stands fits chosen are = absurd fits
get_reads rows (a ∷ []) vs stands fits chosen are = absurd fits
get_reads rows (a ∷ b ∷ []) vs stands fits chosen are = λ i. named_words (codes "get") (option_and_then (λ words. option_map (λ kind. words ++ kind) (raw_words (flag_given get_shape.rules rows (codes "RAW") (vs (codes "--raw")) (inr (refl, inr (refl, inl (refl, refl)))) (are raw_option (inl refl) refl) (chosen raw_option (inl refl)) i) (flag_given get_shape.rules rows (codes "REG") (vs (codes "--reg")) (inr (refl, inr (refl, inr (refl, inl (refl, refl))))) (are register_option (inr (inl refl)) refl) (chosen register_option (inr (inl refl))) i) (flag_given get_shape.rules rows (codes "SET") (vs (codes "--set")) (inr (refl, inr (refl, inr (refl, inr (refl, inl (refl, refl)))))) (are set_option (inr (inr (inl refl))) refl) (chosen set_option (inr (inr (inl refl)))) i) (flag_given get_shape.rules rows (codes "COUNTER") (vs (codes "--counter")) (inr (refl, inr (refl, inr (refl, inr (refl, inr (refl, inl (refl, refl))))))) (are counter_option (inr (inr (inr (inl refl)))) refl) (chosen counter_option (inr (inr (inr (inl refl))))) i))) (joined (first_there get_shape.rules rows (codes "FILE") a text_reading stands.0 i ∷ first_there get_shape.rules rows (codes "PATH") b text_reading stands.1.0 i ∷ [])))
get_reads rows (a ∷ b ∷ c ∷ ws) vs stands fits chosen are = absurd fits

pub get_takes : Takes get_plan
unfolding IsRefused held node_on_words
get_takes = record {
  is = get_is;
  options = (inr (refl, get_raw), (inr (refl, get_reg), (inr (refl, get_set), (inr (refl, get_counter), tt))));
  told = told_by get_shape (raw_option ∷ register_option ∷ set_option ∷ counter_option ∷ []) get_long get_short;
  places = (record { rule = unwrap_or (arg_by_index get_shape.rules 1) file_rule; is = refl; single = refl; lone = refl; short = refl; called = refl; place_then = refl }, once_by get_shape text_reading (codes "FILE") (λ rows v. refl) (λ rows v. refl), (record { rule = unwrap_or (arg_by_index get_shape.rules 2) file_rule; is = refl; single = refl; lone = refl; short = refl; called = refl; place_then = refl }, once_by get_shape text_reading (codes "PATH") (λ rows v. refl) (λ rows v. refl), λ h. tt));
  places_apart = refl;
  options_apart = refl;
  ids_apart = refl;
  names_apart = refl;
  checks = λ rows. refl;
  quiet = (inl refl, (inl refl, (inr refl, (inr refl, (inr refl, (inr refl, (inl refl, tt)))))));
  no_default = ((inr refl, (inl refl, (inl refl, (inl refl, (inl refl, (inl refl, (inl refl, tt))))))), ((inl refl, (inr refl, (inl refl, (inl refl, (inl refl, (inl refl, (inl refl, tt))))))), tt));
  listed = refl;
  fits = fits_two (codes "FILE") (codes "PATH") [];
  taken = taken_two (codes "FILE") (codes "PATH") [];
  reads = get_reads;
}

-- ---- show

abbrev show_shape : Shape
show_shape = shape_behind (codes "show")

abbrev pub show_plan : Plan
show_plan = record {
  command = codes "show";
  shape = show_shape;
  required = codes "FILE" ∷ [];
  optional = codes "PATH" ∷ [];
  more = None;
  known = pretty_option ∷ [];
  with_options = show_with;
}

pub show_is : IsCommand (codes "show") show_shape
unfolding node_on_words
show_is = record { met = (refl, refl); found = refl; short = all_short show_shape.rules refl }

show_pretty : IsFlag show_shape flag_reading (codes "--pretty") (codes "PRETTY")
unfolding IsRefused node_on_words
show_pretty = record { at_free = at_both (IsFlagAt show_shape flag_reading (codes "--pretty") (codes "PRETTY")) (record { uses = λ h position. refl; turn = λ h position. refl }) (record { uses = λ h position. refl; turn = λ h position. refl }); other = λ h is. refused_first (settles show_shape h) _ is; valued = λ v h skip. tt }

show_long : (name : Text) → ((o : Chosen (pretty_option ∷ [])) × (name ≡ o.0.bare)) ⊎ IsRequest show_shape (arg_by_long show_shape.rules name)
unfolding IsRefused node_on_words
show_long name =
    found_other show_shape (λ a. has_long a name) ((o : Chosen (pretty_option ∷ [])) × (name ≡ o.0.bare)) show_shape.rules
    (inl refl, (inl refl, (inr (inr (λ e. ((pretty_option, inl refl), is_name (codes "pretty") name e))), (inr (inl (refl, λ rows. tt)), tt))))

show_short : HasShortRequests show_shape
unfolding IsRefused node_on_words
show_short = short_by show_shape (λ character. (inl refl, (inl refl, (inr (inr is_none), (inr (inl (refl, λ rows. tt)), tt)))))

show_reads : (rows : List Row) (ws : List Text) (vs : Text → List Text) → AreAt (ids_of show_plan) (show_plan.more) ws rows → Fits (show_plan.required) (show_plan.optional) (show_plan.more) ws
    → AreChosen (show_plan.known) vs rows → AreTrue (show_plan.known) vs
    → words_in (Some (show_shape.name, fold with_default rows show_shape.rules)) ≡ option_map (λ words. codes "show" ∷ words) (show_plan.with_options.words_for ws vs)
unfolding node_on_words
show_reads rows ([]) vs stands fits chosen are = absurd fits
show_reads rows (a ∷ []) vs stands fits chosen are = λ i. named_words (codes "show") (option_map (λ words. words ++ (if flag_given show_shape.rules rows (codes "PRETTY") (vs (codes "--pretty")) (inr (refl, inr (refl, inl (refl, refl)))) (are pretty_option (inl refl) refl) (chosen pretty_option (inl refl)) i then codes "--pretty" ∷ [] else [])) (option_map (λ file. file ∷ unwrap_or (first_missing show_shape.rules rows (codes "PATH") (inl refl, (inr refl, (inl refl, (inl refl, tt)))) stands.1.0 i) [] ∷ []) (first_there show_shape.rules rows (codes "FILE") a text_reading stands.0 i)))
show_reads rows (a ∷ b ∷ []) vs stands fits chosen are = λ i. named_words (codes "show") (option_map (λ words. words ++ (if flag_given show_shape.rules rows (codes "PRETTY") (vs (codes "--pretty")) (inr (refl, inr (refl, inl (refl, refl)))) (are pretty_option (inl refl) refl) (chosen pretty_option (inl refl)) i then codes "--pretty" ∷ [] else [])) (option_map (λ file. file ∷ unwrap_or (first_there show_shape.rules rows (codes "PATH") b text_reading stands.1.0 i) [] ∷ []) (first_there show_shape.rules rows (codes "FILE") a text_reading stands.0 i)))
show_reads rows (a ∷ b ∷ c ∷ ws) vs stands fits chosen are = absurd fits

pub show_takes : Takes show_plan
unfolding IsRefused held node_on_words
show_takes = record {
  is = show_is;
  options = (inr (refl, show_pretty), tt);
  told = told_by show_shape (pretty_option ∷ []) show_long show_short;
  places = (record { rule = unwrap_or (arg_by_index show_shape.rules 1) file_rule; is = refl; single = refl; lone = refl; short = refl; called = refl; place_then = refl }, once_by show_shape text_reading (codes "FILE") (λ rows v. refl) (λ rows v. refl), (record { rule = unwrap_or (arg_by_index show_shape.rules 2) file_rule; is = refl; single = refl; lone = refl; short = refl; called = refl; place_then = refl }, once_by show_shape text_reading (codes "PATH") (λ rows v. refl) (λ rows v. refl), λ h. tt));
  places_apart = refl;
  options_apart = refl;
  ids_apart = refl;
  names_apart = refl;
  checks = λ rows. refl;
  quiet = (inl refl, (inl refl, (inr refl, (inl refl, tt))));
  no_default = ((inr refl, (inl refl, (inl refl, (inl refl, tt)))), tt);
  listed = refl;
  fits = fits_part (codes "FILE") (codes "PATH") [];
  taken = taken_part (codes "FILE") (codes "PATH") [];
  reads = show_reads;
}

-- ---- sync

abbrev sync_shape : Shape
sync_shape = shape_behind (codes "sync")

abbrev pub sync_plan : Plan
sync_plan = record {
  command = codes "sync";
  shape = sync_shape;
  required = codes "FILE" ∷ codes "ADDR" ∷ [];
  optional = [];
  more = None;
  known = timeout_option ∷ token_option ∷ [];
  with_options = sync_with;
}

pub sync_is : IsCommand (codes "sync") sync_shape
unfolding node_on_words
sync_is = record { met = (refl, refl); found = refl; short = all_short sync_shape.rules refl }

sync_timeout : IsValued sync_shape one_value (codes "--timeout") (codes "TIMEOUT")
unfolding IsRefused held node_on_words
sync_timeout = record {
  usage = once_by sync_shape text_reading (codes "TIMEOUT") (λ rows v. refl) (λ rows v. refl);
  bare = λ rows. tt;
  at_free = at_both (IsValuedAt sync_shape (codes "--timeout") (codes "TIMEOUT")) (record { waits = λ h position. refl; turn = λ h position. refl; valued = λ h position v. refl; valued_turn = λ h position v. refl }) (record { waits = λ h position. refl; turn = λ h position. refl; valued = λ h position v. refl; valued_turn = λ h position v. refl });
  other = λ h is. is;
  takes = λ rows position v are.
      let h = held rows (Some (codes "TIMEOUT", [])) in
      let waiting = option (codes "TIMEOUT") in
      (data_next sync_shape.rules h waiting position v are refl, data_turn sync_shape h waiting position v are refl);
  valued_other = λ h v is. refused_first (settles sync_shape h) _ is;
}

sync_token : IsValued sync_shape one_value (codes "--token-file") (codes "TOKEN_FILE")
unfolding IsRefused held node_on_words
sync_token = record {
  usage = once_by sync_shape text_reading (codes "TOKEN_FILE") (λ rows v. refl) (λ rows v. refl);
  bare = λ rows. tt;
  at_free = at_both (IsValuedAt sync_shape (codes "--token-file") (codes "TOKEN_FILE")) (record { waits = λ h position. refl; turn = λ h position. refl; valued = λ h position v. refl; valued_turn = λ h position v. refl }) (record { waits = λ h position. refl; turn = λ h position. refl; valued = λ h position v. refl; valued_turn = λ h position v. refl });
  other = λ h is. is;
  takes = λ rows position v are.
      let h = held rows (Some (codes "TOKEN_FILE", [])) in
      let waiting = option (codes "TOKEN_FILE") in
      (data_next sync_shape.rules h waiting position v are refl, data_turn sync_shape h waiting position v are refl);
  valued_other = λ h v is. refused_first (settles sync_shape h) _ is;
}

sync_long : (name : Text) → ((o : Chosen sync_plan.known) × (name ≡ o.0.bare)) ⊎ IsRequest sync_shape (arg_by_long sync_shape.rules name)
unfolding IsRefused node_on_words
sync_long name =
    found_other sync_shape (λ a. has_long a name) ((o : Chosen sync_plan.known) × (name ≡ o.0.bare)) sync_shape.rules
    (inl refl, (inl refl, (inr (inr (λ e. ((timeout_option, inl refl), is_name (codes "timeout") name e))), (inr (inr (λ e. ((token_option, inr (inl refl)), is_name (codes "token-file") name e))), (inr (inl (refl, λ rows. tt)), tt)))))

sync_short : HasShortRequests sync_shape
unfolding IsRefused node_on_words
sync_short = short_by sync_shape (λ character. (inl refl, (inl refl, (inr (inr is_none), (inr (inr is_none), (inr (inl (refl, λ rows. tt)), tt))))))

sync_reads : (rows : List Row) (ws : List Text) (vs : Text → List Text) → AreAt (ids_of sync_plan) (sync_plan.more) ws rows → Fits (sync_plan.required) (sync_plan.optional) (sync_plan.more) ws
    → AreChosen (sync_plan.known) vs rows → AreTrue (sync_plan.known) vs
    → words_in (Some (sync_shape.name, fold with_default rows sync_shape.rules)) ≡ option_map (λ words. codes "sync" ∷ words) (sync_plan.with_options.words_for ws vs)
unfolding node_on_words
sync_reads rows ([]) vs stands fits chosen are = absurd fits
sync_reads rows (a ∷ []) vs stands fits chosen are = absurd fits
sync_reads rows (a ∷ b ∷ []) vs stands fits chosen are =
    let file_is = first_there sync_shape.rules rows (codes "FILE") a text_reading stands.0 in
    let addr_is = first_there sync_shape.rules rows (codes "ADDR") b text_reading stands.1.0 in
    let timeout_is = value_given sync_shape.rules rows (codes "TIMEOUT") (codes "60") (vs (codes "--timeout")) (inr (refl, inr (refl, inl (refl, refl)))) (chosen timeout_option (inl refl)) in
    let token_is = value_there sync_shape.rules rows (codes "TOKEN_FILE") (vs (codes "--token-file")) (inl refl, (inl refl, (inl refl, (inr refl, (inl refl, tt))))) (chosen token_option (inr (inl refl))) in
    λ i. named_words (codes "sync") (option_map (λ words. words ++ token_words (token_is i)) (joined (file_is i ∷ addr_is i ∷ timeout_is i ∷ [])))
sync_reads rows (a ∷ b ∷ c ∷ ws) vs stands fits chosen are = absurd fits

pub sync_takes : Takes sync_plan
unfolding IsRefused held node_on_words
sync_takes = record {
  is = sync_is;
  options = (inl (refl, refl, sync_timeout), (inl (refl, refl, sync_token), tt));
  told = told_by sync_shape sync_plan.known sync_long sync_short;
  places = (record { rule = unwrap_or (arg_by_index sync_shape.rules 1) file_rule; is = refl; single = refl; lone = refl; short = refl; called = refl; place_then = refl }, once_by sync_shape text_reading (codes "FILE") (λ rows v. refl) (λ rows v. refl), (record { rule = unwrap_or (arg_by_index sync_shape.rules 2) file_rule; is = refl; single = refl; lone = refl; short = refl; called = refl; place_then = refl }, once_by sync_shape text_reading (codes "ADDR") (λ rows v. refl) (λ rows v. refl), λ h. tt));
  places_apart = refl;
  options_apart = refl;
  ids_apart = refl;
  names_apart = refl;
  checks = λ rows. refl;
  quiet = (inl refl, (inl refl, (inr refl, (inl refl, (inl refl, tt)))));
  no_default = ((inr refl, (inl refl, (inl refl, (inl refl, (inl refl, tt))))), ((inl refl, (inr refl, (inl refl, (inl refl, (inl refl, tt))))), tt));
  listed = refl;
  fits = fits_two (codes "FILE") (codes "ADDR") [];
  taken = taken_two (codes "FILE") (codes "ADDR") [];
  reads = sync_reads;
}

-- ---- serve

abbrev serve_shape : Shape
serve_shape = shape_behind (codes "serve")

abbrev pub serve_plan : Plan
serve_plan = record {
  command = codes "serve";
  shape = serve_shape;
  required = codes "FILE" ∷ codes "ADDR" ∷ [];
  optional = [];
  more = None;
  known = sessions_option ∷ timeout_option ∷ [];
  with_options = serve_with;
}

pub serve_is : IsCommand (codes "serve") serve_shape
unfolding node_on_words
serve_is = record { met = (refl, refl); found = refl; short = all_short serve_shape.rules refl }

serve_sessions : IsValued serve_shape one_value (codes "--sessions") (codes "SESSIONS")
unfolding IsRefused held node_on_words
serve_sessions = record {
  usage = once_by serve_shape text_reading (codes "SESSIONS") (λ rows v. refl) (λ rows v. refl);
  bare = λ rows. tt;
  at_free = at_both (IsValuedAt serve_shape (codes "--sessions") (codes "SESSIONS")) (record { waits = λ h position. refl; turn = λ h position. refl; valued = λ h position v. refl; valued_turn = λ h position v. refl }) (record { waits = λ h position. refl; turn = λ h position. refl; valued = λ h position v. refl; valued_turn = λ h position v. refl });
  other = λ h is. is;
  takes = λ rows position v are.
      let h = held rows (Some (codes "SESSIONS", [])) in
      let waiting = option (codes "SESSIONS") in
      (data_next serve_shape.rules h waiting position v are refl, data_turn serve_shape h waiting position v are refl);
  valued_other = λ h v is. refused_first (settles serve_shape h) _ is;
}

serve_timeout : IsValued serve_shape one_value (codes "--timeout") (codes "TIMEOUT")
unfolding IsRefused held node_on_words
serve_timeout = record {
  usage = once_by serve_shape text_reading (codes "TIMEOUT") (λ rows v. refl) (λ rows v. refl);
  bare = λ rows. tt;
  at_free = at_both (IsValuedAt serve_shape (codes "--timeout") (codes "TIMEOUT")) (record { waits = λ h position. refl; turn = λ h position. refl; valued = λ h position v. refl; valued_turn = λ h position v. refl }) (record { waits = λ h position. refl; turn = λ h position. refl; valued = λ h position v. refl; valued_turn = λ h position v. refl });
  other = λ h is. is;
  takes = λ rows position v are.
      let h = held rows (Some (codes "TIMEOUT", [])) in
      let waiting = option (codes "TIMEOUT") in
      (data_next serve_shape.rules h waiting position v are refl, data_turn serve_shape h waiting position v are refl);
  valued_other = λ h v is. refused_first (settles serve_shape h) _ is;
}

serve_long : (name : Text) → ((o : Chosen (sessions_option ∷ timeout_option ∷ [])) × (name ≡ o.0.bare)) ⊎ IsRequest serve_shape (arg_by_long serve_shape.rules name)
unfolding IsRefused node_on_words
serve_long name =
    found_other serve_shape (λ a. has_long a name) ((o : Chosen (sessions_option ∷ timeout_option ∷ [])) × (name ≡ o.0.bare)) serve_shape.rules
    (inl refl, (inl refl, (inr (inr (λ e. ((sessions_option, inl refl), is_name (codes "sessions") name e))), (inr (inr (λ e. ((timeout_option, inr (inl refl)), is_name (codes "timeout") name e))), (inr (inl (refl, λ rows. tt)), tt)))))

serve_short : HasShortRequests serve_shape
unfolding IsRefused node_on_words
serve_short = short_by serve_shape (λ character. (inl refl, (inl refl, (inr (inr is_none), (inr (inr is_none), (inr (inl (refl, λ rows. tt)), tt))))))

serve_reads : (rows : List Row) (ws : List Text) (vs : Text → List Text) → AreAt (ids_of serve_plan) (serve_plan.more) ws rows → Fits (serve_plan.required) (serve_plan.optional) (serve_plan.more) ws
    → AreChosen (serve_plan.known) vs rows → AreTrue (serve_plan.known) vs
    → words_in (Some (serve_shape.name, fold with_default rows serve_shape.rules)) ≡ option_map (λ words. codes "serve" ∷ words) (serve_plan.with_options.words_for ws vs)
unfolding node_on_words
serve_reads rows ([]) vs stands fits chosen are = absurd fits
serve_reads rows (a ∷ []) vs stands fits chosen are = absurd fits
serve_reads rows (a ∷ b ∷ []) vs stands fits chosen are = λ i. named_words (codes "serve") (joined (first_there serve_shape.rules rows (codes "FILE") a text_reading stands.0 i ∷ first_there serve_shape.rules rows (codes "ADDR") b text_reading stands.1.0 i ∷ value_given serve_shape.rules rows (codes "SESSIONS") (codes "1") (vs (codes "--sessions")) (inr (refl, inr (refl, inl (refl, refl)))) (chosen sessions_option (inl refl)) i ∷ value_given serve_shape.rules rows (codes "TIMEOUT") (codes "60") (vs (codes "--timeout")) (inr (refl, inr (refl, inr (refl, inl (refl, refl))))) (chosen timeout_option (inr (inl refl))) i ∷ []))
serve_reads rows (a ∷ b ∷ c ∷ ws) vs stands fits chosen are = absurd fits

pub serve_takes : Takes serve_plan
unfolding IsRefused held node_on_words
serve_takes = record {
  is = serve_is;
  options = (inl (refl, refl, serve_sessions), (inl (refl, refl, serve_timeout), tt));
  told = told_by serve_shape (sessions_option ∷ timeout_option ∷ []) serve_long serve_short;
  places = (record { rule = unwrap_or (arg_by_index serve_shape.rules 1) file_rule; is = refl; single = refl; lone = refl; short = refl; called = refl; place_then = refl }, once_by serve_shape text_reading (codes "FILE") (λ rows v. refl) (λ rows v. refl), (record { rule = unwrap_or (arg_by_index serve_shape.rules 2) file_rule; is = refl; single = refl; lone = refl; short = refl; called = refl; place_then = refl }, once_by serve_shape text_reading (codes "ADDR") (λ rows v. refl) (λ rows v. refl), λ h. tt));
  places_apart = refl;
  options_apart = refl;
  ids_apart = refl;
  names_apart = refl;
  checks = λ rows. refl;
  quiet = (inl refl, (inl refl, (inr refl, (inr refl, (inl refl, tt)))));
  no_default = ((inr refl, (inl refl, (inl refl, (inl refl, (inl refl, tt))))), ((inl refl, (inr refl, (inl refl, (inl refl, (inl refl, tt))))), tt));
  listed = refl;
  fits = fits_two (codes "FILE") (codes "ADDR") [];
  taken = taken_two (codes "FILE") (codes "ADDR") [];
  reads = serve_reads;
}

-- ---- run

abbrev run_shape : Shape
run_shape = shape_behind (codes "run")

abbrev pub run_plan : Plan
run_plan = record {
  command = codes "run";
  shape = run_shape;
  required = codes "FILE" ∷ [];
  optional = [];
  more = None;
  known = http_option ∷ peers_option ∷ every_option ∷ token_option ∷ open_option ∷ log_option ∷ [];
  with_options = run_with;
}

pub run_is : IsCommand (codes "run") run_shape
unfolding node_on_words
run_is = record { met = (refl, refl); found = refl; short = all_short run_shape.rules refl }

run_http : IsValued run_shape one_value (codes "--http") (codes "HTTP")
unfolding IsRefused held node_on_words
run_http = record {
  usage = once_by run_shape text_reading (codes "HTTP") (λ rows v. refl) (λ rows v. refl);
  bare = λ rows. tt;
  at_free = at_both (IsValuedAt run_shape (codes "--http") (codes "HTTP")) (record { waits = λ h position. refl; turn = λ h position. refl; valued = λ h position v. refl; valued_turn = λ h position v. refl }) (record { waits = λ h position. refl; turn = λ h position. refl; valued = λ h position v. refl; valued_turn = λ h position v. refl });
  other = λ h is. is;
  takes = λ rows position v are.
      let h = held rows (Some (codes "HTTP", [])) in
      let waiting = option (codes "HTTP") in
      (data_next run_shape.rules h waiting position v are refl, data_turn run_shape h waiting position v are refl);
  valued_other = λ h v is. refused_first (settles run_shape h) _ is;
}

run_peers : IsValued run_shape many_values (codes "--peer") (codes "PEERS")
unfolding IsRefused held node_on_words
run_peers = record {
  usage = record { clean = λ rows v. refl; gives = λ rows v. refl };
  bare = λ rows. tt;
  at_free = at_both (IsValuedAt run_shape (codes "--peer") (codes "PEERS")) (record { waits = λ h position. refl; turn = λ h position. refl; valued = λ h position v. refl; valued_turn = λ h position v. refl }) (record { waits = λ h position. refl; turn = λ h position. refl; valued = λ h position v. refl; valued_turn = λ h position v. refl });
  other = λ h is. is;
  takes = λ rows position v are.
      let h = held rows (Some (codes "PEERS", [])) in
      let waiting = option (codes "PEERS") in
      (data_next run_shape.rules h waiting position v are refl, data_turn run_shape h waiting position v are refl);
  valued_other = λ h v is. refused_first (settles run_shape h) _ is;
}

run_every : IsValued run_shape one_value (codes "--every") (codes "EVERY")
unfolding IsRefused held node_on_words
run_every = record {
  usage = once_by run_shape text_reading (codes "EVERY") (λ rows v. refl) (λ rows v. refl);
  bare = λ rows. tt;
  at_free = at_both (IsValuedAt run_shape (codes "--every") (codes "EVERY")) (record { waits = λ h position. refl; turn = λ h position. refl; valued = λ h position v. refl; valued_turn = λ h position v. refl }) (record { waits = λ h position. refl; turn = λ h position. refl; valued = λ h position v. refl; valued_turn = λ h position v. refl });
  other = λ h is. is;
  takes = λ rows position v are.
      let h = held rows (Some (codes "EVERY", [])) in
      let waiting = option (codes "EVERY") in
      (data_next run_shape.rules h waiting position v are refl, data_turn run_shape h waiting position v are refl);
  valued_other = λ h v is. refused_first (settles run_shape h) _ is;
}

run_token : IsValued run_shape one_value (codes "--token-file") (codes "TOKEN_FILE")
unfolding IsRefused held node_on_words
run_token = record {
  usage = once_by run_shape text_reading (codes "TOKEN_FILE") (λ rows v. refl) (λ rows v. refl);
  bare = λ rows. tt;
  at_free = at_both (IsValuedAt run_shape (codes "--token-file") (codes "TOKEN_FILE")) (record { waits = λ h position. refl; turn = λ h position. refl; valued = λ h position v. refl; valued_turn = λ h position v. refl }) (record { waits = λ h position. refl; turn = λ h position. refl; valued = λ h position v. refl; valued_turn = λ h position v. refl });
  other = λ h is. is;
  takes = λ rows position v are.
      let h = held rows (Some (codes "TOKEN_FILE", [])) in
      let waiting = option (codes "TOKEN_FILE") in
      (data_next run_shape.rules h waiting position v are refl, data_turn run_shape h waiting position v are refl);
  valued_other = λ h v is. refused_first (settles run_shape h) _ is;
}

run_open : IsFlag run_shape flag_reading (codes "--open") (codes "OPEN")
unfolding IsRefused node_on_words
run_open = record { at_free = at_both (IsFlagAt run_shape flag_reading (codes "--open") (codes "OPEN")) (record { uses = λ h position. refl; turn = λ h position. refl }) (record { uses = λ h position. refl; turn = λ h position. refl }); other = λ h is. refused_first (settles run_shape h) _ is; valued = λ v h skip. tt }

run_log : IsFlag run_shape flag_reading (codes "--log") (codes "LOG")
unfolding IsRefused node_on_words
run_log = record { at_free = at_both (IsFlagAt run_shape flag_reading (codes "--log") (codes "LOG")) (record { uses = λ h position. refl; turn = λ h position. refl }) (record { uses = λ h position. refl; turn = λ h position. refl }); other = λ h is. refused_first (settles run_shape h) _ is; valued = λ v h skip. tt }

run_long : (name : Text) → ((o : Chosen run_plan.known) × (name ≡ o.0.bare)) ⊎ IsRequest run_shape (arg_by_long run_shape.rules name)
unfolding IsRefused node_on_words
run_long name =
    found_other run_shape (λ a. has_long a name) ((o : Chosen run_plan.known) × (name ≡ o.0.bare)) run_shape.rules
    (inl refl, (inr (inr (λ e. ((http_option, inl refl), is_name (codes "http") name e))), (inr (inr (λ e. ((peers_option, inr (inl refl)), is_name (codes "peer") name e))), (inr (inr (λ e. ((every_option, inr (inr (inl refl))), is_name (codes "every") name e))), (inr (inr (λ e. ((token_option, inr (inr (inr (inl refl)))), is_name (codes "token-file") name e))), (inr (inr (λ e. ((open_option, inr (inr (inr (inr (inl refl))))), is_name (codes "open") name e))), (inr (inr (λ e. ((log_option, inr (inr (inr (inr (inr (inl refl)))))), is_name (codes "log") name e))), (inr (inl (refl, λ rows. tt)), tt))))))))

run_short : HasShortRequests run_shape
unfolding IsRefused node_on_words
run_short = short_by run_shape (λ character. (inl refl, (inr (inr is_none), (inr (inr is_none), (inr (inr is_none), (inr (inr is_none), (inr (inr is_none), (inr (inr is_none), (inr (inl (refl, λ rows. tt)), tt)))))))))

run_reads : (rows : List Row) (ws : List Text) (vs : Text → List Text) → AreAt (ids_of run_plan) (run_plan.more) ws rows → Fits (run_plan.required) (run_plan.optional) (run_plan.more) ws
    → AreChosen (run_plan.known) vs rows → AreTrue (run_plan.known) vs
    → words_in (Some (run_shape.name, fold with_default rows run_shape.rules)) ≡ option_map (λ words. codes "run" ∷ words) (run_plan.with_options.words_for ws vs)
unfolding node_on_words
run_reads rows ([]) vs stands fits chosen are = absurd fits
run_reads rows (a ∷ []) vs stands fits chosen are =
    let file_is = first_there run_shape.rules rows (codes "FILE") a text_reading stands.0 in
    let http_is = value_given run_shape.rules rows (codes "HTTP") (codes "127.0.0.1:7780") (vs (codes "--http")) (inr (refl, inl (refl, refl))) (chosen http_option (inl refl)) in
    let peers_are = values_there run_shape.rules rows (codes "PEERS") (vs (codes "--peer")) (inl refl, (inl refl, (inr refl, (inl refl, (inl refl, (inl refl, (inl refl, (inl refl, tt)))))))) (chosen peers_option (inr (inl refl))) in
    let every_is = value_given run_shape.rules rows (codes "EVERY") (codes "10") (vs (codes "--every")) (inr (refl, inr (refl, inr (refl, inl (refl, refl))))) (chosen every_option (inr (inr (inl refl)))) in
    let token_is = value_there run_shape.rules rows (codes "TOKEN_FILE") (vs (codes "--token-file")) (inl refl, (inl refl, (inl refl, (inl refl, (inr refl, (inl refl, (inl refl, (inl refl, tt)))))))) (chosen token_option (inr (inr (inr (inl refl))))) in
    let open_is = flag_given run_shape.rules rows (codes "OPEN") (vs (codes "--open")) (inr (refl, inr (refl, inr (refl, inr (refl, inr (refl, inl (refl, refl))))))) (are open_option (inr (inr (inr (inr (inl refl))))) refl) (chosen open_option (inr (inr (inr (inr (inl refl)))))) in
    let log_is = flag_given run_shape.rules rows (codes "LOG") (vs (codes "--log")) (inr (refl, inr (refl, inr (refl, inr (refl, inr (refl, inr (refl, inl (refl, refl)))))))) (are log_option (inr (inr (inr (inr (inr (inl refl)))))) refl) (chosen log_option (inr (inr (inr (inr (inr (inl refl))))))) in
    λ i. named_words (codes "run") (option_map (λ words. words ++ (peer_words (peers_are i) ++ (access_words (token_is i) (open_is i) ++ log_words (log_is i)))) (joined (file_is i ∷ http_is i ∷ every_is i ∷ [])))
run_reads rows (a ∷ b ∷ ws) vs stands fits chosen are = absurd fits

pub run_takes : Takes run_plan
unfolding IsRefused held node_on_words
run_takes = record {
  is = run_is;
  options = (inl (refl, refl, run_http), (inl (refl, refl, run_peers), (inl (refl, refl, run_every), (inl (refl, refl, run_token), (inr (refl, run_open), (inr (refl, run_log), tt))))));
  told = told_by run_shape run_plan.known run_long run_short;
  places = (record { rule = unwrap_or (arg_by_index run_shape.rules 1) file_rule; is = refl; single = refl; lone = refl; short = refl; called = refl; place_then = refl }, once_by run_shape text_reading (codes "FILE") (λ rows v. refl) (λ rows v. refl), λ h. tt);
  places_apart = refl;
  options_apart = refl;
  ids_apart = refl;
  names_apart = refl;
  checks = λ rows. refl;
  quiet = (inl refl, (inr refl, (inl refl, (inr refl, (inl refl, (inr refl, (inr refl, (inl refl, tt))))))));
  no_default = ((inr refl, (inl refl, (inl refl, (inl refl, (inl refl, (inl refl, (inl refl, (inl refl, tt)))))))), tt);
  listed = refl;
  fits = fits_one (codes "FILE") [] [];
  taken = taken_one (codes "FILE") [] [];
  reads = run_reads;
}
