-- Where words are data, dashes before them change nothing.
use Rattle.std.proofs.Common.{◌≡◌, ◌∙◌, ◌&&◌, ℕ, Bool, List, [], ◌∷◌, ◌++◌, codes, true, false, Option, Some, None, refl, ap, ap₂, sym}
use Rattle.std.specs.Prelude.{fold, find, is_some, if◌then◌else◌, option_map}
use Rattle.std.specs.Option.{option_map_or}
use Rattle.std.proofs.lemmas.List.{append-nil, append_assoc}
use Rattle.clap.specs.Words.{App, Kinds, Row, Rule, Shape, Text}
use Rattle.clap.specs.Kinds.{or_else}
use Rattle.clap.specs.Simple.{entered, label_of, names_of, rows_at}
use Rattle.clap.specs.Faults.{built_fault, check_fault, defaults_fault, entered_fault, level_fault, settle_fault, step_fault, turn_fault, walk_fault}
use Rattle.clap.specs.Walk.{Held, Names, Step, Waiting, Walk, after_step, answers_to, arg_by_index, finished, idle, is_multiple, is_pending, next_position, nothing_held, option, plain_word, positional, positional_held, settled, takes_several, to_positional, value, walk, walk_from, walked, word_met}
use Rattle.rds_words.specs.Written.{is_data, AreData}
use Rattle.rds_names.specs.Conditions.{and_left, and_right}
use Rattle.rds_words.proofs.DataWords.{data_met, data_is_no_fault}

-- a walk that goes on
abbrev pub at : Held → Waiting → ℕ → Bool → Walk
at h waiting position dashed = record { held = h; waiting = waiting; position = position; is_trailing = dashed; stopped = None }

-- no option waits for its value
abbrev pub is_free : Waiting → Bool
is_free idle = true
is_free (option id) = false
is_free positional = true

plain_is_value : (c : List Rule) (waiting : Waiting) (word : Text) (h : Held) → is_free waiting ≡ true → plain_word c waiting word h ≡ (h, value)
plain_is_value c idle word h free = refl
plain_is_value c (option id) word h free = absurd cc
plain_is_value c positional word h free = refl

pub value_met : (c : List Rule) (waiting : Waiting) (position : ℕ) (word : Text) (h : Held) → is_free waiting ≡ true → is_data word ≡ true → h.skip ≡ 0 → word_met c [] false waiting position word h ≡ (h, value)
value_met c waiting position word h free are skip = data_met c waiting position word h are skip ∙ plain_is_value c waiting word h free

pub value_next : (c : List Rule) (h : Held) (waiting : Waiting) (position : ℕ) (word : Text) → is_free waiting ≡ true → is_data word ≡ true → h.skip ≡ 0
    → walked c [] (at h waiting position false) word ≡ to_positional c (arg_by_index c position) word (at h waiting position false) h
unfolding walked
value_next c h waiting position word free are skip = ap (λ (met : Held × Step). after_step c word (at h waiting position false) met.0 met.1) (value_met c waiting position word h free are skip)

pub free_next : (b : Bool) → is_free (if b then positional else idle) ≡ true
free_next true = refl
free_next false = refl

pub next_skip : (c : List Rule) (a : Rule) (word : Text) (h : Held) → h.skip ≡ 0 → (positional_held c a word h).skip ≡ 0
next_skip c a word h skip = of (is_pending a h.pending && takes_several a)
  where
    of : (b : Bool) → (if b then h else settled c h).skip ≡ 0
    of true = skip
    of false = skip

abbrev HeldAlike : List Rule → List Text → Type 0
HeldAlike c words = (h : Held) (waiting : Waiting) (position : ℕ) (dashed : Bool) → is_free waiting ≡ true → h.skip ≡ 0
    → (fold (walked c []) (at h waiting position dashed) words).held ≡ (fold (walked c []) (at h waiting position true) words).held

held_on : (c : List Rule) (word : Text) (words : List Text) → HeldAlike c words → (a : Option Rule) (h : Held) (waiting : Waiting) (position : ℕ) → is_free waiting ≡ true → h.skip ≡ 0
    → (fold (walked c []) (to_positional c a word (at h waiting position false) h) words).held ≡ (fold (walked c []) (to_positional c a word (at h waiting position true) h) words).held
held_on c word words again None h waiting position free skip = again h waiting position false free skip
held_on c word words again (Some a) h waiting position free skip =
    again (positional_held c a word h) (if is_multiple a then positional else idle) (next_position a position) a.trailing_var_arg (free_next (is_multiple a)) (next_skip c a word h skip)

held_step : (c : List Rule) (word : Text) (words : List Text) → is_data word ≡ true → HeldAlike c words → HeldAlike c (word ∷ words)
unfolding walked
held_step c word words are again h waiting position true free skip = refl
held_step c word words are again h waiting position false free skip =
    ap (λ (w : Walk). (fold (walked c []) w words).held) (value_next c h waiting position word free are skip) ∙ held_on c word words again (arg_by_index c position) h waiting position free skip

pub held_alike : (c : List Rule) (words : List Text) → AreData words → HeldAlike c words
held_alike c [] are = λ h waiting position dashed free skip. refl
held_alike c (word ∷ words) are = held_step c word words (and_left (is_data word) _ are) (held_alike c words (and_right (is_data word) _ are))

abbrev FaultAlike : Shape → List Text → Type 0
FaultAlike s words = (h : Held) (waiting : Waiting) (position : ℕ) (dashed : Bool) → is_free waiting ≡ true → h.skip ≡ 0
    → walk_fault s [] (at h waiting position dashed) words ≡ walk_fault s [] (at h waiting position true) words

fault_on : (s : Shape) (word : Text) (words : List Text) → FaultAlike s words → (a : Option Rule) (h : Held) (waiting : Waiting) (position : ℕ) → is_free waiting ≡ true → h.skip ≡ 0
    → walk_fault s [] (to_positional s.rules a word (at h waiting position false) h) words ≡ walk_fault s [] (to_positional s.rules a word (at h waiting position true) h) words
fault_on s word words again None h waiting position free skip = again h waiting position false free skip
fault_on s word words again (Some a) h waiting position free skip =
    again (positional_held s.rules a word h) (if is_multiple a then positional else idle) (next_position a position) a.trailing_var_arg (free_next (is_multiple a)) (next_skip s.rules a word h skip)

pub turn_alike : (s : Shape) (h : Held) (waiting : Waiting) (position : ℕ) (word : Text) → is_free waiting ≡ true → is_data word ≡ true → h.skip ≡ 0
    → turn_fault s [] (at h waiting position false) word ≡ turn_fault s [] (at h waiting position true) word
turn_alike s h waiting position word free are skip = ap₂ (λ (k : Kinds) (met : Held × Step). or_else k (step_fault s position met.0 met.1)) (data_is_no_fault s waiting word h are skip) (value_met s.rules waiting position word h free are skip)

fault_step : (s : Shape) (word : Text) (words : List Text) → is_data word ≡ true → FaultAlike s words → FaultAlike s (word ∷ words)
unfolding walk_fault walked
fault_step s word words are again h waiting position true free skip = refl
fault_step s word words are again h waiting position false free skip =
    ap₂ (λ (k : Kinds) (w : Walk). or_else k (walk_fault s [] w words)) (turn_alike s h waiting position word free are skip) (value_next s.rules h waiting position word free are skip)
    ∙ ap (λ (rest : Kinds). or_else (turn_fault s [] (at h waiting position true) word) rest) (fault_on s word words again (arg_by_index s.rules position) h waiting position free skip)

pub fault_alike : (s : Shape) (words : List Text) → AreData words → FaultAlike s words
unfolding walk_fault
fault_alike s [] are = λ h waiting position dashed free skip. refl
fault_alike s (word ∷ words) are = fault_step s word words (and_left (is_data word) _ are) (fault_alike s words (and_right (is_data word) _ are))

-- ---- a command's own words

rows_alike : (s : Shape) (words : List Text) → AreData words → rows_at s words ≡ rows_at s (codes "--" ∷ words)
unfolding walked
rows_alike s words are = ap (λ (h : Held). (s.name, finished s.rules h)) (held_alike s.rules words are nothing_held idle 1 false refl refl)

level_alike : (s : Shape) (words : List Text) → AreData words → level_fault s [] nothing_held words false [] ≡ level_fault s [] nothing_held (codes "--" ∷ words) false []
unfolding walked walk_fault
level_alike s words are = ap₂ (λ (k : Kinds) (h : Held). or_else k (or_else [] (or_else (settle_fault s.rules s.args_override_self h)
    (or_else (defaults_fault (settled s.rules h).rows s.rules) (check_fault s (finished s.rules h) false)))))
    (fault_alike s words are nothing_held idle 1 false refl refl) (held_alike s.rules words are nothing_held idle 1 false refl refl)

entered_alike : (a : App) (command : Text) (words : List Text) → AreData words → entered a (Some (command, words)) ≡ entered a (Some (command, codes "--" ∷ words))
entered_alike a command words are = of (find (λ s. answers_to command (label_of s)) a.subs)
  where
    of : (found : Option Shape) → option_map (λ s. rows_at s words) found ≡ option_map (λ s. rows_at s (codes "--" ∷ words)) found
    of None = refl
    of (Some s) = ap Some (rows_alike s words are)

below_alike : (a : App) (command : Text) (words : List Text) → AreData words → entered_fault a (Some (command, words)) ≡ entered_fault a (Some (command, codes "--" ∷ words))
below_alike a command words are = of (find (λ s. answers_to command (label_of s)) a.subs)
  where
    of : (found : Option Shape) → option_map_or (λ s. level_fault s [] nothing_held words false []) found [] ≡ option_map_or (λ s. level_fault s [] nothing_held (codes "--" ∷ words) false []) found []
    of None = refl
    of (Some s) = level_alike s words are

-- ---- the words behind a command

-- the walk stops at the command, with nothing held
abbrev pub Meets : App → Text → Type 0
Meets a command = (walked a.top.rules (names_of a) (walk_from nothing_held) command ≡ record (walk_from nothing_held) { stopped = Some (command, []) })
    × (turn_fault a.top (names_of a) (walk_from nothing_held) command ≡ [])

abbrev pub stopped_at : Text → List Text → Walk
stopped_at command words = record (walk_from nothing_held) { stopped = Some (command, words) }

gathers : (c : List Rule) (names : Names) (command : Text) (before words : List Text) → fold (walked c names) (stopped_at command before) words ≡ stopped_at command (before ++ words)
unfolding walked
gathers c names command before [] = ap (stopped_at command) (sym (append-nil before))
gathers c names command before (word ∷ words) = gathers c names command (before ++ word ∷ []) words ∙ ap (stopped_at command) (append_assoc before (word ∷ []) words)

no_more_faults : (s : Shape) (names : Names) (command : Text) (before words : List Text) → walk_fault s names (stopped_at command before) words ≡ []
unfolding walked walk_fault
no_more_faults s names command before [] = refl
no_more_faults s names command before (word ∷ words) = no_more_faults s names command (before ++ word ∷ []) words

walk_behind : (a : App) (command : Text) (words : List Text) → Meets a command → walk a.top.rules (names_of a) nothing_held (command ∷ words) ≡ stopped_at command words
walk_behind a command words meets = ap (λ (w : Walk). fold (walked a.top.rules (names_of a)) w words) meets.0 ∙ gathers a.top.rules (names_of a) command [] words

fault_behind : (a : App) (command : Text) (words : List Text) → Meets a command → walk_fault a.top (names_of a) (walk_from nothing_held) (command ∷ words) ≡ []
unfolding walk_fault
fault_behind a command words meets = ap₂ (λ (k : Kinds) (w : Walk). or_else k (walk_fault a.top (names_of a) w words)) meets.1 meets.0 ∙ no_more_faults a.top (names_of a) command [] words

-- what a command's words come to
abbrev pub comes_to : App → Kinds → Kinds → Walk → Kinds
comes_to a above below w = or_else above (or_else below (or_else (settle_fault a.top.rules a.top.args_override_self w.held)
    (or_else (defaults_fault (settled a.top.rules w.held).rows a.top.rules) (check_fault a.top (finished a.top.rules w.held) (is_some (entered a w.stopped))))))

pub command_fault : (a : App) (command : Text) (words : List Text) → Meets a command
    → built_fault a nothing_held (command ∷ words) ≡ comes_to a [] (entered_fault a (Some (command, words))) (stopped_at command words)
command_fault a command words meets = ap₂ (λ (above : Kinds) (w : Walk). comes_to a above (entered_fault a w.stopped) w) (fault_behind a command words meets) (walk_behind a command words meets)

pub command_rows : (a : App) (command : Text) (words : List Text) → Meets a command
    → entered a (walk a.top.rules (names_of a) nothing_held (command ∷ words)).stopped ≡ entered a (Some (command, words))
command_rows a command words meets = ap (λ (w : Walk). entered a w.stopped) (walk_behind a command words meets)

pub undashed_fault : (a : App) (command : Text) (words : List Text) → Meets a command → AreData words → built_fault a nothing_held (command ∷ words) ≡ built_fault a nothing_held (command ∷ codes "--" ∷ words)
undashed_fault a command words meets are = command_fault a command words meets
    ∙ ap₂ (λ (below : Kinds) (rows : Option (Text × List Row)). or_else [] (or_else below (or_else (settle_fault a.top.rules a.top.args_override_self nothing_held)
    (or_else (defaults_fault (settled a.top.rules nothing_held).rows a.top.rules) (check_fault a.top (finished a.top.rules nothing_held) (is_some rows))))))
    (below_alike a command words are) (entered_alike a command words are)
    ∙ sym (command_fault a command (codes "--" ∷ words) meets)

pub undashed_rows : (a : App) (command : Text) (words : List Text) → Meets a command → AreData words
    → entered a (walk a.top.rules (names_of a) nothing_held (command ∷ words)).stopped ≡ entered a (walk a.top.rules (names_of a) nothing_held (command ∷ codes "--" ∷ words)).stopped
undashed_rows a command words meets are = command_rows a command words meets ∙ entered_alike a command words are ∙ sym (command_rows a command (codes "--" ∷ words) meets)

pub data_next : (c : List Rule) (h : Held) (waiting : Waiting) (position : ℕ) (word : Text) → is_data word ≡ true → h.skip ≡ 0
    → walked c [] (at h waiting position false) word ≡ after_step c word (at h waiting position false) (plain_word c waiting word h).0 (plain_word c waiting word h).1
unfolding walked
data_next c h waiting position word are skip = ap (λ (met : Held × Step). after_step c word (at h waiting position false) met.0 met.1) (data_met c waiting position word h are skip)

pub data_turn : (s : Shape) (h : Held) (waiting : Waiting) (position : ℕ) (word : Text) → is_data word ≡ true → h.skip ≡ 0
    → turn_fault s [] (at h waiting position false) word ≡ step_fault s position (plain_word s.rules waiting word h).0 (plain_word s.rules waiting word h).1
data_turn s h waiting position word are skip =
    ap₂ (λ (k : Kinds) (met : Held × Step). or_else k (step_fault s position met.0 met.1)) (data_is_no_fault s waiting word h are skip) (data_met s.rules waiting position word h are skip)
