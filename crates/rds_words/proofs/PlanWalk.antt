-- The walk over words among which there are options, of a command that takes words at places.
use Rattle.std.proofs.Common.{◌≡◌, ◌⊎◌, ◌∙◌, ◌&&◌, ◌||◌, ◌+◌, ℕ, Bool, true, false, not, List, [], ◌∷◌, ◌++◌, codes, length, Option, Some, None, map, refl, sym, ap, ap₂, subst, inl, inr}
use Rattle.std.specs.Prelude.{⊤, fold, if◌then◌else◌, option_map}
use Rattle.std.specs.List.{list_all}
use Rattle.std.specs.Option.{option_map_or}
use Rattle.std.specs.Str.{bytes_eq}
use Rattle.std.proofs.lemmas.List.{append-nil}
use Rattle.std.proofs.lemmas.Slice.Eq.{bytes_eq-Decides}
use Rattle.clap.specs.Words.{Kinds, Row, Rule, Shape, Text}
use Rattle.clap.specs.Facts.{explicit_source}
use Rattle.clap.specs.Kinds.{check_kinds, or_else}
use Rattle.clap.specs.Faults.{check_fault, defaults_fault, other_fault, settle_fault, step_fault, turn_fault}
use Rattle.clap.specs.Walk.{Held, Waiting, arg_by_index, has_row, idle, is_multiple, is_pending, more_values, next_position, nothing_held, option, positional, positional_held, settled, takes_several, to_positional, value, walked, with_default, with_values, without}
use Rattle.clap.specs.declared.builder.value_parser.Reading.{Reading}
use Rattle.clap.specs.declared.error.kind.ErrorKind.TheVariants as kind
use Rattle.clap.specs.declared.parser.matches.ValueSource.TheVariants.{CommandLine}
use Rattle.rds_names.specs.Conditions.{and_left, and_right}
use Rattle.rds_words.specs.Task.{words_in}
use Rattle.rds_words.specs.Typed.{Form, many_values, no_value, one_value}
use Rattle.rds_words.specs.WithOptions.{WithOptions}
use Rattle.rds_words.specs.Written.{is_data}
use Rattle.rds_words.proofs.Dashed.{at, data_turn, is_free, value_next}
use Rattle.rds_words.proofs.Defaulted.{AreQuiet, HasNoDefault}
use Rattle.rds_words.proofs.Passing.{Steps}
use Rattle.rds_words.proofs.Plans.{AreAt, IsIn, Keeps, Known, all_in, are_apart, at_kept, differ, is_apart, more_ids, name_of, none_at, read_row, same_or, text_reading, other_differs, values_row, with_one, with_one_keeps, with_one_new, with_one_there}
use Rattle.rds_words.proofs.Refusing.{IsAlwaysRefused, IsOption, IsRefused}
use Rattle.rds_words.proofs.RowsById.{at_no_row, find_new, find_past, no_row, row_at, without_none}
use Rattle.rds_words.proofs.Splitting.{IsCommand}

abbrev pub settles : Shape → Held → Kinds
settles s h = settle_fault s.rules s.args_override_self h

unfoldable pub held : List Row → Option (Text × List Text) → Held
held rows pending = record { rows = rows; pending = pending; skip = 0 }

abbrev pub with_pending : Held → Text → List Text → Held
with_pending h id values = record h { pending = Some (id, values) }

-- what waits where no option does: more names, or nothing
abbrev pub free : Bool → Waiting
free true = positional
free false = idle

pub frees : (b : Bool) → is_free (free b) ≡ true
frees true = refl
frees false = refl

-- ---- what is asked of a command

abbrev pub repeats : Bool → Kinds
repeats b = or_else (if b && true then kind.ArgumentConflict ∷ [] else []) []

-- a word of this id is used once
pub record IsUsedOnce (s : Shape) (reading : Reading) (id : Text) : Type 0 where
  pub clean : (rows : List Row) (v : Text) → has_row id rows ≡ false → settles s (held rows (Some (id, v ∷ []))) ≡ []
  pub gives : (rows : List Row) (v : Text) → has_row id rows ≡ false → settled s.rules (held rows (Some (id, v ∷ []))) ≡ held (rows ++ read_row reading id (v ∷ []) ∷ []) None
  pub again : (rows : List Row) (v : Text) → has_row id rows ≡ true → IsRefused (settles s (held rows (Some (id, v ∷ []))))

-- words of this id are used, as many as there are
pub record IsUsedOften (s : Shape) (id : Text) : Type 0 where
  pub clean : (rows : List Row) (v : Text) → settles s (held rows (Some (id, v ∷ []))) ≡ []
  pub gives : (rows : List Row) (v : Text) → settled s.rules (held rows (Some (id, v ∷ []))) ≡ held (with_one id v rows) None

-- the value of an option of this form is used so
abbrev pub IsUsedAs : Form → Shape → Text → Type 0
IsUsedAs no_value s id = ⊥
IsUsedAs one_value s id = IsUsedOnce s text_reading id
IsUsedAs many_values s id = IsUsedOften s id

abbrev pub is_flag : Form → Bool
is_flag no_value = true
is_flag one_value = false
is_flag many_values = false

-- what takes the word at this position, of those that are no options
pub record IsPlace (s : Shape) (position next : ℕ) (id : Text) (many : Bool) : Type 0 where
  pub rule : Rule
  pub is : arg_by_index s.rules position ≡ Some rule
  pub single : takes_several rule ≡ false
  pub lone : is_multiple rule ≡ many
  pub short : rule.trailing_var_arg ≡ false
  pub called : rule.id ≡ id
  pub place_then : next_position rule position ≡ next

-- the option, alone or with its value
abbrev pub IsThis : Text → Text → Type 0
IsThis name word = (word ≡ name) ⊎ ((v : Text) × (word ≡ name ++ codes "=" ++ v))

-- an option that has a value, where nothing waits but this
pub record IsValuedAt (s : Shape) (name id : Text) (waiting : Waiting) : Type 0 where
  -- its value is the next word
  pub waits : (h : Held) (position : ℕ) → walked s.rules [] (at h waiting position false) name ≡ at (with_pending (settled s.rules h) id []) (option id) position false
  pub turn : (h : Held) (position : ℕ) → turn_fault s [] (at h waiting position false) name ≡ or_else (settles s h) []
  -- its value stands in the same word
  pub valued : (h : Held) (position : ℕ) (v : Text)
      → walked s.rules [] (at h waiting position false) (name ++ codes "=" ++ v) ≡ at (settled s.rules (with_pending (settled s.rules h) id (v ∷ []))) idle position false
  pub valued_turn : (h : Held) (position : ℕ) (v : Text)
      → turn_fault s [] (at h waiting position false) (name ++ codes "=" ++ v) ≡ or_else (or_else (settles s h) (settles s (with_pending (settled s.rules h) id (v ∷ [])))) []

-- an option of this name, which has a value
pub record IsValued (s : Shape) (form : Form) (name id : Text) : Type 0 where
  pub usage : IsUsedAs form s id
  -- it can't do without a value
  pub bare : (rows : List Row) → IsRefused (settles s (held rows (Some (id, []))))
  pub at_free : (b : Bool) → IsValuedAt s name id (free b)
  pub other : (h : Held) → IsRefused (settles s h) → IsRefused (other_fault s None name h)
  pub takes : (rows : List Row) (position : ℕ) (v : Text) → is_data v ≡ true
      → Steps s (at (held rows (Some (id, []))) (option id) position false) v (at (held rows (Some (id, v ∷ []))) idle position false)
  pub valued_other : (h : Held) (v : Text) → IsRefused (settles s h) → IsRefused (other_fault s None (name ++ codes "=" ++ v) h)

-- the row of an option without a value is held
abbrev pub flagged : Reading → Text → Held → Held
flagged reading id h = record h { rows = with_values id reading CommandLine (codes "true" ∷ []) (without id h.rows) }

-- an option that has no value, where nothing waits but this
pub record IsFlagAt (s : Shape) (reading : Reading) (name id : Text) (waiting : Waiting) : Type 0 where
  pub uses : (h : Held) (position : ℕ) → walked s.rules [] (at h waiting position false) name ≡ at (flagged reading id (settled s.rules h)) idle position false
  pub turn : (h : Held) (position : ℕ) → turn_fault s [] (at h waiting position false) name ≡ or_else (or_else (settles s h) (repeats (has_row id (settled s.rules h).rows))) []

-- an option of this name, which has no value
pub record IsFlag (s : Shape) (reading : Reading) (name id : Text) : Type 0 where
  pub at_free : (b : Bool) → IsFlagAt s reading name id (free b)
  pub other : (h : Held) → IsRefused (settles s h) → IsRefused (other_fault s None name h)
  pub valued : (v : Text) → IsAlwaysRefused s (name ++ codes "=" ++ v)

abbrev pub IsAsKnown : Shape → Known → Type 0
IsAsKnown s o =
    ((is_flag o.form ≡ false) × (o.reading ≡ text_reading) × IsValued s o.form (name_of o) o.id)
    ⊎ ((is_flag o.form ≡ true) × IsFlag s o.reading (name_of o) o.id)

abbrev pub AreAsKnown : Shape → List Known → Type 0
AreAsKnown s [] = ⊤
AreAsKnown s (o ∷ os) = IsAsKnown s o × AreAsKnown s os

-- words go to these places from this position on, and where there are no more they are refused
abbrev pub ArePlaces : Shape → ℕ → List Text → Option Text → Type 0
ArePlaces s position [] None = (h : Held) → IsRefused (step_fault s position h value)
ArePlaces s position [] (Some m) = IsPlace s position position m true × IsUsedOften s m
ArePlaces s position (i ∷ ids) more = IsPlace s position (position + 1) i false × IsUsedOnce s text_reading i × ArePlaces s (position + 1) ids more

-- the position behind these words
abbrev pub place : ℕ → List Text → List Text → ℕ
place position ids [] = position
place position [] (w ∷ ws) = position
place position (i ∷ ids) (w ∷ ws) = place (position + 1) ids ws

-- what the rows come to at the end
abbrev pub rows_fault : Shape → List Row → Kinds
rows_fault s rows = or_else (defaults_fault rows s.rules) (check_fault s (fold with_default rows s.rules) false)

abbrev pub was_given : Option Row → Bool
was_given found = option_map_or (λ r. explicit_source r.source) found false

-- a row that has to be there isn't
abbrev pub is_lacking : List Text → List Row → Bool
is_lacking [] rows = false
is_lacking (i ∷ ids) rows = not (was_given (row_at i rows)) || is_lacking ids rows

abbrev pub HaveNoDefault : List Text → List Rule → Type 0
HaveNoDefault [] c = ⊤
HaveNoDefault (i ∷ ids) c = HasNoDefault i c × HaveNoDefault ids c

-- the number of words that is taken
abbrev pub Fits : List Text → List Text → Option Text → List Text → Type 0
Fits (i ∷ required) optional more [] = ⊥
Fits (i ∷ required) optional more (w ∷ ws) = Fits required optional more ws
Fits [] optional more [] = ⊤
Fits [] (i ∷ optional) more (w ∷ ws) = Fits [] optional more ws
Fits [] [] None (w ∷ ws) = ⊥
Fits [] [] (Some m) (w ∷ ws) = ⊤

-- what a command takes
pub record Plan : Type 0 where
  pub command : Text
  pub shape : Shape
  pub required : List Text
  pub optional : List Text
  pub more : Option Text
  pub known : List Known
  pub with_options : WithOptions

abbrev pub ids_of : Plan → List Text
ids_of p = p.required ++ p.optional

abbrev pub places_of : Plan → List Text
places_of p = ids_of p ++ more_ids p.more

-- under each option's id stands what was given of it
abbrev pub AreChosen : List Known → (Text → List Text) → List Row → Type 0
AreChosen known vs rows = (o : Known) → IsIn o known → row_at o.id rows ≡ values_row o.reading o.id (vs (name_of o))

-- what has no value has `true`
abbrev pub IsTrue : List Text → Type 0
IsTrue [] = ⊤
IsTrue (v ∷ vs) = v ≡ codes "true"

abbrev pub AreTrue : List Known → (Text → List Text) → Type 0
AreTrue known vs = (o : Known) → IsIn o known → is_flag o.form ≡ true → IsTrue (vs (name_of o))

-- the command takes it
pub record Takes (p : Plan) : Type 0 where
  pub is : IsCommand p.command p.shape
  pub options : AreAsKnown p.shape p.known
  -- no other word is an option
  pub told : (word : Text) → IsOption word → ((o : Known) × IsIn o p.known × IsThis (name_of o) word) ⊎ IsAlwaysRefused p.shape word
  pub places : ArePlaces p.shape 1 (ids_of p) p.more
  -- all ids and names differ
  pub places_apart : are_apart (places_of p) ≡ true
  pub options_apart : list_all (λ o. is_apart o.id (places_of p)) p.known ≡ true
  pub ids_apart : are_apart (map (λ o. o.id) p.known) ≡ true
  pub names_apart : are_apart (map name_of p.known) ≡ true
  -- what is wrong at the end, and what the rows mean there
  pub checks : (rows : List Row) → check_fault p.shape rows false ≡ check_kinds false false (is_lacking p.required rows)
  pub quiet : AreQuiet p.shape.rules
  pub no_default : HaveNoDefault p.required p.shape.rules
  pub listed : p.with_options.options ≡ map (λ o. (name_of o, o.form)) p.known
  pub fits : (ws : List Text) → Fits p.required p.optional p.more ws → p.with_options.takes (length ws) ≡ true
  pub taken : (ws : List Text) → p.with_options.takes (length ws) ≡ true → Fits p.required p.optional p.more ws
  pub reads : (rows : List Row) (ws : List Text) (vs : Text → List Text) → AreAt (ids_of p) p.more ws rows → Fits p.required p.optional p.more ws
      → AreChosen p.known vs rows → AreTrue p.known vs
      → words_in (Some (p.shape.name, fold with_default rows p.shape.rules)) ≡ option_map (λ words. p.command ∷ words) (p.with_options.words_for ws vs)

-- ---- uses

-- where a word of this id is taken as one value
pub once_by : (s : Shape) (reading : Reading) (id : Text) → ((rows : List Row) (v : Text) → settles s (held rows (Some (id, v ∷ []))) ≡ repeats (has_row id rows))
    → ((rows : List Row) (v : Text) → settled s.rules (held rows (Some (id, v ∷ []))) ≡ held (with_values id reading CommandLine (v ∷ []) (without id rows)) None) → IsUsedOnce s reading id
unfolding IsRefused
once_by s reading id settles_as settled_as = record {
  clean = λ rows v none. settles_as rows v ∙ ap repeats none;
  gives = λ rows v none. settled_as rows v ∙ ap (λ (rs : List Row). held rs None) (values_new reading id (v ∷ []) rows none);
  again = λ rows v is. subst IsRefused (sym (settles_as rows v ∙ ap repeats is)) tt;
}
  where
    values_new : (reading : Reading) (id : Text) (vs : List Text) (rows : List Row) → has_row id rows ≡ false → with_values id reading CommandLine vs (without id rows) ≡ rows ++ read_row reading id vs ∷ []
    values_new reading id vs rows none = ap (λ (rs : List Row). with_values id reading CommandLine vs rs) (without_none id rows none) ∙ at_no_row id (more_values CommandLine vs) (read_row reading id vs ∷ []) rows none

-- a word of this id leads from these rows to others
pub record IsUse (s : Shape) (id v : Text) (rows : List Row) : Type 0 where
  pub after : List Row
  pub clean : settles s (held rows (Some (id, v ∷ []))) ≡ []
  pub gives : settled s.rules (held rows (Some (id, v ∷ []))) ≡ held after None
  pub keeps : Keeps id rows after

pub new_keeps : (reading : Reading) (id v : Text) (rows : List Row) → Keeps id rows (rows ++ read_row reading id (v ∷ []) ∷ [])
new_keeps reading id v rows k differs = find_past (λ r. bytes_eq r.id k) rows (read_row reading id (v ∷ [])) differs

pub new_stands : (reading : Reading) (id v : Text) (rows : List Row) → row_at id rows ≡ None → row_at id (rows ++ read_row reading id (v ∷ []) ∷ []) ≡ Some (read_row reading id (v ∷ []))
new_stands reading id v rows none = find_new (λ r. bytes_eq r.id id) rows (read_row reading id (v ∷ [])) none ((bytes_eq-Decides id id).1 refl)

abbrev pub used_once : (s : Shape) (reading : Reading) (id v : Text) (rows : List Row) → IsUsedOnce s reading id → row_at id rows ≡ None → IsUse s id v rows
used_once s reading id v rows once none = record {
  after = rows ++ read_row reading id (v ∷ []) ∷ [];
  clean = once.clean rows v (no_row id rows none);
  gives = once.gives rows v (no_row id rows none);
  keeps = new_keeps reading id v rows;
}

abbrev used_often : (s : Shape) (id v : Text) (rows : List Row) → IsUsedOften s id → IsUse s id v rows
used_often s id v rows often = record {
  after = with_one id v rows;
  clean = often.clean rows v;
  gives = often.gives rows v;
  keeps = with_one_keeps id v rows;
}

-- ---- one more value of an option

-- an option of this form with these values may have one more
abbrev pub MayMore : Form → List Text → Type 0
MayMore form xs = (form ≡ many_values) ⊎ (xs ≡ [])

-- or it is used once, and was used
pub more_or : (s : Shape) (form : Form) (id : Text) → IsUsedAs form s id → (xs : List Text)
    → MayMore form xs ⊎ (IsUsedOnce s text_reading id × (x : Text) × (more : List Text) × (xs ≡ x ∷ more))
more_or s no_value id usage xs = absurd usage
more_or s one_value id usage [] = inl (inr refl)
more_or s one_value id usage (x ∷ more) = inr (usage, x, more, refl)
more_or s many_values id usage xs = inl (inl refl)

one_isnt_many : one_value ≡ many_values → ⊥
one_isnt_many e = absurd cc

-- the value leads to rows in which it stands behind the others
pub record IsUsedMore (s : Shape) (id v : Text) (rows : List Row) (xs : List Text) : Type 0 where
  pub usage : IsUse s id v rows
  pub there : row_at id usage.after ≡ values_row text_reading id (xs ++ v ∷ [])

more_used : (s : Shape) (form : Form) (id v : Text) (rows : List Row) (xs : List Text) → IsUsedAs form s id → MayMore form xs → row_at id rows ≡ values_row text_reading id xs
    → IsUsedMore s id v rows xs
more_used s no_value id v rows xs usage may is = absurd usage
more_used s one_value id v rows xs usage (inl many) is = absurd (one_isnt_many many)
more_used s one_value id v rows xs usage (inr none) is =
    let no_row_is = is ∙ ap (values_row text_reading id) none in record {
      usage = used_once s text_reading id v rows usage no_row_is;
      there = new_stands text_reading id v rows no_row_is ∙ ap (λ (xs : List Text). values_row text_reading id (xs ++ v ∷ [])) (sym none);
    }
more_used s many_values id v rows [] usage may is = record { usage = used_often s id v rows usage; there = with_one_new id v rows is }
more_used s many_values id v rows (x ∷ xs) usage may is = record {
  usage = used_often s id v rows usage;
  there = with_one_there id v rows (read_row text_reading id (x ∷ xs)) is;
}

-- ---- the next word

-- the words stand at all places that there are
abbrev pub IsOut : List Text → Option Text → List Text → Type 0
IsOut [] None ws = ⊤
IsOut [] (Some m) ws = ⊥
IsOut (i ∷ ids) more [] = ⊥
IsOut (i ∷ ids) more (w ∷ ws) = IsOut ids more ws

-- so more don't fit
pub out_of_room : (required optional : List Text) (more : Option Text) (ws : List Text) (w : Text) (rest : List Text) → IsOut (required ++ optional) more ws → Fits required optional more (ws ++ w ∷ rest) → ⊥
out_of_room [] [] None [] w rest out fits = fits
out_of_room [] [] None (v ∷ ws) w rest out fits = fits
out_of_room [] [] (Some m) ws w rest out fits = out
out_of_room [] (i ∷ optional) more [] w rest out fits = out
out_of_room [] (i ∷ optional) more (v ∷ ws) w rest out fits = out_of_room [] optional more ws w rest out fits
out_of_room (i ∷ required) optional more [] w rest out fits = out
out_of_room (i ∷ required) optional more (v ∷ ws) w rest out fits = out_of_room required optional more ws w rest out fits

-- what takes the next word
pub record NextWord (s : Shape) (ids : List Text) (more : Option Text) (ws : List Text) (rows : List Row) (position : ℕ) (w : Text) : Type 0 where
  pub id : Text
  pub many : Bool
  pub is : IsPlace s (place position ids ws) (place position ids (ws ++ w ∷ [])) id many
  pub usage : IsUse s id w rows
  pub stands : AreAt ids more (ws ++ w ∷ []) usage.after
  pub among : (f : Text → Bool) → list_all f (ids ++ more_ids more) ≡ true → f id ≡ true

abbrev Full : Shape → ℕ → Type 0
Full s position = (h : Held) → IsRefused (step_fault s position h value)

more_word : (s : Shape) (position : ℕ) (m : Text) → IsPlace s position position m true × IsUsedOften s m → (ws : List Text) (rows : List Row) → AreAt [] (Some m) ws rows → (w : Text) → NextWord s [] (Some m) ws rows position w
more_word s position m places [] rows stands w = record {
  id = m;
  many = true;
  is = places.0;
  usage = used_often s m w rows places.1;
  stands = with_one_new m w rows stands;
  among = λ f all. and_left (f m) true all;
}
more_word s position m places (v ∷ vs) rows stands w = record {
  id = m;
  many = true;
  is = places.0;
  usage = used_often s m w rows places.1;
  stands = with_one_there m w rows (read_row text_reading m (v ∷ vs)) stands;
  among = λ f all. and_left (f m) true all;
}

pub next_word : (s : Shape) (position : ℕ) (ids : List Text) (more : Option Text) → ArePlaces s position ids more → are_apart (ids ++ more_ids more) ≡ true → (ws : List Text) (rows : List Row)
    → AreAt ids more ws rows → (w : Text) → (Full s (place position ids ws) × IsOut ids more ws) ⊎ NextWord s ids more ws rows position w
next_word s position [] None places apart [] rows stands w = inl (places, tt)
next_word s position [] None places apart (v ∷ vs) rows stands w = inl (places, tt)
next_word s position [] (Some m) places apart ws rows stands w = inr (more_word s position m places ws rows stands w)
next_word s position (i ∷ ids) more places apart [] rows stands w =
    let usage = used_once s text_reading i w rows places.1 stands.0 in
    inr (record {
      id = i;
      many = false;
      is = places.0;
      usage = usage;
      stands = (new_stands text_reading i w rows stands.0, at_kept ids more [] rows usage.after i usage.keeps (and_left (is_apart i (ids ++ more_ids more)) _ apart) stands.1);
      among = λ f all. and_left (f i) _ all;
    })
next_word s position (i ∷ ids) more places apart (v ∷ vs) rows stands w = elim (next_word s (position + 1) ids more places.2 (and_right (is_apart i (ids ++ more_ids more)) _ apart) vs rows stands.1 w) [
  | inl full ↦ inl full
  | inr n ↦ inr (record {
    id = n.id;
    many = n.many;
    is = n.is;
    usage = n.usage;
    stands = (n.usage.keeps i (other_differs i n.id (n.among (differ i) (and_left (is_apart i (ids ++ more_ids more)) _ apart))) ∙ stands.0, n.stands);
    among = λ f all. n.among f (and_right (f i) _ all);
  })
]

pub held_skip : (rows : List Row) (pending : Option (Text × List Text)) → (held rows pending).skip ≡ 0
unfolding held
held_skip rows pending = refl

and_false : (b : Bool) → (b && false) ≡ false
and_false true = refl
and_false false = refl

module _ (s : Shape) (position next : ℕ) (id : Text) (many : Bool) (p : IsPlace s position next id many) where
  in_place : (h : Held) (w : Text) → positional_held s.rules p.rule w h ≡ with_pending (settled s.rules h) id (w ∷ [])
  in_place h w = rw (p.single, and_false (is_pending p.rule h.pending), p.called) refl

  free_as : (if many then positional else idle) ≡ free many
  free_as = of many
    where
      of : (b : Bool) → (if b then positional else idle) ≡ free b
      of true = refl
      of false = refl

  goes_in : (h : Held) (w : Text) (b d : Bool) → to_positional s.rules (Some p.rule) w (at h (free b) position d) h ≡ at (with_pending (settled s.rules h) id (w ∷ [])) (if many then positional else idle) next d
  goes_in h w b true = λ i. record { held = in_place h w i; waiting = if p.lone i then positional else idle; position = p.place_then i; is_trailing = true; stopped = None }
  goes_in h w b false = λ i. record { held = in_place h w i; waiting = if p.lone i then positional else idle; position = p.place_then i; is_trailing = p.short i; stopped = None }

  goes_to : (h : Held) (w : Text) (b d : Bool) → to_positional s.rules (arg_by_index s.rules position) w (at h (free b) position d) h ≡ at (with_pending (settled s.rules h) id (w ∷ [])) (free many) next d
  goes_to h w b d = ap (λ (a : Option Rule). to_positional s.rules a w (at h (free b) position d) h) p.is ∙ goes_in h w b d ∙ ap (λ (v : Waiting). at (with_pending (settled s.rules h) id (w ∷ [])) v next d) free_as

  pub place_fault : (h : Held) → step_fault s position h value ≡ settles s h
  place_fault h = rw (p.is, p.single, and_false (is_pending p.rule h.pending)) refl

  pub word_steps : (h : Held) (w : Text) (b : Bool) → h.skip ≡ 0 → settles s h ≡ [] → is_data w ≡ true → Steps s (at h (free b) position false) w (at (with_pending (settled s.rules h) id (w ∷ [])) (free many) next false)
  word_steps h w b skip clean are = (
    value_next s.rules h (free b) position w (frees b) are skip ∙ goes_to h w b false,
    data_turn_free b ∙ place_fault h ∙ clean,
  )
    where
      data_turn_free : (b : Bool) → turn_fault s [] (at h (free b) position false) w ≡ step_fault s position h value
      data_turn_free true = data_turn s h positional position w are skip
      data_turn_free false = data_turn s h idle position w are skip

  pub word_dashed : (h : Held) (w : Text) (b : Bool) → settles s h ≡ [] → Steps s (at h (free b) position true) w (at (with_pending (settled s.rules h) id (w ∷ [])) (free many) next true)
  unfolding walked
  word_dashed h w b clean = (goes_to h w b true, place_fault h ∙ clean)

-- ---- where the walk stands

-- nothing was wrong, with these words and these values of options
pub record IsGood (p : Plan) (h : Held) (ws : List Text) (vs : Text → List Text) : Type 0 where
  pub rows : List Row
  pub skip : h.skip ≡ 0
  pub clean : settles p.shape h ≡ []
  pub settled_is : settled p.shape.rules h ≡ held rows None
  pub stands : AreAt (ids_of p) p.more ws rows
  pub chosen : AreChosen p.known vs rows

-- the values with one more
abbrev pub one_more : (Text → List Text) → Text → Text → Text → List Text
one_more vs name v n = vs n ++ (if bytes_eq name n then v ∷ [] else [])

abbrev pub at_place : Plan → List Text → ℕ
at_place p ws = place 1 (ids_of p) ws

module _ (p : Plan) (c : Takes p) where
  abbrev s : Shape
  s = p.shape

  -- nothing was used
  pub good_start : IsGood p nothing_held [] (λ n. [])
  unfolding held
  good_start = record { rows = []; skip = refl; clean = refl; settled_is = refl; stands = none_at (ids_of p) p.more; chosen = λ o is. refl }

  -- a new word is pending
  pub pending_is : (h : Held) (rows : List Row) (k : Text) (values : List Text) → settled s.rules h ≡ held rows None → with_pending (settled s.rules h) k values ≡ held rows (Some (k, values))
  unfolding held
  pending_is h rows k values is = ap (λ (g : Held). with_pending g k values) is

  settled_clean : (rows : List Row) → (settles s (held rows None) ≡ []) × (settled s.rules (held rows None) ≡ held rows None)
  unfolding held
  settled_clean rows = (refl, refl)

  option_apart : (o : Known) → IsIn o p.known → is_apart o.id (places_of p) ≡ true
  option_apart o is = all_in (λ o. is_apart o.id (places_of p)) o p.known c.options_apart is

  word_good : (h : Held) (ws : List Text) (vs : Text → List Text) (g : IsGood p h ws vs) (w : Text) (n : NextWord s (ids_of p) p.more ws g.rows 1 w) → IsGood p (held g.rows (Some (n.id, w ∷ []))) (ws ++ w ∷ []) vs
  word_good h ws vs g w n = record {
    rows = n.usage.after;
    skip = held_skip g.rows (Some (n.id, w ∷ []));
    clean = n.usage.clean;
    settled_is = n.usage.gives;
    stands = n.stands;
    chosen = λ o is. n.usage.keeps o.id (other_differs o.id n.id (n.among (differ o.id) (option_apart o is))) ∙ g.chosen o is;
  }

  -- ---- a word

  abbrev pub Next : Held → Bool → List Text → (Text → List Text) → Bool → Text → Type 0
  Next h b ws vs d w = (to : Held) × (many : Bool) × IsGood p to (ws ++ w ∷ []) vs × Steps s (at h (free b) (at_place p ws) d) w (at to (free many) (at_place p (ws ++ w ∷ [])) d)

  abbrev pub IsFull : List Text → Type 0
  IsFull ws = ((h : Held) → IsRefused (step_fault s (at_place p ws) h value)) × IsOut (ids_of p) p.more ws

  pub word_next : (h : Held) (b : Bool) (ws : List Text) (vs : Text → List Text) → IsGood p h ws vs → (w : Text) → is_data w ≡ true → IsFull ws ⊎ Next h b ws vs false w
  word_next h b ws vs g w are = elim (next_word s 1 (ids_of p) p.more c.places c.places_apart ws g.rows g.stands w) [
    | inl full ↦ inl full
    | inr n ↦ inr (
      held g.rows (Some (n.id, w ∷ [])),
      n.many,
      word_good h ws vs g w n,
      subst (λ (k : Held). Steps s (at h (free b) (at_place p ws) false) w (at k (free n.many) (at_place p (ws ++ w ∷ [])) false)) (pending_is h g.rows n.id (w ∷ []) g.settled_is)
          (word_steps s (at_place p ws) (at_place p (ws ++ w ∷ [])) n.id n.many n.is h w b g.skip g.clean are),
    )
  ]

  pub word_behind : (h : Held) (b : Bool) (ws : List Text) (vs : Text → List Text) → IsGood p h ws vs → (w : Text) → IsFull ws ⊎ Next h b ws vs true w
  word_behind h b ws vs g w = elim (next_word s 1 (ids_of p) p.more c.places c.places_apart ws g.rows g.stands w) [
    | inl full ↦ inl full
    | inr n ↦ inr (
      held g.rows (Some (n.id, w ∷ [])),
      n.many,
      word_good h ws vs g w n,
      subst (λ (k : Held). Steps s (at h (free b) (at_place p ws) true) w (at k (free n.many) (at_place p (ws ++ w ∷ [])) true)) (pending_is h g.rows n.id (w ∷ []) g.settled_is)
          (word_dashed s (at_place p ws) (at_place p (ws ++ w ∷ [])) n.id n.many n.is h w b g.clean),
    )
  ]

  -- where something is pending that is wrong, a word is refused at each place
  pub stands_at : (h : Held) (ws : List Text) (vs : Text → List Text) (k : Held) → IsGood p k ws vs → IsRefused (settles s h) → IsRefused (step_fault s (at_place p ws) h value)
  stands_at h ws vs k g bad = elim (next_word s 1 (ids_of p) p.more c.places c.places_apart ws g.rows g.stands []) [
    | inl full ↦ full.0 h
    | inr n ↦ subst IsRefused (sym (place_fault s (at_place p ws) (at_place p (ws ++ [] ∷ [])) n.id n.many n.is h)) bad
  ]

  -- ---- an option

  pub none_of : (o : Known) (is : IsIn o p.known) (rows : List Row) (vs : Text → List Text) → AreChosen p.known vs rows → vs (name_of o) ≡ [] → row_at o.id rows ≡ None
  none_of o is rows vs chosen none = chosen o is ∙ ap (values_row o.reading o.id) none

  chosen_on : (rows after : List Row) (vs : Text → List Text) (o : Known) (is : IsIn o p.known) (v : Text) → AreChosen p.known vs rows → Keeps o.id rows after
      → row_at o.id after ≡ values_row o.reading o.id (vs (name_of o) ++ v ∷ []) → AreChosen p.known (one_more vs (name_of o) v) after
  chosen_on rows after vs o is v chosen keeps there q also = elim (same_or p.known c.ids_apart c.names_apart o q is also) [
    | inl same ↦ subst (λ (q : Known). row_at q.id after ≡ values_row q.reading q.id (one_more vs (name_of o) v (name_of q))) same
        (there ∙ sym (ap (λ (b : Bool). values_row o.reading o.id (vs (name_of o) ++ (if b then v ∷ [] else []))) ((bytes_eq-Decides (name_of o) (name_of o)).1 refl)))
    | inr differs ↦ keeps q.id differs.0 ∙ chosen q also
        ∙ ap (values_row q.reading q.id) (sym (append-nil (vs (name_of q))) ∙ ap (λ (b : Bool). vs (name_of q) ++ (if b then v ∷ [] else [])) (sym differs.1))
  ]

  stands_on : (rows after : List Row) (ws : List Text) (o : Known) → IsIn o p.known → Keeps o.id rows after → AreAt (ids_of p) p.more ws rows → AreAt (ids_of p) p.more ws after
  stands_on rows after ws o is keeps stands = at_kept (ids_of p) p.more ws rows after o.id keeps (option_apart o is) stands

  module _ (o : Known) (is : IsIn o p.known) (text : o.reading ≡ text_reading) (valued : IsValued s o.form (name_of o) o.id) where
    used_more : (rows : List Row) (vs : Text → List Text) (v : Text) → AreChosen p.known vs rows → MayMore o.form (vs (name_of o)) → IsUsedMore s o.id v rows (vs (name_of o))
    used_more rows vs v chosen may =
        more_used s o.form o.id v rows (vs (name_of o)) valued.usage may (chosen o is ∙ ap (λ (r : Reading). values_row r o.id (vs (name_of o))) text)

    pub option_good : (h : Held) (ws : List Text) (vs : Text → List Text) (g : IsGood p h ws vs) (v : Text) → MayMore o.form (vs (name_of o)) → IsGood p (held g.rows (Some (o.id, v ∷ []))) ws (one_more vs (name_of o) v)
    option_good h ws vs g v may =
        let used = used_more g.rows vs v g.chosen may in
        record {
          rows = used.usage.after;
          skip = held_skip g.rows (Some (o.id, v ∷ []));
          clean = used.usage.clean;
          settled_is = used.usage.gives;
          stands = stands_on g.rows used.usage.after ws o is used.usage.keeps g.stands;
          chosen = chosen_on g.rows used.usage.after vs o is v g.chosen used.usage.keeps
              (used.there ∙ ap (λ (r : Reading). values_row r o.id (vs (name_of o) ++ v ∷ [])) (sym text));
        }

    -- an option that waits for its value
    pub waits_steps : (h : Held) (b : Bool) (ws : List Text) (vs : Text → List Text) (g : IsGood p h ws vs)
        → Steps s (at h (free b) (at_place p ws) false) (name_of o) (at (held g.rows (Some (o.id, []))) (option o.id) (at_place p ws) false)
    waits_steps h b ws vs g = (
      (valued.at_free b).waits h (at_place p ws) ∙ ap (λ (k : Held). at k (option o.id) (at_place p ws) false) (pending_is h g.rows o.id [] g.settled_is),
      (valued.at_free b).turn h (at_place p ws) ∙ ap (λ (k : Kinds). or_else k []) g.clean,
    )

    pub valued_steps : (h : Held) (b : Bool) (ws : List Text) (vs : Text → List Text) (g : IsGood p h ws vs) (v : Text) → MayMore o.form (vs (name_of o))
        → Steps s (at h (free b) (at_place p ws) false) (name_of o ++ codes "=" ++ v) (at (settled s.rules (held g.rows (Some (o.id, v ∷ [])))) idle (at_place p ws) false)
    valued_steps h b ws vs g v may =
        let e = pending_is h g.rows o.id (v ∷ []) g.settled_is in (
          (valued.at_free b).valued h (at_place p ws) v ∙ ap (λ (k : Held). at (settled s.rules k) idle (at_place p ws) false) e,
          (valued.at_free b).valued_turn h (at_place p ws) v
              ∙ ap₂ (λ (k l : Kinds). or_else (or_else k l) []) g.clean (ap (settles s) e ∙ (option_good h ws vs g v may).clean),
        )

  -- what is pending may as well be settled
  pub settled_good : (h : Held) (ws : List Text) (vs : Text → List Text) → IsGood p h ws vs → IsGood p (settled s.rules h) ws vs
  settled_good h ws vs g = record {
    rows = g.rows;
    skip = g.skip;
    clean = ap (settles s) g.settled_is ∙ (settled_clean g.rows).0;
    settled_is = ap (settled s.rules) g.settled_is ∙ (settled_clean g.rows).1;
    stands = g.stands;
    chosen = g.chosen;
  }

  pub good_as : (h : Held) (ws us : List Text) (vs xs : Text → List Text) → IsGood p h ws vs → ws ≡ us → ((n : Text) → vs n ≡ xs n) → IsGood p h us xs
  good_as h ws us vs xs g words values = record {
    rows = g.rows;
    skip = g.skip;
    clean = g.clean;
    settled_is = g.settled_is;
    stands = subst (λ (ws : List Text). AreAt (ids_of p) p.more ws g.rows) words g.stands;
    chosen = λ o is. g.chosen o is ∙ ap (values_row o.reading o.id) (values (name_of o));
  }

  pub rows_are : (h : Held) (ws : List Text) (vs : Text → List Text) (g : IsGood p h ws vs) → (settled s.rules h).rows ≡ g.rows
  unfolding held
  rows_are h ws vs g = ap (λ (k : Held). k.rows) g.settled_is

  -- an option without a value
  module _ (o : Known) (is : IsIn o p.known) (flag : IsFlag s o.reading (name_of o) o.id) where
    abbrev pub flag_rows : List Row → List Row
    flag_rows rows = rows ++ read_row o.reading o.id (codes "true" ∷ []) ∷ []

    flag_held : (rows : List Row) → has_row o.id rows ≡ false → flagged o.reading o.id (held rows None) ≡ held (flag_rows rows) None
    unfolding held
    flag_held rows none = ap (λ (rs : List Row). held rs None)
        (ap (λ (rs : List Row). with_values o.id o.reading CommandLine (codes "true" ∷ []) rs) (without_none o.id rows none) ∙ at_no_row o.id (more_values CommandLine (codes "true" ∷ [])) (read_row o.reading o.id (codes "true" ∷ []) ∷ []) rows none)

    pub flag_good : (h : Held) (ws : List Text) (vs : Text → List Text) (g : IsGood p h ws vs) → vs (name_of o) ≡ [] → IsGood p (held (flag_rows g.rows) None) ws (one_more vs (name_of o) (codes "true"))
    flag_good h ws vs g none = record {
      rows = flag_rows g.rows;
      skip = held_skip (flag_rows g.rows) None;
      clean = (settled_clean (flag_rows g.rows)).0;
      settled_is = (settled_clean (flag_rows g.rows)).1;
      stands = stands_on g.rows (flag_rows g.rows) ws o is (new_keeps o.reading o.id (codes "true") g.rows) g.stands;
      chosen = chosen_on g.rows (flag_rows g.rows) vs o is (codes "true") g.chosen (new_keeps o.reading o.id (codes "true") g.rows)
          (new_stands o.reading o.id (codes "true") g.rows (none_of o is g.rows vs g.chosen none)
          ∙ ap (λ (xs : List Text). values_row o.reading o.id (xs ++ codes "true" ∷ [])) (sym none));
    }

    pub flag_steps : (h : Held) (b : Bool) (ws : List Text) (vs : Text → List Text) (g : IsGood p h ws vs) → vs (name_of o) ≡ []
        → Steps s (at h (free b) (at_place p ws) false) (name_of o) (at (held (flag_rows g.rows) None) idle (at_place p ws) false)
    flag_steps h b ws vs g none =
        let no = no_row o.id g.rows (none_of o is g.rows vs g.chosen none) in (
          (flag.at_free b).uses h (at_place p ws) ∙ ap (λ (k : Held). at k idle (at_place p ws) false) (ap (flagged o.reading o.id) g.settled_is ∙ flag_held g.rows no),
          (flag.at_free b).turn h (at_place p ws)
              ∙ ap₂ (λ (k : Kinds) (rows : List Row). or_else (or_else k (repeats (has_row o.id rows))) []) g.clean (rows_are h ws vs g)
              ∙ ap (λ (b : Bool). or_else (repeats b) []) no,
        )
