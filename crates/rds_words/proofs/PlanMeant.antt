-- What words mean among which there are options, and which are refused.
use Rattle.std.proofs.Common.{◌≡◌, ◌⊎◌, ◌∙◌, ◌||◌, ℕ, Bool, true, false, not, List, [], ◌∷◌, ◌++◌, codes, map, Option, Some, None, refl, sym, ap, ap₂, subst, inl, inr}
use Rattle.std.specs.Prelude.{drop, fold, if◌then◌else◌, option_map}
use Rattle.std.specs.List.{list_all, list_any}
use Rattle.std.specs.Str.{bytes_eq}
use Rattle.std.proofs.lemmas.Bool.{cases_Bool}
use Rattle.std.proofs.lemmas.List.{append-nil, append_assoc}
use Rattle.std.proofs.lemmas.Slice.Eq.{bytes_eq-Decides}
use Rattle.clap.specs.Words.{Kinds, Row, Rule, Shape, Text}
use Rattle.clap.specs.Kinds.{check_kinds, or_else}
use Rattle.clap.specs.Faults.{check_fault, defaults_fault, other_fault, step_fault, turn_fault, walk_fault}
use Rattle.clap.specs.Walk.{Held, Waiting, Walk, finished, has_row, idle, option, positional, nothing_held, settled, value, walk_from, walked, with_default}
use Rattle.rds_words.specs.Entered.{mistakes_in, named_in}
use Rattle.rds_words.specs.Spelling.{AreSpelled}
use Rattle.rds_words.specs.Task.{words_in}
use Rattle.rds_words.specs.Typed.{AreAllowed, AreTyped, AtMostOne, Form, HaveOptionsOf, IsAllowed, IsOptionWith, IsRest, Options, Part, is_bare, has_value, many_values, no_value, one_value, typed_flag, typed_option, typed_word, values_among, words_among}
use Rattle.rds_words.specs.WithOptions.{AreTaken, MeansWithOptions}
use Rattle.rds_words.specs.Written.{is_data}
use Rattle.rds_words.proofs.Counting.{refused_isnt}
use Rattle.rds_words.proofs.Dashed.{at, data_turn}
use Rattle.rds_words.proofs.Defaulted.{quiet, row_kept, row_missing}
use Rattle.rds_words.proofs.Leading.{Leads, comes_from, kinds_of, leads_on, mistakes_from, named_from, refused_at, refused_from, refused_step}
use Rattle.rds_words.proofs.OptionNames.{is_none}
use Rattle.rds_words.proofs.Passing.{Steps}
use Rattle.rds_words.proofs.PlanWalk.{AreAsKnown, AreTrue, Fits, HaveNoDefault, IsAsKnown, IsFlag, IsGood, IsThis, IsTrue, IsUsedOnce, IsValued, MayMore, Plan, Takes, at_place, flag_good, flag_rows, flag_steps, free, frees, good_as, good_start, held, held_skip, ids_of, is_flag, is_lacking, more_or, one_more, option_good, out_of_room, pending_is, repeats, rows_are, rows_fault, settled_good, settles, stands_at, valued_steps, waits_steps, was_given, with_pending, word_behind, word_next}
use Rattle.rds_words.proofs.Plans.{AreAt, IsIn, Known, name_of, read_row, same_or, text_reading, values_row}
use Rattle.rds_words.proofs.Refusing.{IsOption, IsRefused, refused_first, refused_then}
use Rattle.rds_words.proofs.RowsById.{one_row, row_at}

-- ---- the options of a list

as_known : (s : Shape) (ks : List Known) → AreAsKnown s ks → (o : Known) → IsIn o ks → IsAsKnown s o
as_known s [] are o is = absurd is
as_known s (k ∷ ks) are o (inl is) = subst (IsAsKnown s) is are.0
as_known s (k ∷ ks) are o (inr is) = as_known s ks are.1 o is

abbrev listed_of : List Known → Options
listed_of ks = map (λ o. (name_of o, o.form)) ks

has_value_by : (n m : Text) (form : Form) → is_flag form ≡ false → has_value n (m, form) ≡ bytes_eq n m
has_value_by n m no_value flag = absurd (is_none (sym flag))
has_value_by n m one_value flag = refl
has_value_by n m many_values flag = refl

has_none_by : (n m : Text) (form : Form) → is_flag form ≡ true → is_bare n (m, form) ≡ bytes_eq n m
has_none_by n m no_value flag = refl
has_none_by n m one_value flag = absurd (is_none flag)
has_none_by n m many_values flag = absurd (is_none flag)

either_true : (a b : Bool) → b ≡ true → (a || b) ≡ true
either_true true b e = refl
either_true false b e = e

first_true : (a b : Bool) → a ≡ true → (a || b) ≡ true
first_true true b e = refl
first_true false b e = absurd (is_none e)

valued_listed : (o : Known) (ks : List Known) → IsIn o ks → is_flag o.form ≡ false → list_any (has_value (name_of o)) (listed_of ks) ≡ true
valued_listed o [] is flag = absurd is
valued_listed o (k ∷ ks) (inl is) flag =
    subst (λ (k : Known). list_any (has_value (name_of o)) (listed_of (k ∷ ks)) ≡ true) (sym is)
    (first_true (has_value (name_of o) (name_of o, o.form)) (list_any (has_value (name_of o)) (listed_of ks)) (has_value_by (name_of o) (name_of o) o.form flag ∙ (bytes_eq-Decides (name_of o) (name_of o)).1 refl))
valued_listed o (k ∷ ks) (inr is) flag = either_true (has_value (name_of o) (name_of k, k.form)) (list_any (has_value (name_of o)) (listed_of ks)) (valued_listed o ks is flag)

flag_listed : (o : Known) (ks : List Known) → IsIn o ks → is_flag o.form ≡ true → list_any (is_bare (name_of o)) (listed_of ks) ≡ true
flag_listed o [] is flag = absurd is
flag_listed o (k ∷ ks) (inl is) flag =
    subst (λ (k : Known). list_any (is_bare (name_of o)) (listed_of (k ∷ ks)) ≡ true) (sym is)
    (first_true (is_bare (name_of o) (name_of o, o.form)) (list_any (is_bare (name_of o)) (listed_of ks)) (has_none_by (name_of o) (name_of o) o.form flag ∙ (bytes_eq-Decides (name_of o) (name_of o)).1 refl))
flag_listed o (k ∷ ks) (inr is) flag = either_true (is_bare (name_of o) (name_of k, k.form)) (list_any (is_bare (name_of o)) (listed_of ks)) (flag_listed o ks is flag)

or_split : (a b : Bool) → (a || b) ≡ true → (a ≡ true) ⊎ (b ≡ true)
or_split true b e = inl refl
or_split false b e = inr e

valued_among : (n : Text) (ks : List Known) → list_any (has_value n) (listed_of ks) ≡ true → (o : Known) × IsIn o ks × (n ≡ name_of o) × (is_flag o.form ≡ false)
valued_among n [] is = absurd (is_none is)
valued_among n (k ∷ ks) is = by (valued_among n ks) (or_split (has_value n (name_of k, k.form)) _ is)
  where
    this : (form : Form) → has_value n (name_of k, form) ≡ true → (n ≡ name_of k) × (is_flag form ≡ false)
    this no_value h = absurd (is_none h)
    this one_value h = ((bytes_eq-Decides n (name_of k)).0 h, refl)
    this many_values h = ((bytes_eq-Decides n (name_of k)).0 h, refl)

    by : (list_any (has_value n) (listed_of ks) ≡ true → (o : Known) × IsIn o ks × (n ≡ name_of o) × (is_flag o.form ≡ false))
        → (has_value n (name_of k, k.form) ≡ true) ⊎ (list_any (has_value n) (listed_of ks) ≡ true) → (o : Known) × IsIn o (k ∷ ks) × (n ≡ name_of o) × (is_flag o.form ≡ false)
    by on (inl here) = (let t = this k.form here in (k, inl refl, t.0, t.1))
    by on (inr there) = (let o = on there in (o.0, inr o.1, o.2, o.3))

flag_among : (n : Text) (ks : List Known) → list_any (is_bare n) (listed_of ks) ≡ true → (o : Known) × IsIn o ks × (n ≡ name_of o) × (is_flag o.form ≡ true)
flag_among n [] is = absurd (is_none is)
flag_among n (k ∷ ks) is = by (flag_among n ks) (or_split (is_bare n (name_of k, k.form)) _ is)
  where
    this : (form : Form) → is_bare n (name_of k, form) ≡ true → (n ≡ name_of k) × (is_flag form ≡ true)
    this no_value h = ((bytes_eq-Decides n (name_of k)).0 h, refl)
    this one_value h = absurd (is_none h)
    this many_values h = absurd (is_none h)

    by : (list_any (is_bare n) (listed_of ks) ≡ true → (o : Known) × IsIn o ks × (n ≡ name_of o) × (is_flag o.form ≡ true))
        → (is_bare n (name_of k, k.form) ≡ true) ⊎ (list_any (is_bare n) (listed_of ks) ≡ true) → (o : Known) × IsIn o (k ∷ ks) × (n ≡ name_of o) × (is_flag o.form ≡ true)
    by on (inl here) = (let t = this k.form here in (k, inl refl, t.0, t.1))
    by on (inr there) = (let o = on there in (o.0, inr o.1, o.2, o.3))

-- nothing stands before what is there once
only_before : (xs ys : List Text) (v : Text) (b : Bool) → b ≡ true → AtMostOne (xs ++ ((if b then v ∷ [] else []) ++ ys)) → xs ≡ []
only_before [] ys v b is fits = refl
only_before (x ∷ []) ys v true is fits = absurd fits
only_before (x ∷ y ∷ xs) ys v true is fits = absurd fits
only_before (x ∷ xs) ys v false is fits = absurd (is_none is)

pub each_allowed : (ks : List Known) (vs : Text → List Text) → AreAllowed (listed_of ks) vs → (o : Known) → IsIn o ks → IsAllowed o.form (vs (name_of o))
each_allowed [] vs are o is = absurd is
each_allowed (k ∷ ks) vs are o (inl is) = subst (λ (k : Known). IsAllowed k.form (vs (name_of k))) is are.0
each_allowed (k ∷ ks) vs are o (inr is) = each_allowed ks vs are.1 o is

are_allowed : (ks : List Known) (vs : Text → List Text) → ((o : Known) → IsIn o ks → IsAllowed o.form (vs (name_of o))) → AreAllowed (listed_of ks) vs
are_allowed [] vs each = tt
are_allowed (k ∷ ks) vs each = (each k (inl refl), are_allowed ks vs (λ o is. each o (inr is)))

-- what may have one value may have it, and what may have none too
allowed_once : (form : Form) (xs : List Text) → AtMostOne xs → IsAllowed form xs
allowed_once no_value xs are = are
allowed_once one_value xs are = are
allowed_once many_values xs are = tt

-- before one more
may_before : (form : Form) (xs ys : List Text) (v : Text) (b : Bool) → b ≡ true → IsAllowed form (xs ++ ((if b then v ∷ [] else []) ++ ys)) → MayMore form xs
may_before no_value xs ys v b is fits = inr (only_before xs ys v b is fits)
may_before one_value xs ys v b is fits = inr (only_before xs ys v b is fits)
may_before many_values xs ys v b is fits = inl refl

-- an option without a value has it once
flag_before : (form : Form) (xs : List Text) → is_flag form ≡ true → MayMore form xs → xs ≡ []
flag_before no_value xs flag (inl many) = absurd (none_isnt_many many)
  where
    none_isnt_many : no_value ≡ many_values → ⊥
    none_isnt_many e = absurd cc
flag_before one_value xs flag may = absurd (is_none flag)
flag_before many_values xs flag may = absurd (is_none flag)
flag_before no_value xs flag (inr none) = none

-- ---- the last checks

or_true : (a b : Bool) → b ≡ true → (a || b) ≡ true
or_true true b e = refl
or_true false b e = e

required_given : (c : List Rule) (required optional : List Text) (more : Option Text) (ws : List Text) (rows : List Row) → AreAt (required ++ optional) more ws rows → Fits required optional more ws
    → is_lacking required (fold with_default rows c) ≡ false
required_given c [] optional more ws rows stands fits = refl
required_given c (i ∷ required) optional more [] rows stands fits = absurd fits
required_given c (i ∷ required) optional more (w ∷ ws) rows stands fits =
    ap (λ (f : Option Row). not (was_given f) || is_lacking required (fold with_default rows c)) (row_kept c rows i (read_row text_reading i (w ∷ [])) stands.0)
    ∙ required_given c required optional more ws rows stands.1 fits

-- what is there at the end fits, or a row lacks
fits_or : (c : List Rule) (required optional : List Text) (more : Option Text) (ws : List Text) (rows : List Row) → HaveNoDefault required c → AreAt (required ++ optional) more ws rows
    → (is_lacking required (fold with_default rows c) ≡ true) ⊎ Fits required optional more ws
fits_or c [] [] None [] rows has stands = inr tt
fits_or c [] [] None (w ∷ ws) rows has stands = absurd cc
fits_or c [] [] (Some m) [] rows has stands = inr tt
fits_or c [] [] (Some m) (w ∷ ws) rows has stands = inr tt
fits_or c [] (i ∷ optional) more [] rows has stands = inr tt
fits_or c [] (i ∷ optional) more (w ∷ ws) rows has stands = fits_or c [] optional more ws rows has stands.1
fits_or c (i ∷ required) optional more [] rows has stands =
    inl (ap (λ (f : Option Row). not (was_given f) || is_lacking required (fold with_default rows c)) (row_missing c rows i has.0 stands.0))
fits_or c (i ∷ required) optional more (w ∷ ws) rows has stands = elim (fits_or c required optional more ws rows has.1 stands.1) [
  | inl lacking ↦ inl (or_true (not (was_given (row_at i (fold with_default rows c)))) (is_lacking required (fold with_default rows c)) lacking)
  | inr fits ↦ inr fits
]

module _ (p : Plan) (c : Takes p) where
  abbrev s : Shape
  s = p.shape

  known_as : (o : Known) → IsIn o p.known → IsAsKnown s o
  known_as o is = as_known s p.known c.options o is

  -- ---- from where something is wrong, all words are refused

  dashes_step : (h : Held) (b : Bool) (position : ℕ) → Steps s (at h (free b) position false) (codes "--") (at h (free b) position true)
  unfolding walked
  dashes_step h true position = (refl, refl)
  dashes_step h false position = (refl, refl)

  dashes_wait : (h : Held) (k : Text) (position : ℕ) → Steps s (at h (option k) position false) (codes "--") (at h (option k) position true)
  unfolding walked
  dashes_wait h k position = (refl, refl)

  turn_of_option : (h : Held) (b : Bool) (position : ℕ) (word : Text) → IsRefused (other_fault s None word h) → IsRefused (turn_fault s [] (at h (free b) position false) word)
  turn_of_option h true position word is = refused_first (other_fault s None word h) _ is
  turn_of_option h false position word is = refused_first (other_fault s None word h) _ is

  turn_of_waiting : (h : Held) (k : Text) (position : ℕ) (word : Text) → IsRefused (other_fault s None word h) → IsRefused (turn_fault s [] (at h (option k) position false) word)
  turn_of_waiting h k position word is = refused_first (other_fault s None word h) _ is

  turn_of_word : (h : Held) (b : Bool) (position : ℕ) (word : Text) → is_data word ≡ true → h.skip ≡ 0 → IsRefused (step_fault s position h value) → IsRefused (turn_fault s [] (at h (free b) position false) word)
  turn_of_word h true position word are skip stands = subst IsRefused (sym (data_turn s h positional position word are skip)) stands
  turn_of_word h false position word are skip stands = subst IsRefused (sym (data_turn s h idle position word are skip)) stands

  is_dashes : (word : Text) → bytes_eq word (codes "--") ≡ true → word ≡ codes "--"
  is_dashes word e = (bytes_eq-Decides word (codes "--")).0 e

  module _ (h : Held) (skip : h.skip ≡ 0) (bad : IsRefused (settles s h)) (position : ℕ) (stands : IsRefused (step_fault s position h value)) where
    ended : (waiting : Waiting) (dashed : Bool) → IsRefused (mistakes_from s (at h waiting position dashed) [])
    unfolding walk_fault
    ended waiting dashed = refused_first _ [] (refused_first (settles s h) _ bad)

    behind_dashes : (waiting : Waiting) (words : List Text) → IsRefused (mistakes_from s (at h waiting position true) words)
    behind_dashes waiting [] = ended waiting true
    behind_dashes waiting (word ∷ words) = refused_at s (at h waiting position true) word words stands

    option_here : (word : Text) → IsOption word → IsRefused (other_fault s None word h)
    option_here word is = elim (c.told word is) [
      | inl this ↦ this_here this.0 (known_as this.0 this.1) this.2
      | inr refused ↦ refused h skip
    ]
      where
        this_here : (o : Known) → IsAsKnown s o → (word ≡ name_of o) ⊎ ((v : Text) × (word ≡ name_of o ++ codes "=" ++ v)) → IsRefused (other_fault s None word h)
        this_here o (inl k) (inl same) = subst (λ (w : Text). IsRefused (other_fault s None w h)) (sym same) (k.2.other h bad)
        this_here o (inl k) (inr v) = subst (λ (w : Text). IsRefused (other_fault s None w h)) (sym v.1) (k.2.valued_other h v.0 bad)
        this_here o (inr k) (inl same) = subst (λ (w : Text). IsRefused (other_fault s None w h)) (sym same) (k.1.other h bad)
        this_here o (inr k) (inr v) = subst (λ (w : Text). IsRefused (other_fault s None w h)) (sym v.1) (k.1.valued v.0 h skip)

    from_idle : (words : List Text) → IsRefused (mistakes_from s (at h idle position false) words)
    from_idle [] = ended idle false
    from_idle (word ∷ words) = elim (cases_Bool (bytes_eq word (codes "--"))) [
      | inl dashes ↦ subst (λ (w : Text). IsRefused (mistakes_from s (at h idle position false) (w ∷ words))) (sym (is_dashes word dashes))
          (refused_step s (at h idle position false) (at h idle position true) (codes "--") words (dashes_step h false position) (behind_dashes idle words))
      | inr other ↦ elim (cases_Bool (is_data word)) [
        | inl are ↦ refused_at s (at h idle position false) word words (turn_of_word h false position word are skip stands)
        | inr taken ↦ refused_at s (at h idle position false) word words (turn_of_option h false position word (option_here word (record { taken = taken; other = other })))
      ]
    ]

    -- a value comes next, or it is refused
    value_or_not : (k : Text) (words : List Text) → ((v : Text) × (rest : List Text) × (words ≡ v ∷ rest) × (is_data v ≡ true)) ⊎ IsRefused (mistakes_from s (at h (option k) position false) words)
    value_or_not k [] = inr (ended (option k) false)
    value_or_not k (word ∷ words) = elim (cases_Bool (bytes_eq word (codes "--"))) [
      | inl dashes ↦ inr (subst (λ (w : Text). IsRefused (mistakes_from s (at h (option k) position false) (w ∷ words))) (sym (is_dashes word dashes))
          (refused_step s (at h (option k) position false) (at h (option k) position true) (codes "--") words (dashes_wait h k position) (behind_dashes (option k) words)))
      | inr other ↦ elim (cases_Bool (is_data word)) [
        | inl are ↦ inl (word, words, refl, are)
        | inr taken ↦ inr (refused_at s (at h (option k) position false) word words (turn_of_waiting h k position word (option_here word (record { taken = taken; other = other }))))
      ]
    ]

  -- ---- what is found in words

  abbrev FitsPlan : List Text → Type 0
  FitsPlan ws = Fits p.required p.optional p.more ws

  record Found (ws : List Text) (vs : Text → List Text) (words : List Text) : Type 0 where
    parts : List Part
    after : List Text
    rest : List Text
    are_typed : AreTyped parts rest words
    is_rest : IsRest after rest
    have_options : HaveOptionsOf (listed_of p.known) parts
    allowed : (o : Known) → IsIn o p.known → IsAllowed o.form (vs (name_of o) ++ values_among (name_of o) parts)
    fits : FitsPlan ((ws ++ words_among parts) ++ after)

  abbrev Refused : Held → Bool → List Text → List Text → Type 0
  Refused h b ws words = IsRefused (mistakes_from s (at h (free b) (at_place p ws) false) words)

  abbrev EachAllowed : (Text → List Text) → Type 0
  EachAllowed vs = (o : Known) → IsIn o p.known → IsAllowed o.form (vs (name_of o))

  abbrev Reads : List Text → Type 0
  Reads words = (h : Held) (b : Bool) (ws : List Text) (vs : Text → List Text) → IsGood p h ws vs → EachAllowed vs → Refused h b ws words ⊎ Found ws vs words

  found_word : (ws : List Text) (vs : Text → List Text) (w : Text) (words : List Text) → is_data w ≡ true → Found (ws ++ w ∷ []) vs words → Found ws vs (w ∷ words)
  found_word ws vs w words are f = record {
    parts = typed_word w ∷ f.parts;
    after = f.after;
    rest = f.rest;
    are_typed = (words, refl, are, f.are_typed);
    is_rest = f.is_rest;
    have_options = f.have_options;
    allowed = f.allowed;
    fits = subst (λ (us : List Text). FitsPlan (us ++ f.after)) (append_assoc ws (w ∷ []) (words_among f.parts)) f.fits;
  }

  found_option : (ws : List Text) (vs : Text → List Text) (o : Known) → IsIn o p.known → is_flag o.form ≡ false → (v : Text) (words behind : List Text) → IsOptionWith (name_of o) v words behind → Found ws (one_more vs (name_of o) v) behind
      → Found ws vs words
  found_option ws vs o is flag v words behind typed f = record {
    parts = typed_option (name_of o) v ∷ f.parts;
    after = f.after;
    rest = f.rest;
    are_typed = (behind, typed, f.are_typed);
    is_rest = f.is_rest;
    have_options = (valued_listed o p.known is flag, f.have_options);
    allowed = λ q also. subst (IsAllowed q.form) (append_assoc (vs (name_of q)) (if bytes_eq (name_of o) (name_of q) then v ∷ [] else []) (values_among (name_of q) f.parts)) (f.allowed q also);
    fits = f.fits;
  }

  found_flag : (ws : List Text) (vs : Text → List Text) (o : Known) → IsIn o p.known → is_flag o.form ≡ true → (words : List Text) → Found ws (one_more vs (name_of o) (codes "true")) words → Found ws vs (name_of o ∷ words)
  found_flag ws vs o is flag words f = record {
    parts = typed_flag (name_of o) ∷ f.parts;
    after = f.after;
    rest = f.rest;
    are_typed = (words, refl, f.are_typed);
    is_rest = f.is_rest;
    have_options = (flag_listed o p.known is flag, f.have_options);
    allowed = λ q also.
        subst (IsAllowed q.form) (append_assoc (vs (name_of q)) (if bytes_eq (name_of o) (name_of q) then codes "true" ∷ [] else []) (values_among (name_of q) f.parts)) (f.allowed q also);
    fits = f.fits;
  }

  found_rest : (ws : List Text) (vs : Text → List Text) (after rest : List Text) → IsRest after rest → EachAllowed vs → FitsPlan (ws ++ after) → Found ws vs rest
  found_rest ws vs after rest is allowed fits = record {
    parts = [];
    after = after;
    rest = rest;
    are_typed = refl;
    is_rest = is;
    have_options = tt;
    allowed = λ o also. subst (IsAllowed o.form) (sym (append-nil (vs (name_of o)))) (allowed o also);
    fits = subst (λ (us : List Text). FitsPlan (us ++ after)) (sym (append-nil ws)) fits;
  }

  -- ---- the end

  complete : (rows : List Row) (ws : List Text) → AreAt (ids_of p) p.more ws rows → FitsPlan ws → rows_fault s rows ≡ []
  complete rows ws stands fits =
      ap (λ (k : Kinds). or_else k (check_fault s (fold with_default rows s.rules) false)) (quiet s.rules rows c.quiet) ∙ c.checks (fold with_default rows s.rules)
      ∙ ap (check_kinds false false) (required_given s.rules p.required p.optional p.more ws rows stands fits)

  refused_lacking : IsRefused (check_kinds false false true)
  unfolding IsRefused
  refused_lacking = tt

  lacking : (rows : List Row) → is_lacking p.required (fold with_default rows s.rules) ≡ true → IsRefused (rows_fault s rows)
  lacking rows is =
      let end = fold with_default rows s.rules in
      refused_then (defaults_fault rows s.rules) (check_fault s end false) (subst IsRefused (sym (c.checks end ∙ ap (check_kinds false false) is)) refused_lacking)

  lacking_end : (h : Held) (b : Bool) (ws : List Text) (vs : Text → List Text) (g : IsGood p h ws vs) → is_lacking p.required (fold with_default g.rows s.rules) ≡ true → (position : ℕ) (d : Bool)
      → IsRefused (mistakes_from s (at h (free b) position d) [])
  unfolding walk_fault
  lacking_end h b ws vs g is position d =
      refused_first _ [] (refused_then (settles s h) (rows_fault s (settled s.rules h).rows) (subst (λ (rows : List Row). IsRefused (rows_fault s rows)) (sym (rows_are p c h ws vs g)) (lacking g.rows is)))

  ends_or : (after : List Text) (h : Held) (b : Bool) (ws : List Text) (vs : Text → List Text) → IsGood p h ws vs → IsRefused (mistakes_from s (at h (free b) (at_place p ws) true) after) ⊎ FitsPlan (ws ++ after)
  ends_or [] h b ws vs g = elim (fits_or s.rules p.required p.optional p.more ws g.rows c.no_default g.stands) [
    | inl is ↦ inl (lacking_end h b ws vs g is (at_place p ws) true)
    | inr fits ↦ inr (subst FitsPlan (sym (append-nil ws)) fits)
  ]
  ends_or (w ∷ after) h b ws vs g = elim (word_behind p c h b ws vs g w) [
    | inl full ↦ inl (refused_at s (at h (free b) (at_place p ws) true) w after (full.0 h))
    | inr next ↦ elim (ends_or after next.0 next.1 (ws ++ w ∷ []) vs next.2) [
      | inl refused ↦ inl (refused_step s (at h (free b) (at_place p ws) true) (at next.0 (free next.1) (at_place p (ws ++ w ∷ [])) true) w after next.3 refused)
      | inr fits ↦ inr (subst FitsPlan (append_assoc ws (w ∷ []) after) fits)
    ]
  ]

  ended_alike : (h : Held) (b : Bool) (position : ℕ) → mistakes_from s (at h (free b) position true) [] ≡ mistakes_from s (at h (free b) position false) []
  unfolding walk_fault
  ended_alike h b position = refl

  -- ---- all words, one by one

  reads_none : Reads []
  reads_none h b ws vs g allowed = elim (ends_or [] h b ws vs g) [
    | inl refused ↦ inl (subst IsRefused (ended_alike h b (at_place p ws)) refused)
    | inr fits ↦ inr (found_rest ws vs [] [] (inl (refl, refl)) allowed fits)
  ]

  reads_dashes : (words : List Text) → Reads (codes "--" ∷ words)
  reads_dashes words h b ws vs g allowed = elim (ends_or words h b ws vs g) [
    | inl refused ↦ inl (refused_step s (at h (free b) (at_place p ws) false) (at h (free b) (at_place p ws) true) (codes "--") words (dashes_step h b (at_place p ws)) refused)
    | inr fits ↦ inr (found_rest ws vs words (codes "--" ∷ words) (inr refl) allowed fits)
  ]

  reads_word : (w : Text) (words : List Text) → is_data w ≡ true → Reads words → Reads (w ∷ words)
  reads_word w words are on h b ws vs g allowed = elim (word_next p c h b ws vs g w are) [
    | inl full ↦ inl (refused_at s (at h (free b) (at_place p ws) false) w words (turn_of_word h b (at_place p ws) w are g.skip (full.0 h)))
    | inr next ↦ elim (on next.0 next.1 (ws ++ w ∷ []) vs next.2 allowed) [
      | inl refused ↦ inl (refused_step s (at h (free b) (at_place p ws) false) (at next.0 (free next.1) (at_place p (ws ++ w ∷ [])) false) w words next.3 refused)
      | inr f ↦ inr (found_word ws vs w words are f)
    ]
  ]

  at_most_if : (v : Text) (b : Bool) → AtMostOne (if b then v ∷ [] else [])
  at_most_if v true = tt
  at_most_if v false = tt

  allowed_more : (vs : Text → List Text) (o : Known) (is : IsIn o p.known) (v : Text) → MayMore o.form (vs (name_of o)) → EachAllowed vs → EachAllowed (one_more vs (name_of o) v)
  allowed_more vs o is v may allowed q also = elim (same_or p.known c.ids_apart c.names_apart o q is also) [
    | inl same ↦ subst (λ (q : Known). IsAllowed q.form (one_more vs (name_of o) v (name_of q))) same (this may)
    | inr differs ↦ subst (λ (b : Bool). IsAllowed q.form (vs (name_of q) ++ (if b then v ∷ [] else []))) (sym differs.1) (subst (IsAllowed q.form) (sym (append-nil (vs (name_of q)))) (allowed q also))
  ]
    where
      this : MayMore o.form (vs (name_of o)) → IsAllowed o.form (one_more vs (name_of o) v (name_of o))
      this (inl many) = subst (λ (form : Form). IsAllowed form (one_more vs (name_of o) v (name_of o))) (sym many) tt
      this (inr none) = allowed_once o.form (one_more vs (name_of o) v (name_of o))
          (subst (λ (xs : List Text). AtMostOne (xs ++ (if bytes_eq (name_of o) (name_of o) then v ∷ [] else []))) (sym none) (at_most_if v (bytes_eq (name_of o) (name_of o))))

  -- the option was given already
  was_used : (h : Held) (ws : List Text) (vs : Text → List Text) (g : IsGood p h ws vs) (o : Known) (is : IsIn o p.known) (x : Text) (xs : List Text) → vs (name_of o) ≡ x ∷ xs → has_row o.id g.rows ≡ true
  was_used h ws vs g o is x xs e = one_row o.id g.rows (read_row o.reading o.id (x ∷ xs)) (g.chosen o is ∙ ap (values_row o.reading o.id) e)

  module _ (o : Known) (is : IsIn o p.known) (flag : is_flag o.form ≡ false) (text : o.reading ≡ text_reading) (valued : IsValued s o.form (name_of o) o.id) where
    -- one more value may come, or the option was given and is used once
    more_of : (vs : Text → List Text) → MayMore o.form (vs (name_of o)) ⊎ (IsUsedOnce s text_reading o.id × (x : Text) × (xs : List Text) × (vs (name_of o) ≡ x ∷ xs))
    more_of vs = more_or s o.form o.id valued.usage (vs (name_of o))

    reads_valued : (v : Text) (words : List Text) → Reads words → Reads ((name_of o ++ codes "=" ++ v) ∷ words)
    reads_valued v words on h b ws vs g allowed = elim (more_of vs) [
      | inl may ↦ new may
      | inr used ↦ inl (refused_at s (at h (free b) (at_place p ws) false) (name_of o ++ codes "=" ++ v) words
          (subst IsRefused (sym ((valued.at_free b).valued_turn h (at_place p ws) v))
          (refused_first _ [] (refused_then (settles s h) (settles s (with_pending (settled s.rules h) o.id (v ∷ [])))
          (subst (λ (k : Held). IsRefused (settles s k)) (sym (pending_is p c h g.rows o.id (v ∷ []) g.settled_is))
          (used.0.again g.rows v (was_used h ws vs g o is used.1 used.2 used.3)))))))
    ]
      where
        new : MayMore o.form (vs (name_of o)) → Refused h b ws ((name_of o ++ codes "=" ++ v) ∷ words) ⊎ Found ws vs ((name_of o ++ codes "=" ++ v) ∷ words)
        new may =
            let to = held g.rows (Some (o.id, v ∷ [])) in
            let good = settled_good p c to ws (one_more vs (name_of o) v) (option_good p c o is text valued h ws vs g v may) in
            elim (on (settled s.rules to) false ws (one_more vs (name_of o) v) good (allowed_more vs o is v may allowed)) [
              | inl refused ↦ inl (refused_step s (at h (free b) (at_place p ws) false) (at (settled s.rules to) idle (at_place p ws) false) (name_of o ++ codes "=" ++ v) words
                  (valued_steps p c o is text valued h b ws vs g v may) refused)
              | inr f ↦ inr (found_option ws vs o is flag v ((name_of o ++ codes "=" ++ v) ∷ words) words (inr refl) f)
            ]

    reads_alone : (words : List Text) → Reads (drop 1 words) → Reads (name_of o ∷ words)
    reads_alone words on h b ws vs g allowed = elim (value_or_not bare (held_skip g.rows (Some (o.id, []))) bad (at_place p ws) (stands_at p c bare ws vs h g bad) o.id words) [
      | inl next ↦ by next.0 next.1 next.2 next.3
      | inr refused ↦ inl (refused_step s (at h (free b) (at_place p ws) false) (at bare (option o.id) (at_place p ws) false) (name_of o) words steps refused)
    ]
      where
        bare : Held
        bare = held g.rows (Some (o.id, []))

        bad : IsRefused (settles s bare)
        bad = valued.bare g.rows

        steps : Steps s (at h (free b) (at_place p ws) false) (name_of o) (at bare (option o.id) (at_place p ws) false)
        steps = waits_steps p c o is text valued h b ws vs g

        -- behind the value
        behind : (v : Text) (rest : List Text) → words ≡ v ∷ rest → is_data v ≡ true → Refused (held g.rows (Some (o.id, v ∷ []))) false ws rest → Refused h b ws (name_of o ∷ words)
        behind v rest e are refused =
            refused_step s (at h (free b) (at_place p ws) false) (at bare (option o.id) (at_place p ws) false) (name_of o) words steps
            (subst (λ (us : List Text). IsRefused (mistakes_from s (at bare (option o.id) (at_place p ws) false) us)) (sym e)
            (refused_step s (at bare (option o.id) (at_place p ws) false) (at (held g.rows (Some (o.id, v ∷ []))) idle (at_place p ws) false) v rest (valued.takes g.rows (at_place p ws) v are) refused))

        new : (v : Text) (rest : List Text) → words ≡ v ∷ rest → is_data v ≡ true → MayMore o.form (vs (name_of o)) → Refused h b ws (name_of o ∷ words) ⊎ Found ws vs (name_of o ∷ words)
        new v rest e are may =
            elim (subst Reads (ap (drop 1) e) on (held g.rows (Some (o.id, v ∷ []))) false ws (one_more vs (name_of o) v)
            (option_good p c o is text valued h ws vs g v may) (allowed_more vs o is v may allowed)) [
              | inl refused ↦ inl (behind v rest e are refused)
              | inr f ↦ inr (found_option ws vs o is flag v (name_of o ∷ words) rest (inl (ap (λ (us : List Text). name_of o ∷ us) e, are)) f)
            ]

        by : (v : Text) (rest : List Text) → words ≡ v ∷ rest → is_data v ≡ true → Refused h b ws (name_of o ∷ words) ⊎ Found ws vs (name_of o ∷ words)
        by v rest e are = elim (more_of vs) [
          | inl may ↦ new v rest e are may
          | inr used ↦
              let again = used.0.again g.rows v (was_used h ws vs g o is used.1 used.2 used.3) in
              let twice = held g.rows (Some (o.id, v ∷ [])) in
              inl (behind v rest e are (from_idle twice (held_skip g.rows (Some (o.id, v ∷ []))) again (at_place p ws) (stands_at p c twice ws vs h g again) rest))
        ]

  repeated_refused : IsRefused (repeats true)
  unfolding IsRefused
  repeated_refused = tt

  reads_flag : (o : Known) (is : IsIn o p.known) (flag : is_flag o.form ≡ true) (as_flag : IsFlag s o.reading (name_of o) o.id) (words : List Text) → Reads words → Reads (name_of o ∷ words)
  reads_flag o is flag as_flag words on h b ws vs g allowed = by (vs (name_of o)) refl
    where
      to : Held
      to = held (flag_rows p c o is as_flag g.rows) None

      by : (xs : List Text) → vs (name_of o) ≡ xs → Refused h b ws (name_of o ∷ words) ⊎ Found ws vs (name_of o ∷ words)
      by [] none =
          elim (on to false ws (one_more vs (name_of o) (codes "true")) (flag_good p c o is as_flag h ws vs g none) (allowed_more vs o is (codes "true") (inr none) allowed)) [
            | inl refused ↦ inl (refused_step s (at h (free b) (at_place p ws) false) (at to idle (at_place p ws) false) (name_of o) words (flag_steps p c o is as_flag h b ws vs g none) refused)
            | inr f ↦ inr (found_flag ws vs o is flag words f)
          ]
      by (x ∷ xs) e = inl (refused_at s (at h (free b) (at_place p ws) false) (name_of o) words
          (subst IsRefused (sym ((as_flag.at_free b).turn h (at_place p ws)))
          (refused_first _ [] (refused_then (settles s h) (repeats (has_row o.id (settled s.rules h).rows))
          (subst (λ (b : Bool). IsRefused (repeats b)) (sym (ap (has_row o.id) (rows_are p c h ws vs g) ∙ was_used h ws vs g o is x xs e)) repeated_refused)))))

  reads_option : (o : Known) → IsIn o p.known → (word : Text) (words : List Text) → Reads words → Reads (drop 1 words) → IsThis (name_of o) word → IsAsKnown s o → Reads (word ∷ words)
  reads_option o is word words on behind (inl same) (inl k) = subst (λ (w : Text). Reads (w ∷ words)) (sym same) (reads_alone o is k.0 k.1 k.2 words behind)
  reads_option o is word words on behind (inr v) (inl k) = subst (λ (w : Text). Reads (w ∷ words)) (sym v.1) (reads_valued o is k.0 k.1 k.2 v.0 words on)
  reads_option o is word words on behind (inl same) (inr k) = subst (λ (w : Text). Reads (w ∷ words)) (sym same) (reads_flag o is k.0 k.1 words on)
  reads_option o is word words on behind (inr v) (inr k) =
      λ h b ws vs g allowed. inl (refused_at s (at h (free b) (at_place p ws) false) word words
      (turn_of_option h b (at_place p ws) word (subst (λ (w : Text). IsRefused (other_fault s None w h)) (sym v.1) (k.1.valued v.0 h g.skip))))

  reads_one : (word : Text) (words : List Text) → Reads words → Reads (drop 1 words) → Reads (word ∷ words)
  reads_one word words on behind = elim (cases_Bool (bytes_eq word (codes "--"))) [
    | inl dashes ↦ subst (λ (w : Text). Reads (w ∷ words)) (sym (is_dashes word dashes)) (reads_dashes words)
    | inr other ↦ elim (cases_Bool (is_data word)) [
      | inl are ↦ reads_word word words are on
      | inr taken ↦ elim (c.told word (record { taken = taken; other = other })) [
        | inl this ↦ reads_option this.0 this.1 word words on behind this.2 (known_as this.0 this.1)
        | inr refused ↦ λ h b ws vs g allowed. inl (refused_at s (at h (free b) (at_place p ws) false) word words (turn_of_option h b (at_place p ws) word (refused h g.skip)))
      ]
    ]
  ]

  reads_both : (words : List Text) → Reads words × Reads (drop 1 words)
  reads_both [] = (reads_none, reads_none)
  reads_both (word ∷ words) = (let both = reads_both words in (reads_one word words both.0 both.1, both.0))

  typed_of : (behind : List Text) (f : Found [] (λ n. []) behind) → AreTaken p.with_options behind (words_among f.parts ++ f.after) (λ n. values_among n f.parts)
  typed_of behind f = (
    record {
      parts = f.parts;
      after = f.after;
      rest = f.rest;
      are_typed = f.are_typed;
      is_rest = f.is_rest;
      have_options = subst (λ (os : Options). HaveOptionsOf os f.parts) (sym c.listed) f.have_options;
      allowed = subst (λ (os : Options). AreAllowed os (λ n. values_among n f.parts)) (sym c.listed) (are_allowed p.known (λ n. values_among n f.parts) f.allowed);
      given_are = refl;
      values_are = λ n. refl;
    },
    c.fits (words_among f.parts ++ f.after) f.fits,
  )

  -- what isn't mistaken is spelled
  unmistaken : (called : Text) (behind : List Text) → mistakes_in (called ∷ p.command ∷ behind) ≡ [] → (given : List Text) × (values : Text → List Text) × AreTaken p.with_options behind given values
  unmistaken called behind none = elim ((reads_both behind).0 nothing_held false [] (λ n. []) (good_start p c) (λ o is. allowed_once o.form [] tt)) [
    | inl refused ↦ refused_isnt _ (refused_from p.command s c.is called behind behind (walk_from nothing_held) (refl, refl) refused) none
    | inr f ↦ (words_among f.parts ++ f.after, (λ n. values_among n f.parts), typed_of behind f)
  ]

  -- ---- what is spelled names its task

  dashes_or_none : (after rest : List Text) → IsRest after rest → AreSpelled after rest
  dashes_or_none after rest (inl is) = inl (is.1 ∙ sym is.0, ap (λ (ws : List Text). list_all is_data ws) is.0)
  dashes_or_none after rest (inr is) = inr ([], after, is, refl, refl)

  comes_from_free : (called : Text) (words after given : List Text) (h : Held) (b : Bool) (position : ℕ) → h.skip ≡ 0 → AreSpelled given after
      → Leads s (walk_from nothing_held) words (at h (free b) position false) after
      → (mistakes_in (called ∷ p.command ∷ words) ≡ mistakes_from s (at h (free b) position true) given) × (named_in (called ∷ p.command ∷ words) ≡ named_from s (at h (free b) position true) given)
  comes_from_free called words after given h b position skip spelled leads = comes_from p.command s c.is called words after given h (free b) position (frees b) skip spelled leads

  -- words that lead to what is good
  record Goes (h : Held) (b : Bool) (ws : List Text) (words : List Text) (d e : Bool) (us : List Text) (xs : Text → List Text) (others : List Text) : Type 0 where
    to : Held
    many : Bool
    good : IsGood p to us xs
    leads : Leads s (at h (free b) (at_place p ws) d) words (at to (free many) (at_place p us) e) others

  goes_on : (h mid : Held) (b m : Bool) (ws us ends : List Text) (word : Text) (words others : List Text) (d e : Bool) (xs : Text → List Text) → Steps s (at h (free b) (at_place p ws) d) word (at mid (free m) (at_place p us) d)
      → Goes mid m us words d e ends xs others → Goes h b ws (word ∷ words) d e ends xs others
  goes_on h mid b m ws us ends word words others d e xs step on = record {
    to = on.to;
    many = on.many;
    good = on.good;
    leads = leads_on s (at h (free b) (at_place p ws) d) (at mid (free m) (at_place p us) d) (at on.to (free on.many) (at_place p ends) e) word words others step on.leads;
  }

  abbrev Passes : List Part → Type 0
  Passes parts = (rest words after : List Text) (h : Held) (b : Bool) (ws : List Text) (vs : Text → List Text) → IsGood p h ws vs → AreTyped parts rest words → HaveOptionsOf (listed_of p.known) parts
      → FitsPlan ((ws ++ words_among parts) ++ after) → ((o : Known) → IsIn o p.known → IsAllowed o.form (vs (name_of o) ++ values_among (name_of o) parts))
      → Goes h b ws words false false (ws ++ words_among parts) (λ n. vs n ++ values_among n parts) rest

  pass_word : (w : Text) (parts : List Part) → Passes parts → Passes (typed_word w ∷ parts)
  pass_word w parts on rest words after h b ws vs g typed have fits allowed = elim (word_next p c h b ws vs g w typed.2) [
    | inl full ↦ absurd (out_of_room p.required p.optional p.more ws w (words_among parts ++ after) full.1 (subst FitsPlan (append_assoc ws (w ∷ words_among parts) after) fits))
    | inr next ↦
        let further = on rest typed.0 after next.0 next.1 (ws ++ w ∷ []) vs next.2 typed.3 have
        (subst (λ (us : List Text). FitsPlan (us ++ after)) (sym (append_assoc ws (w ∷ []) (words_among parts))) fits) allowed in
        subst (λ (us : List Text). Goes h b ws us false false (ws ++ w ∷ words_among parts) (λ n. vs n ++ values_among n parts) rest) (sym typed.1)
        (subst (λ (us : List Text). Goes h b ws (w ∷ typed.0) false false us (λ n. vs n ++ values_among n parts) rest) (append_assoc ws (w ∷ []) (words_among parts))
        (goes_on h next.0 b next.1 ws (ws ++ w ∷ []) ((ws ++ w ∷ []) ++ words_among parts) w typed.0 rest false false (λ n. vs n ++ values_among n parts) next.3 further))
  ]

  module _ (o : Known) (is : IsIn o p.known) (v : Text) (parts : List Part) (on : Passes parts) (rest typed after ws : List Text) (vs : Text → List Text) (have : HaveOptionsOf (listed_of p.known) parts)
      (fits : FitsPlan ((ws ++ words_among parts) ++ after)) (allowed : (q : Known) → IsIn q p.known → IsAllowed q.form (vs (name_of q) ++ ((if bytes_eq (name_of o) (name_of q) then v ∷ [] else []) ++ values_among (name_of q) parts)))
      (are : AreTyped parts rest typed) where
    abbrev Ends : Held → Bool → List Text → Type 0
    Ends h b words = Goes h b ws words false false (ws ++ words_among parts) (λ n. vs n ++ ((if bytes_eq (name_of o) n then v ∷ [] else []) ++ values_among n parts)) rest

    may_more : MayMore o.form (vs (name_of o))
    may_more = may_before o.form (vs (name_of o)) (values_among (name_of o) parts) v (bytes_eq (name_of o) (name_of o)) ((bytes_eq-Decides (name_of o) (name_of o)).1 refl) (allowed o is)

    allowed_behind : (q : Known) → IsIn q p.known → IsAllowed q.form (one_more vs (name_of o) v (name_of q) ++ values_among (name_of q) parts)
    allowed_behind q also = subst (IsAllowed q.form) (sym (append_assoc (vs (name_of q)) (if bytes_eq (name_of o) (name_of q) then v ∷ [] else []) (values_among (name_of q) parts))) (allowed q also)

    on_from : (k : Held) → IsGood p k ws (one_more vs (name_of o) v) → Ends k false typed
    on_from k good =
        subst (λ (xs : Text → List Text). Goes k false ws typed false false (ws ++ words_among parts) xs rest)
        (λ i n. append_assoc (vs n) (if bytes_eq (name_of o) n then v ∷ [] else []) (values_among n parts) i)
        (on rest typed after k false ws (one_more vs (name_of o) v) good are have fits allowed_behind)

    pass_valued : (text : o.reading ≡ text_reading) (valued : IsValued s o.form (name_of o) o.id) (words : List Text) (h : Held) (b : Bool) (g : IsGood p h ws vs) → IsOptionWith (name_of o) v words typed → Ends h b words
    pass_valued text valued words h b g (inl typed_is) =
        let bare = held g.rows (Some (o.id, [])) in
        let whole = held g.rows (Some (o.id, v ∷ [])) in
        let further = on_from whole (option_good p c o is text valued h ws vs g v may_more) in
        subst (Ends h b) (sym typed_is.0)
        (record {
          to = further.to;
          many = further.many;
          good = further.good;
          leads = leads_on s (at h (free b) (at_place p ws) false) (at bare (option o.id) (at_place p ws) false) (at further.to (free further.many) (at_place p (ws ++ words_among parts)) false) (name_of o) (v ∷ typed) rest
              (waits_steps p c o is text valued h b ws vs g)
              (leads_on s (at bare (option o.id) (at_place p ws) false) (at whole idle (at_place p ws) false) (at further.to (free further.many) (at_place p (ws ++ words_among parts)) false) v typed rest
              (valued.takes g.rows (at_place p ws) v typed_is.1) further.leads);
        })
    pass_valued text valued words h b g (inr typed_is) =
        let whole = held g.rows (Some (o.id, v ∷ [])) in
        let good = settled_good p c whole ws (one_more vs (name_of o) v) (option_good p c o is text valued h ws vs g v may_more) in
        subst (Ends h b) (sym typed_is)
        (goes_on h (settled s.rules whole) b false ws ws (ws ++ words_among parts) (name_of o ++ codes "=" ++ v) typed rest false false
        (λ n. vs n ++ ((if bytes_eq (name_of o) n then v ∷ [] else []) ++ values_among n parts)) (valued_steps p c o is text valued h b ws vs g v may_more) (on_from (settled s.rules whole) good))

  pass_flag : (o : Known) (is : IsIn o p.known) (flag : is_flag o.form ≡ true) (as_flag : IsFlag s o.reading (name_of o) o.id) (parts : List Part) → Passes parts → (rest words after : List Text) (h : Held) (b : Bool) (ws : List Text) (vs : Text → List Text)
      → IsGood p h ws vs → AreTyped (typed_flag (name_of o) ∷ parts) rest words → HaveOptionsOf (listed_of p.known) parts → FitsPlan ((ws ++ words_among parts) ++ after)
      → ((q : Known) → IsIn q p.known → IsAllowed q.form (vs (name_of q) ++ values_among (name_of q) (typed_flag (name_of o) ∷ parts)))
      → Goes h b ws words false false (ws ++ words_among parts) (λ n. vs n ++ values_among n (typed_flag (name_of o) ∷ parts)) rest
  pass_flag o is flag as_flag parts on rest words after h b ws vs g typed have fits allowed =
      let none = flag_before o.form (vs (name_of o)) flag (may_more o is (codes "true") parts on rest typed.0 after ws vs have fits allowed typed.2) in
      let to = held (flag_rows p c o is as_flag g.rows) None in
      subst (Ends o is (codes "true") parts on rest typed.0 after ws vs have fits allowed typed.2 h b) (sym typed.1)
      (goes_on h to b false ws ws (ws ++ words_among parts) (name_of o) typed.0 rest false false
      (λ n. vs n ++ values_among n (typed_flag (name_of o) ∷ parts)) (flag_steps p c o is as_flag h b ws vs g none)
      (on_from o is (codes "true") parts on rest typed.0 after ws vs have fits allowed typed.2 to (flag_good p c o is as_flag h ws vs g none)))

  pass_named : (o : Known) (is : IsIn o p.known) (v : Text) (parts : List Part) → is_flag o.form ≡ false → IsAsKnown s o → Passes parts → Passes (typed_option (name_of o) v ∷ parts)
  pass_named o is v parts flag (inl k) on rest words after h b ws vs g typed have fits allowed =
      pass_valued o is v parts on rest typed.0 after ws vs have.1 fits allowed typed.2 k.1 k.2 words h b g typed.1
  pass_named o is v parts flag (inr k) on rest words after h b ws vs g typed have fits allowed = absurd (is_none (sym flag ∙ k.0))

  pass_flagged : (o : Known) (is : IsIn o p.known) (parts : List Part) → is_flag o.form ≡ true → IsAsKnown s o → Passes parts → Passes (typed_flag (name_of o) ∷ parts)
  pass_flagged o is parts flag (inl k) on rest words after h b ws vs g typed have fits allowed = absurd (is_none (sym k.0 ∙ flag))
  pass_flagged o is parts flag (inr k) on rest words after h b ws vs g typed have fits allowed = pass_flag o is flag k.1 parts on rest words after h b ws vs g typed have.1 fits allowed

  pass_option : (n v : Text) (parts : List Part) → Passes parts → Passes (typed_option n v ∷ parts)
  pass_option n v parts on rest words after h b ws vs g typed have =
      let o = valued_among n p.known have.0 in
      subst (λ (m : Text). Passes (typed_option m v ∷ parts)) (sym o.2) (pass_named o.0 o.1 v parts o.3 (known_as o.0 o.1) on) rest words after h b ws vs g typed have

  pass_flag_named : (n : Text) (parts : List Part) → Passes parts → Passes (typed_flag n ∷ parts)
  pass_flag_named n parts on rest words after h b ws vs g typed have =
      let o = flag_among n p.known have.0 in
      subst (λ (m : Text). Passes (typed_flag m ∷ parts)) (sym o.2) (pass_flagged o.0 o.1 parts o.3 (known_as o.0 o.1) on) rest words after h b ws vs g typed have

  pass_none : Passes []
  pass_none rest words after h b ws vs g typed have fits allowed = record {
    to = h;
    many = b;
    good = good_as p c h ws (ws ++ []) vs (λ n. vs n ++ []) g (sym (append-nil ws)) (λ n. sym (append-nil (vs n)));
    leads = subst (λ (us : List Text). Leads s (at h (free b) (at_place p ws) false) words (at h (free b) (at_place p us) false) rest) (sym (append-nil ws))
        (subst (λ (us : List Text). Leads s (at h (free b) (at_place p ws) false) us (at h (free b) (at_place p ws) false) rest) (sym typed) (refl, refl));
  }

  passes : (parts : List Part) → Passes parts
  passes [] = pass_none
  passes (typed_word w ∷ parts) = pass_word w parts (passes parts)
  passes (typed_option n v ∷ parts) = pass_option n v parts (passes parts)
  passes (typed_flag n ∷ parts) = pass_flag_named n parts (passes parts)

  -- the words behind two dashes, or none
  all_go : (after : List Text) (h : Held) (b : Bool) (ws : List Text) (vs : Text → List Text) → IsGood p h ws vs → FitsPlan (ws ++ after) → Goes h b ws after true true (ws ++ after) vs []
  all_go [] h b ws vs g fits = record {
    to = h;
    many = b;
    good = good_as p c h ws (ws ++ []) vs vs g (sym (append-nil ws)) (λ n. refl);
    leads = subst (λ (us : List Text). Leads s (at h (free b) (at_place p ws) true) [] (at h (free b) (at_place p us) true) []) (sym (append-nil ws)) (refl, refl);
  }
  all_go (w ∷ after) h b ws vs g fits = elim (word_behind p c h b ws vs g w) [
    | inl full ↦ absurd (out_of_room p.required p.optional p.more ws w after full.1 fits)
    | inr next ↦
        subst (λ (us : List Text). Goes h b ws (w ∷ after) true true us vs []) (append_assoc ws (w ∷ []) after)
        (goes_on h next.0 b next.1 ws (ws ++ w ∷ []) ((ws ++ w ∷ []) ++ after) w after [] true true vs next.3
        (all_go after next.0 next.1 (ws ++ w ∷ []) vs next.2 (subst FitsPlan (sym (append_assoc ws (w ∷ []) after)) fits)))
  ]

  end_clean : (h : Held) (b : Bool) (ws : List Text) (vs : Text → List Text) → IsGood p h ws vs → FitsPlan ws → mistakes_from s (at h (free b) (at_place p ws) true) [] ≡ []
  unfolding walk_fault
  end_clean h b ws vs g fits =
      ap (λ (k : Kinds). or_else (or_else k (rows_fault s (settled s.rules h).rows)) []) g.clean
      ∙ ap (λ (rows : List Row). or_else (rows_fault s rows) []) (rows_are p c h ws vs g)
      ∙ ap (λ (k : Kinds). or_else k []) (complete g.rows ws g.stands fits)

  end_named : (h : Held) (b : Bool) (ws : List Text) (vs : Text → List Text) → IsGood p h ws vs → FitsPlan ws → AreTrue p.known vs
      → named_from s (at h (free b) (at_place p ws) true) [] ≡ option_map (λ words. p.command ∷ words) (p.with_options.words_for ws vs)
  end_named h b ws vs g fits are =
      ap (λ (rows : List Row). words_in (Some (s.name, fold with_default rows s.rules))) (rows_are p c h ws vs g) ∙ c.reads g.rows ws vs g.stands fits g.chosen are

  abbrev Means : Text → List Text → List Text → (Text → List Text) → Type 0
  Means called behind given values =
      (mistakes_in (called ∷ p.command ∷ behind) ≡ []) × (named_in (called ∷ p.command ∷ behind) ≡ option_map (λ words. p.command ∷ words) (p.with_options.words_for given values))

  true_one : (n v : Text) (rest : List Text) (b : Bool) → (b ≡ true → v ≡ codes "true") → IsTrue rest → IsTrue ((if b then v ∷ [] else []) ++ rest)
  true_one n v rest true is on = is refl
  true_one n v rest false is on = on

  -- what has no value is typed without one
  flags_true : (parts : List Part) → HaveOptionsOf (listed_of p.known) parts → AreTrue p.known (λ n. values_among n parts)
  flags_true [] have o is flag = tt
  flags_true (typed_word w ∷ parts) have o is flag = flags_true parts have o is flag
  flags_true (typed_option n v ∷ parts) have o is flag =
      let other = valued_among n p.known have.0 in
      true_one n v (values_among (name_of o) parts) (bytes_eq n (name_of o)) (λ same. absurd (not_both other.0 other.1 (sym ((bytes_eq-Decides n (name_of o)).0 same) ∙ other.2) other.3)) (flags_true parts have.1 o is flag)
    where
      not_both : (q : Known) → IsIn q p.known → name_of o ≡ name_of q → is_flag q.form ≡ false → ⊥
      not_both q also names none = elim (same_or p.known c.ids_apart c.names_apart o q is also) [
        | inl same ↦ is_none (sym none ∙ ap (λ (k : Known). is_flag k.form) (sym same) ∙ flag)
        | inr differs ↦ is_none (sym differs.1 ∙ (bytes_eq-Decides (name_of o) (name_of q)).1 names)
      ]
  flags_true (typed_flag n ∷ parts) have o is flag =
      true_one n (codes "true") (values_among (name_of o) parts) (bytes_eq n (name_of o)) (λ same. refl) (flags_true parts have.1 o is flag)

  means_from : (called : Text) (behind after : List Text) (h : Held) (b : Bool) (ws : List Text) (vs : Text → List Text) → IsGood p h ws vs → FitsPlan (ws ++ after) → AreTrue p.known vs
      → (mistakes_in (called ∷ p.command ∷ behind) ≡ mistakes_from s (at h (free b) (at_place p ws) true) after)
      × (named_in (called ∷ p.command ∷ behind) ≡ named_from s (at h (free b) (at_place p ws) true) after) → Means called behind (ws ++ after) vs
  means_from called behind after h b ws vs g fits are from = at_end (all_go after h b ws vs g fits)
    where
      at_end : Goes h b ws after true true (ws ++ after) vs [] → Means called behind (ws ++ after) vs
      at_end end = (
        from.0 ∙ ap₂ (kinds_of s) end.leads.1 (ap (λ (w : Walk). w.held) end.leads.0) ∙ end_clean end.to end.many (ws ++ after) vs end.good fits,
        from.1 ∙ ap (λ (w : Walk). words_in (Some (s.name, finished s.rules w.held))) end.leads.0 ∙ end_named end.to end.many (ws ++ after) vs end.good fits are,
      )

  spelled_means : (called : Text) (behind given : List Text) (values : Text → List Text) → AreTaken p.with_options behind given values → Means called behind given values
  spelled_means called behind given values are =
      let t = are.0 in
      let vs : Text → List Text = λ n. values_among n t.parts in
      let ws = words_among t.parts in
      let have = subst (λ (os : Options). HaveOptionsOf os t.parts) c.listed t.have_options in
      let allowed = each_allowed p.known vs (subst (λ (os : Options). AreAllowed os vs) c.listed t.allowed) in
      let fits : FitsPlan (ws ++ t.after) = subst FitsPlan t.given_are (c.taken given are.1) in
      let goes = passes t.parts t.rest behind t.after nothing_held false [] (λ n. []) (good_start p c) t.are_typed have fits allowed in
      let from = comes_from_free called behind t.rest t.after goes.to goes.many (at_place p ws) goes.good.skip (dashes_or_none t.after t.rest t.is_rest) goes.leads in
      subst (λ (ws : List Text). Means called behind ws values) (sym t.given_are)
      (subst (λ (xs : Text → List Text). Means called behind (ws ++ t.after) xs) (λ i n. sym (t.values_are n) i)
      (means_from called behind t.after goes.to goes.many ws vs goes.good fits (flags_true t.parts have) from))

  pub means : MeansWithOptions p.command p.with_options
  means called behind = (unmistaken called behind, spelled_means called behind)
