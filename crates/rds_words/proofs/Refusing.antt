-- Words that a command refuses: options that it doesn't have, and requests for help or the version.
use Rattle.std.proofs.Common.{◌≡◌, ◌⊎◌, ◌&&◌, ◌==◌, ℕ, Bool, List, [], ◌∷◌, ◌++◌, codes, true, false, not, Option, Some, None, length, suc, refl, sym, subst, inl, inr}
use Rattle.std.specs.Prelude.{⊤, drop, encode_utf8, is_some, slice_get}
use Rattle.std.specs.Str.{bytes_eq, chars}
use Rattle.std.proofs.lemmas.Bool.{eqb-true}
use Rattle.clap.specs.Lexer.{long_of, name_and_value, short_of}
use Rattle.clap.specs.Words.{Kinds, Row, Rule, Shape, Text}
use Rattle.clap.specs.Kinds.{or_else}
use Rattle.clap.specs.Faults.{flags_fault, long_fault, other_fault, react_fault, settle_fault, short_fault, turn_fault, use_fault, walk_fault}
use Rattle.clap.specs.Walk.{Held, Waiting, Walk, arg_by_index, arg_by_long, arg_by_short, idle, option, positional, reacted, settled, takes_values, walked}
use Rattle.rds_words.specs.Written.{AreData, is_data}
use Rattle.rds_names.specs.Conditions.{and_left, and_right}
use Rattle.rds_words.proofs.Behind.{AreShort, data_step}
use Rattle.rds_words.proofs.DataWords.{has_character}
use Rattle.rds_words.proofs.Dashed.{at, is_free, value_next}

-- there is a fault
unfoldable pub IsRefused : Kinds → Type 0
IsRefused [] = ⊥
IsRefused (k ∷ ks) = ⊤

pub refused_first : (first later : Kinds) → IsRefused first → IsRefused (or_else first later)
unfolding IsRefused
refused_first [] later is = absurd is
refused_first (k ∷ ks) later is = tt

pub refused_then : (first later : Kinds) → IsRefused later → IsRefused (or_else first later)
unfolding IsRefused
refused_then [] later is = is
refused_then (k ∷ ks) later is = tt

-- the option is none, or one that takes no value and is answered by a fault
abbrev pub IsRequest : Shape → Option Rule → Type 0
IsRequest s None = ⊤
IsRequest s (Some a) = (takes_values a ≡ false) × ((rows : List Row) → IsRefused (use_fault s.args_override_self a [] rows))

-- each short option is one of these
abbrev pub HasShortRequests : Shape → Type 0
HasShortRequests s = (character : ℕ) → IsRequest s (arg_by_short s.rules character)

pub record HasRequestsAlone (s : Shape) : Type 0 where
  pub long : (name : Text) → IsRequest s (arg_by_long s.rules name)
  pub short : HasShortRequests s

-- what is pending is used before
used_up : (s : Shape) (a : Rule) (h : Held) → IsRefused (use_fault s.args_override_self a [] (settled s.rules h).rows) → IsRefused (react_fault s.rules s.args_override_self a [] h)
used_up s a h is = refused_then (settle_fault s.rules s.args_override_self h) (use_fault s.args_override_self a [] (settled s.rules h).rows) is

pub long_refused : (s : Shape) (a : Option Rule) → IsRequest s a → (v : Option Text) (h : Held) → IsRefused (long_fault s.rules s.args_override_self a v h)
unfolding IsRefused
long_refused s None is v h = tt
long_refused s (Some a) is (Some v) h = rw is.0 tt
long_refused s (Some a) is None h = rw is.0 (used_up s a h (is.1 (settled s.rules h).rows))

short_refused : (s : Shape) (a : Option Rule) → IsRequest s a → (rest : Text) (h : Held) (next : Held → Kinds) → IsRefused (short_fault s.rules s.args_override_self a rest h next)
unfolding IsRefused
short_refused s None is rest h next = tt
short_refused s (Some a) is rest h next = rw is.0 (refused_first (react_fault s.rules s.args_override_self a [] h) (next (reacted s.rules a [] h)) (used_up s a h (is.1 (settled s.rules h).rows)))

flags_refused : (s : Shape) → HasShortRequests s → (flags : Text) (found : Option ℕ) → slice_get (chars flags) 0 ≡ found → is_some found ≡ true → (k : ℕ) (h : Held)
    → IsRefused (flags_fault s.rules s.args_override_self (suc k) flags 0 h)
unfolding flags_fault
flags_refused s short flags None is some k h = absurd cc
flags_refused s short flags (Some x) is some k h =
    rw is (short_refused s (arg_by_short s.rules x) (short x) (drop (length (encode_utf8 x)) flags) h (flags_fault s.rules s.args_override_self k (drop (length (encode_utf8 x)) flags) 0))

-- ---- a word that may be taken for an option

-- it is a hyphen with a character behind it, and isn't two dashes
pub record IsOption (word : Text) : Type 0 where
  pub taken : is_data word ≡ false
  pub other : bytes_eq word (codes "--") ≡ false

no_data : (b c : Bool) → not (b && c) ≡ false → (b ≡ true) × (c ≡ true)
no_data true true e = (refl, refl)
no_data true false e = absurd cc
no_data false c e = absurd cc

-- `--` and more
long_option : (s : Shape) → HasRequestsAlone s → (xs : Text) (h : Held) → bytes_eq (45 ∷ 45 ∷ xs) (45 ∷ 45 ∷ []) ≡ false → IsRefused (other_fault s None (45 ∷ 45 ∷ xs) h)
long_option s has [] h other = absurd cc
long_option s has (y ∷ ys) h other = long_refused s (arg_by_long s.rules (name_and_value (y ∷ ys)).0) (has.long (name_and_value (y ∷ ys)).0) (name_and_value (y ∷ ys)).1 h

lone_dashes : (x : ℕ) (xs : Text) → (x == 45) ≡ false → bytes_eq (45 ∷ x ∷ xs) (45 ∷ 45 ∷ []) ≡ false
lone_dashes x xs e = rw e refl

lone_long : (x : ℕ) (xs : Text) → (x == 45) ≡ false → long_of (45 ∷ x ∷ xs) ≡ None
lone_long x xs e = rw e refl

lone_short : (x : ℕ) (xs : Text) → (x == 45) ≡ false → short_of (45 ∷ x ∷ xs) ≡ Some (x ∷ xs)
lone_short x xs e = rw e refl

short_option : (s : Shape) → HasShortRequests s → (x : ℕ) (xs : Text) (h : Held) → (x == 45) ≡ false → has_character (x ∷ xs) ≡ true → h.skip ≡ 0 → IsRefused (other_fault s None (45 ∷ x ∷ xs) h)
short_option s short x xs h lone character skip =
    rw (lone_dashes x xs lone, lone_long x xs lone, lone_short x xs lone, skip) (flags_refused s short (x ∷ xs) (slice_get (chars (x ∷ xs)) 0) refl character (length xs) (record h { skip = 0 }))

option_behind : (s : Shape) → HasRequestsAlone s → (bs : Text) (h : Held) → has_character bs ≡ true → bytes_eq (45 ∷ bs) (codes "--") ≡ false → h.skip ≡ 0 → IsRefused (other_fault s None (45 ∷ bs) h)
unfolding chars
option_behind s has [] h character other skip = absurd cc
option_behind s has (x ∷ xs) h character other skip = of (x == 45) refl
  where
    of : (b : Bool) → (x == 45) ≡ b → IsRefused (other_fault s None (45 ∷ x ∷ xs) h)
    of true e = subst (λ y. bytes_eq (45 ∷ y ∷ xs) (45 ∷ 45 ∷ []) ≡ false → IsRefused (other_fault s None (45 ∷ y ∷ xs) h)) (sym (eqb-true x 45 e)) (long_option s has xs h) other
    of false e = short_option s has.short x xs h e character skip

-- the word is two hyphens and more
abbrev pub IsLong : Text → Type 0
IsLong word = (y : ℕ) × (ys : Text) × (word ≡ 45 ∷ 45 ∷ y ∷ ys)

-- it is refused, whatever is held
abbrev pub IsAlwaysRefused : Shape → Text → Type 0
IsAlwaysRefused s word = (h : Held) → h.skip ≡ 0 → IsRefused (other_fault s None word h)

long_or : (s : Shape) → HasShortRequests s → (bs : Text) → has_character bs ≡ true → bytes_eq (45 ∷ bs) (codes "--") ≡ false → IsAlwaysRefused s (45 ∷ bs) ⊎ IsLong (45 ∷ bs)
unfolding chars
long_or s short [] character other = absurd cc
long_or s short (x ∷ xs) character other = of (x == 45) refl
  where
    more : (xs : Text) → bytes_eq (45 ∷ 45 ∷ xs) (codes "--") ≡ false → IsAlwaysRefused s (45 ∷ 45 ∷ xs) ⊎ IsLong (45 ∷ 45 ∷ xs)
    more [] none = absurd cc
    more (y ∷ ys) none = inr (y, ys, refl)

    of : (b : Bool) → (x == 45) ≡ b → IsAlwaysRefused s (45 ∷ x ∷ xs) ⊎ IsLong (45 ∷ x ∷ xs)
    of true e = subst (λ y. bytes_eq (45 ∷ y ∷ xs) (codes "--") ≡ false → IsAlwaysRefused s (45 ∷ y ∷ xs) ⊎ IsLong (45 ∷ y ∷ xs)) (sym (eqb-true x 45 e)) (more xs) other
    of false e = inl (λ h skip. short_option s short x xs h e character skip)

-- where all short options are requests, an option is refused, or it is a long one
pub long_or_refused : (s : Shape) → HasShortRequests s → (word : Text) → IsOption word → IsAlwaysRefused s word ⊎ IsLong word
long_or_refused s short [] is = absurd (not_so is.taken)
  where
    not_so : true ≡ false → ⊥
    not_so e = absurd cc
long_or_refused s short (b ∷ bs) is =
    let parts = no_data (b == 45) (has_character bs) is.taken in
    subst (λ y. bytes_eq (y ∷ bs) (codes "--") ≡ false → IsAlwaysRefused s (y ∷ bs) ⊎ IsLong (y ∷ bs)) (sym (eqb-true b 45 parts.0)) (λ other. long_or s short bs parts.1 other) is.other

pub option_refused : (s : Shape) → HasRequestsAlone s → (word : Text) (h : Held) → IsOption word → h.skip ≡ 0 → IsRefused (other_fault s None word h)
option_refused s has [] h is skip = absurd (cc' is.taken)
  where
    cc' : true ≡ false → ⊥
    cc' e = absurd cc
option_refused s has (b ∷ bs) h is skip =
    let parts = no_data (b == 45) (has_character bs) is.taken in
    subst (λ y. bytes_eq (y ∷ bs) (codes "--") ≡ false → IsRefused (other_fault s None (y ∷ bs) h)) (sym (eqb-true b 45 parts.0)) (λ other. option_behind s has bs h parts.1 other skip) is.other

-- ---- on the walk

pub turn_refused : (s : Shape) → HasRequestsAlone s → (word : Text) (h : Held) (waiting : Waiting) (position : ℕ) → is_free waiting ≡ true → IsOption word → h.skip ≡ 0
    → IsRefused (turn_fault s [] (at h waiting position false) word)
turn_refused s has word h idle position free is skip = refused_first (other_fault s None word h) _ (option_refused s has word h is skip)
turn_refused s has word h (option id) position free is skip = absurd cc
turn_refused s has word h positional position free is skip = refused_first (other_fault s None word h) _ (option_refused s has word h is skip)

-- behind words that are data, an option is refused
pub refused_among : (s : Shape) → HasRequestsAlone s → AreShort s.rules → (before : List Text) (word : Text) (after : List Text) → AreData before → IsOption word
    → (h : Held) (waiting : Waiting) (position : ℕ) → is_free waiting ≡ true → h.skip ≡ 0 → IsRefused (walk_fault s [] (at h waiting position false) (before ++ word ∷ after))
unfolding walk_fault
refused_among s has short [] word after are is h waiting position free skip =
    refused_first (turn_fault s [] (at h waiting position false) word) _ (turn_refused s has word h waiting position free is skip)
refused_among s has short (first ∷ before) word after are is h waiting position free skip =
    refused_then (turn_fault s [] (at h waiting position false) first) (walk_fault s [] (walked s.rules [] (at h waiting position false) first) (before ++ word ∷ after))
    (subst (λ (w : Walk). IsRefused (walk_fault s [] w (before ++ word ∷ after))) (sym (value_next s.rules h waiting position first free (and_left (is_data first) _ are) skip))
    (data_step s short (arg_by_index s.rules position) (short position) first h waiting position free skip (λ from behind. IsRefused (walk_fault s [] from (before ++ word ∷ after)))
    (λ g next place free skip. refused_among s has short before word after (and_right (is_data first) _ are) is g next place free skip)))
