-- Words that can't be taken for options.
use Rattle.std.proofs.Common.{◌≡◌, ◌∙◌, ℕ, Bool, List, [], ◌∷◌, true, false, not, ◌==◌, ◌&&◌, Option, None, Some, refl, ap, sym, subst}
use Rattle.std.specs.Prelude.{is_some, slice_get}
use Rattle.std.proofs.lemmas.Bool.{eqb-true}
use Rattle.std.specs.Str.{bytes_eq, chars}
use Rattle.clap.specs.Lexer.{long_of, short_of}
use Rattle.clap.specs.Words.{Rule, Shape, Text}
use Rattle.clap.specs.Faults.{bundle_fault, flags_fault, word_fault}
use Rattle.clap.specs.Walk.{Held, Waiting, bundle, bundle_met, plain, idle, option, plain_word, positional, word_met}
use Rattle.rds_words.specs.Written.{is_data}

-- the bytes begin with a character
abbrev pub has_character : List ℕ → Bool
has_character bs = is_some (slice_get (chars bs) 0)

hyphen_is_one : (bs : List ℕ) → has_character (45 ∷ bs) ≡ true
unfolding chars
hyphen_is_one [] = refl
hyphen_is_one (b ∷ bs) = refl

-- what no character begins has no hyphen first
no_second : (x : ℕ) (xs : List ℕ) → has_character (x ∷ xs) ≡ false → (x == 45) ≡ false
no_second x xs none = of (x == 45) refl
  where
    of : (b : Bool) → (x == 45) ≡ b → b ≡ false
    of false e = refl
    of true e = absurd (differ (sym (hyphen_is_one xs) ∙ ap (λ y. has_character (y ∷ xs)) (sym (eqb-true x 45 e)) ∙ none))
      where
        differ : true ≡ false → ⊥
        differ e = absurd cc

nothing_first : {X : Type 0} (found : Option X) → is_some found ≡ false → found ≡ None
nothing_first None e = refl
nothing_first (Some x) e = absurd cc

-- ---- no hyphen, or one that no character follows

no_dashes : (b : ℕ) (bs : Text) → (b == 45) ≡ false → bytes_eq (b ∷ bs) (45 ∷ 45 ∷ []) ≡ false
no_dashes b bs e = rw e refl

no_long : (b : ℕ) (bs : Text) → (b == 45) ≡ false → long_of (b ∷ bs) ≡ None
no_long b bs e = rw e refl

no_short : (b : ℕ) (bs : Text) → (b == 45) ≡ false → short_of (b ∷ bs) ≡ None
no_short b bs e = rw e refl

lone_dashes : (x : ℕ) (xs : Text) → (x == 45) ≡ false → bytes_eq (45 ∷ x ∷ xs) (45 ∷ 45 ∷ []) ≡ false
lone_dashes x xs e = rw e refl

lone_long : (x : ℕ) (xs : Text) → (x == 45) ≡ false → long_of (45 ∷ x ∷ xs) ≡ None
lone_long x xs e = rw e refl

lone_short : (x : ℕ) (xs : Text) → (x == 45) ≡ false → short_of (45 ∷ x ∷ xs) ≡ Some (x ∷ xs)
lone_short x xs e = rw e refl

lone_bundle : (c : List Rule) (x : ℕ) (xs : Text) (h : Held) → has_character (x ∷ xs) ≡ false → h.skip ≡ 0 → bundle c (x ∷ xs) h ≡ (h, plain)
unfolding bundle_met
lone_bundle c x xs h none skip = rw (nothing_first (slice_get (chars (x ∷ xs)) 0) none, skip) refl

lone_flags : (c : List Rule) (again : Bool) (x : ℕ) (xs : Text) (h : Held) → has_character (x ∷ xs) ≡ false → h.skip ≡ 0 → bundle_fault c again (x ∷ xs) h ≡ []
unfolding flags_fault
lone_flags c again x xs h none skip = rw (nothing_first (slice_get (chars (x ∷ xs)) 0) none) refl

-- where options may stand, such a word is no option
abbrev IsPlain : List Rule → Waiting → ℕ → Text → Held → Type 0
IsPlain c waiting position word h = word_met c [] false waiting position word h ≡ plain_word c waiting word h

lone_met : (c : List Rule) (waiting : Waiting) (position : ℕ) (bs : Text) (h : Held) → has_character bs ≡ false → h.skip ≡ 0 → IsPlain c waiting position (45 ∷ bs) h
lone_met c idle position [] h none skip = refl
lone_met c (option id) position [] h none skip = refl
lone_met c positional position [] h none skip = refl
lone_met c idle position (x ∷ xs) h none skip = let n = no_second x xs none in rw (lone_dashes x xs n, lone_long x xs n, lone_short x xs n, lone_bundle c x xs h none skip) refl
lone_met c (option id) position (x ∷ xs) h none skip = let n = no_second x xs none in rw (lone_dashes x xs n, lone_long x xs n, lone_short x xs n, lone_bundle c x xs h none skip) refl
lone_met c positional position (x ∷ xs) h none skip = let n = no_second x xs none in rw (lone_dashes x xs n, lone_long x xs n, lone_short x xs n, lone_bundle c x xs h none skip) refl

lone_is_no_fault : (s : Shape) (waiting : Waiting) (bs : Text) (h : Held) → has_character bs ≡ false → h.skip ≡ 0 → word_fault s [] false waiting (45 ∷ bs) h ≡ []
lone_is_no_fault s idle [] h none skip = refl
lone_is_no_fault s (option id) [] h none skip = refl
lone_is_no_fault s positional [] h none skip = refl
lone_is_no_fault s idle (x ∷ xs) h none skip = let n = no_second x xs none in rw (lone_dashes x xs n, lone_long x xs n, lone_short x xs n) (lone_flags s.rules s.args_override_self x xs h none skip)
lone_is_no_fault s (option id) (x ∷ xs) h none skip = let n = no_second x xs none in rw (lone_dashes x xs n, lone_long x xs n, lone_short x xs n) (lone_flags s.rules s.args_override_self x xs h none skip)
lone_is_no_fault s positional (x ∷ xs) h none skip = let n = no_second x xs none in rw (lone_dashes x xs n, lone_long x xs n, lone_short x xs n) (lone_flags s.rules s.args_override_self x xs h none skip)

other_met : (c : List Rule) (waiting : Waiting) (position : ℕ) (b : ℕ) (bs : Text) (h : Held) → (b == 45) ≡ false → IsPlain c waiting position (b ∷ bs) h
other_met c idle position b bs h e = rw (no_dashes b bs e, no_long b bs e, no_short b bs e) refl
other_met c (option id) position b bs h e = rw (no_dashes b bs e, no_long b bs e, no_short b bs e) refl
other_met c positional position b bs h e = rw (no_dashes b bs e, no_long b bs e, no_short b bs e) refl

other_is_no_fault : (s : Shape) (waiting : Waiting) (b : ℕ) (bs : Text) (h : Held) → (b == 45) ≡ false → word_fault s [] false waiting (b ∷ bs) h ≡ []
other_is_no_fault s idle b bs h e = rw (no_dashes b bs e, no_long b bs e, no_short b bs e) refl
other_is_no_fault s (option id) b bs h e = rw (no_dashes b bs e, no_long b bs e, no_short b bs e) refl
other_is_no_fault s positional b bs h e = rw (no_dashes b bs e, no_long b bs e, no_short b bs e) refl

-- ---- a word that is data

-- by whether it begins with a hyphen
by_hyphen : (P : Text → Type 0) (b : ℕ) (bs : Text) → is_data (b ∷ bs) ≡ true → ((b == 45) ≡ false → P (b ∷ bs)) → (has_character bs ≡ false → P (45 ∷ bs)) → P (b ∷ bs)
by_hyphen P b bs are other lone = of (b == 45) refl (has_character bs) refl
  where
    differ : (hyphen character : Bool) → (b == 45) ≡ hyphen → has_character bs ≡ character → hyphen ≡ true → character ≡ true → ⊥
    differ hyphen character e k p q = absurd (no (b == 45) (has_character bs) are (e ∙ p) (k ∙ q))
      where
        no : (x y : Bool) → not (x && y) ≡ true → x ≡ true → y ≡ true → ⊥
        no true true d p q = absurd cc
        no true false d p q = absurd cc
        no false y d p q = absurd cc

    of : (hyphen : Bool) → (b == 45) ≡ hyphen → (character : Bool) → has_character bs ≡ character → P (b ∷ bs)
    of false e character k = other e
    of true e false k = subst (λ y. P (y ∷ bs)) (sym (eqb-true b 45 e)) (lone k)
    of true e true k = absurd (differ true true e k refl refl)

pub data_met : (c : List Rule) (waiting : Waiting) (position : ℕ) (word : Text) (h : Held) → is_data word ≡ true → h.skip ≡ 0 → word_met c [] false waiting position word h ≡ plain_word c waiting word h
data_met c idle position [] h e skip = refl
data_met c (option id) position [] h e skip = refl
data_met c positional position [] h e skip = refl
data_met c waiting position (b ∷ bs) h e skip = by_hyphen (λ word. IsPlain c waiting position word h) b bs e (other_met c waiting position b bs h) (λ none. lone_met c waiting position bs h none skip)

pub data_is_no_fault : (s : Shape) (waiting : Waiting) (word : Text) (h : Held) → is_data word ≡ true → h.skip ≡ 0 → word_fault s [] false waiting word h ≡ []
data_is_no_fault s idle [] h e skip = refl
data_is_no_fault s (option id) [] h e skip = refl
data_is_no_fault s positional [] h e skip = refl
data_is_no_fault s waiting (b ∷ bs) h e skip = by_hyphen (λ word. word_fault s [] false waiting word h ≡ []) b bs e (other_is_no_fault s waiting b bs h) (λ none. lone_is_no_fault s waiting bs h none skip)
