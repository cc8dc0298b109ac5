-- The words that lines begin with.
use Rattle.std.proofs.Common.{◌≡◌, ℕ, Bool, true, false, cond, ◌||◌, List, [], ◌∷◌, Option, Some, None, refl, sym, ap, ◌∙◌, map}
use Rattle.std.specs.Prelude.{codes}
use Rattle.std.specs.List.{list_any}
use Rattle.std.specs.Str.{bytes_eq}
use Rattle.std.proofs.lemmas.Slice.Eq.{bytes_eq-Decides}
use mathlib.Core.Bool.{false≢true}
use Rattle.rds_json.specs.Spelling.{edit_verbs, line_words}
use Rattle.rds_json.specs.Verb.{verb_of}
use Rattle.rds_json.specs.declared.verb.Verb.{Verb}
use Rattle.rds_json.specs.declared.verb.Verb.TheVariants.{Roster, Edit, Save, Crash, Ask, Answer, Take, Grow, Show}
use Rattle.rds_json.specs.declared.verb.EditVerb.{EditVerb}
use Rattle.rds_json.specs.declared.verb.EditVerb.TheVariants.{Set, Add, Del, Clear, Inc, Dec}
use Rattle.rds_json.proofs.Outcomes.{none_is, some_is}

abbrev pub edit_word_of : EditVerb → List ℕ
edit_word_of Set = codes "set"
edit_word_of Add = codes "add"
edit_word_of Del = codes "del"
edit_word_of Clear = codes "clear"
edit_word_of Inc = codes "inc"
edit_word_of Dec = codes "dec"

abbrev pub word_of : Verb → List ℕ
word_of Roster = codes "roster"
word_of (Edit verb) = edit_word_of verb
word_of Save = codes "save"
word_of Crash = codes "crash"
word_of Ask = codes "ask"
word_of Answer = codes "answer"
word_of Take = codes "take"
word_of Grow = codes "grow"
word_of Show = codes "show"

-- the first verb with this word
abbrev first_with : List Verb → List ℕ → Option Verb
first_with [] word = None
first_with (v ∷ vs) word = cond (bytes_eq word (word_of v)) (Some v) (first_with vs word)

abbrev verbs : List Verb
verbs = Roster ∷ Edit Set ∷ Edit Add ∷ Edit Del ∷ Edit Clear ∷ Edit Inc ∷ Edit Dec ∷ Save ∷ Crash ∷ Ask ∷ Answer ∷ Take ∷ Grow ∷ Show ∷ []

first_test : (b : Bool) (v : Verb) (others : Option Verb) (word : List ℕ) (verb : Verb) → b ≡ bytes_eq word (word_of v) → (others ≡ Some verb → word ≡ word_of verb)
    → cond b (Some v) others ≡ Some verb → word ≡ word_of verb
first_test true v others word verb is rest h = (bytes_eq-Decides word (word_of v)).0 (sym is) ∙ ap word_of (some_is v verb h)
first_test false v others word verb is rest h = rest h

first_back : (vs : List Verb) (word : List ℕ) (verb : Verb) → first_with vs word ≡ Some verb → word ≡ word_of verb
first_back [] word verb h = none_is verb h
first_back (v ∷ vs) word verb h = first_test (bytes_eq word (word_of v)) v (first_with vs word) word verb refl (first_back vs word verb) h

pub word_back : (word : List ℕ) (verb : Verb) → verb_of word ≡ Some verb → word ≡ word_of verb
word_back word verb h = first_back verbs word verb h

none_test : (b c : Bool) (v : Verb) (others : Option Verb) → (c ≡ false → others ≡ None) → (b || c) ≡ false → cond b (Some v) others ≡ None
none_test true c v others rest h = absurd (false≢true (sym h))
none_test false c v others rest h = rest h

none_with : (vs : List Verb) (word : List ℕ) → list_any (bytes_eq word) (map word_of vs) ≡ false → first_with vs word ≡ None
none_with [] word h = refl
none_with (v ∷ vs) word h = none_test (bytes_eq word (word_of v)) (list_any (bytes_eq word) (map word_of vs)) v (first_with vs word) (none_with vs word) h

pub other_word : (word : List ℕ) → list_any (bytes_eq word) line_words ≡ false → verb_of word ≡ None
other_word word h = none_with verbs word h

pub edit_known : (verb : EditVerb) → list_any (bytes_eq (edit_word_of verb)) edit_verbs ≡ true
edit_known Set = refl
edit_known Add = refl
edit_known Del = refl
edit_known Clear = refl
edit_known Inc = refl
edit_known Dec = refl
