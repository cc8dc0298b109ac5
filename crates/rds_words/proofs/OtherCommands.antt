-- What isn't a command is refused.
use Rattle.std.proofs.Common.{◌≡◌, ◌⊎◌, ◌∙◌, ◌||◌, ◌++◌, Bool, List, [], ◌∷◌, codes, true, false, None, map, refl, ap, sym, subst, inl, inr}
use Rattle.std.specs.Prelude.{find}
use Rattle.std.specs.List.{list_any}
use Rattle.std.specs.Str.{bytes_eq}
use Rattle.std.proofs.lemmas.Slice.Eq.{bytes_eq-Decides}
use Rattle.clap.specs.Words.{Shape, Text, built}
use Rattle.clap.specs.Faults.{turn_fault, walk_fault}
use Rattle.clap.specs.Simple.{names_of}
use Rattle.clap.specs.Walk.{Names, answers_to, idle, nothing_held, walk_from}
use Rattle.rds_words.specs.Commands.{node_app}
use Rattle.rds_words.specs.Entered.{mistakes_in}
use Rattle.rds_words.specs.Spelling.{HasCommand, command_names}
use Rattle.rds_words.specs.Written.{is_data}
use Rattle.rds_words.proofs.CommandWords.{node_on_words}
use Rattle.rds_words.proofs.Dashed.{at, turn_alike}
use Rattle.rds_words.proofs.Refusing.{HasRequestsAlone, IsRefused, refused_first, turn_refused}
use Rattle.rds_words.proofs.RuleFacts.{requests_alone}

or_left : (a b : Bool) → (a || b) ≡ false → a ≡ false
or_left true b e = absurd cc
or_left false b e = refl

or_right : (a b : Bool) → (a || b) ≡ false → b ≡ false
or_right true b e = absurd cc
or_right false b e = e

abbrev without_aliases : List Text → Names
without_aliases names = map (λ name. (name, [])) names

unfound : (word : Text) (names : List Text) → list_any (λ name. bytes_eq name word) names ≡ false → find (answers_to word) (without_aliases names) ≡ None
unfound word [] none = refl
unfound word (name ∷ names) none = rw (or_left (bytes_eq name word) _ none) (unfound word names (or_right (bytes_eq name word) _ none))

abbrev top : Shape
top = (built node_app).top

top_requests : HasRequestsAlone top
unfolding IsRefused node_on_words
top_requests = requests_alone top (inr (refl, λ rows. tt), (inr (refl, λ rows. tt), tt))

are_named : names_of (built node_app) ≡ without_aliases (command_names ++ codes "help" ∷ [])
unfolding node_on_words
are_named = refl

same_turn : (word : Text) (names : Names) → find (answers_to word) names ≡ None → turn_fault top names (walk_from nothing_held) word ≡ turn_fault top [] (at nothing_held idle 1 false) word
same_turn word names none = rw none refl

-- at the top no word is taken but a command's name
stray : (word : Text) → IsRefused (turn_fault top [] (at nothing_held idle 1 true) word)
unfolding IsRefused node_on_words
stray word = tt

value_refused : (word : Text) → is_data word ≡ true → IsRefused (turn_fault top [] (at nothing_held idle 1 false) word)
value_refused word are = subst IsRefused (sym (turn_alike top nothing_held idle 1 word refl are refl)) (stray word)

word_refused : (word : Text) → bytes_eq word (codes "--") ≡ false → IsRefused (turn_fault top [] (at nothing_held idle 1 false) word)
word_refused word other = of (is_data word) refl
  where
    of : (b : Bool) → is_data word ≡ b → IsRefused (turn_fault top [] (at nothing_held idle 1 false) word)
    of true e = value_refused word e
    of false e = turn_refused top top_requests word nothing_held idle 1 refl (record { taken = e; other = other }) refl

-- the first word decides
first_refused : (called word : Text) (behind : List Text) → IsRefused (turn_fault top (names_of (built node_app)) (walk_from nothing_held) word) → IsRefused (mistakes_in (called ∷ word ∷ behind))
unfolding walk_fault node_app
first_refused called word behind is =
    refused_first (walk_fault top (names_of (built node_app)) (walk_from nothing_held) (word ∷ behind)) _
    (refused_first (turn_fault top (names_of (built node_app)) (walk_from nothing_held) word) _ is)

dashes_refused : (called : Text) (behind : List Text) → IsRefused (mistakes_in (called ∷ codes "--" ∷ behind))
unfolding IsRefused node_on_words
dashes_refused called [] = tt
dashes_refused called (word ∷ behind) = tt

none_refused : IsRefused (mistakes_in [])
unfolding IsRefused node_on_words
none_refused = tt

nothing_refused : (called : Text) → IsRefused (mistakes_in (called ∷ []))
unfolding IsRefused node_on_words
nothing_refused called = tt

help_refused : IsRefused (turn_fault top (names_of (built node_app)) (walk_from nothing_held) (codes "help"))
unfolding IsRefused node_on_words
help_refused = tt

unknown_refused : (called word : Text) (behind : List Text) → list_any (λ name. bytes_eq name word) (command_names ++ codes "help" ∷ []) ≡ false → IsRefused (mistakes_in (called ∷ word ∷ behind))
unknown_refused called word behind none = of (bytes_eq word (codes "--")) refl
  where
    of : (b : Bool) → bytes_eq word (codes "--") ≡ b → IsRefused (mistakes_in (called ∷ word ∷ behind))
    of true e = subst (λ (w : Text). IsRefused (mistakes_in (called ∷ w ∷ behind))) (sym ((bytes_eq-Decides word (codes "--")).0 e)) (dashes_refused called behind)
    of false e =
        first_refused called word behind (subst IsRefused (sym (same_turn word (names_of (built node_app)) (ap (find (answers_to word)) are_named ∙ unfound word (command_names ++ codes "help" ∷ []) none))) (word_refused word e))

or_split : (a b : Bool) → (a || b) ≡ true → (a ≡ true) ⊎ (b ≡ true)
or_split true b e = inl refl
or_split false b e = inr e

any_last : (p : Text → Bool) (names : List Text) (last : Text) → list_any p (names ++ last ∷ []) ≡ true → (list_any p names ≡ true) ⊎ (p last ≡ true)
any_last p [] last e = elim (or_split (p last) false e) [ inl is ↦ inr is | inr is ↦ absurd (not_so is) ]
  where
    not_so : false ≡ true → ⊥
    not_so e = absurd cc
any_last p (name ∷ names) last e = elim (or_split (p name) _ e) [
  | inl is ↦ inl (ap (λ (b : Bool). b || list_any p names) is)
  | inr is ↦ elim (any_last p names last is) [ inl any ↦ inl (later (p name) _ any) | inr this ↦ inr this ]
]
  where
    later : (a b : Bool) → b ≡ true → (a || b) ≡ true
    later true b e = refl
    later false b e = e

command_or_help : (called word : Text) (behind : List Text) → (list_any (λ name. bytes_eq name word) command_names ≡ true) ⊎ (bytes_eq (codes "help") word ≡ true)
    → HasCommand (called ∷ word ∷ behind) ⊎ IsRefused (mistakes_in (called ∷ word ∷ behind))
command_or_help called word behind (inl known) = inl (called, word, behind, refl, known)
command_or_help called word behind (inr help) =
    inr (subst (λ (w : Text). IsRefused (mistakes_in (called ∷ w ∷ behind))) ((bytes_eq-Decides (codes "help") word).0 help) (first_refused called (codes "help") behind help_refused))

-- what is entered has a command, or is refused
pub command_or_not : (entered : List Text) → HasCommand entered ⊎ IsRefused (mistakes_in entered)
command_or_not [] = inr none_refused
command_or_not (called ∷ []) = inr (nothing_refused called)
command_or_not (called ∷ word ∷ behind) = of (list_any (λ name. bytes_eq name word) (command_names ++ codes "help" ∷ [])) refl
  where
    of : (b : Bool) → list_any (λ name. bytes_eq name word) (command_names ++ codes "help" ∷ []) ≡ b → HasCommand (called ∷ word ∷ behind) ⊎ IsRefused (mistakes_in (called ∷ word ∷ behind))
    of true e = command_or_help called word behind (any_last (λ name. bytes_eq name word) command_names (codes "help") e)
    of false e = inr (unknown_refused called word behind e)
