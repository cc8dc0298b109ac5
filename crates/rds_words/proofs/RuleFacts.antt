-- What is seen of a command's rules one by one.
use Rattle.std.proofs.Common.{◌≡◌, ◌⊎◌, ◌&&◌, ◌==◌, Bool, List, [], ◌∷◌, true, false, not, Option, Some, refl, inl, inr}
use Rattle.std.specs.Prelude.{⊤, find, if◌then◌else◌, is_some}
use Rattle.std.specs.List.{list_all}
use Rattle.std.specs.Option.{option_map_or}
use Rattle.std.proofs.lemmas.Bool.{cases_Bool}
use Rattle.clap.specs.Words.{Rule, Shape}
use Rattle.clap.specs.Walk.{has_long, has_short}
use Rattle.rds_names.specs.Conditions.{and_left, and_right}
use Rattle.rds_words.proofs.Behind.{AreShort, IsShort}
use Rattle.rds_words.proofs.Refusing.{HasRequestsAlone, IsRequest}

abbrev pub is_short_rule : Rule → Bool
is_short_rule a = not a.trailing_var_arg

not_true : (b : Bool) → not b ≡ true → b ≡ false
not_true true e = absurd cc
not_true false e = refl

short_one : (b : Bool) (a : Rule) (rest : Option Rule) → is_short_rule a ≡ true → IsShort rest → IsShort (if b then Some a else rest)
short_one true a rest is on = not_true a.trailing_var_arg is
short_one false a rest is on = on

short_found : (p : Rule → Bool) (c : List Rule) → list_all is_short_rule c ≡ true → IsShort (find p c)
short_found p [] all = tt
short_found p (a ∷ c) all = short_one (p a) a (find p c) (and_left (is_short_rule a) _ all) (short_found p c (and_right (is_short_rule a) _ all))

pub all_short : (c : List Rule) → list_all is_short_rule c ≡ true → AreShort c
all_short c all position = short_found (λ a. option_map_or (λ k. k == position) a.index false) c all

-- each rule is that of a positional, or of a request
abbrev pub EachRequest : Shape → List Rule → Type 0
EachRequest s [] = ⊤
EachRequest s (a ∷ c) = ((is_some a.index ≡ true) ⊎ IsRequest s (Some a)) × EachRequest s c

request_one : (s : Shape) (p : Rule → Bool) (a : Rule) (rest : Option Rule) → (is_some a.index ≡ true) ⊎ IsRequest s (Some a) → IsRequest s rest
    → IsRequest s (if not (is_some a.index) && p a then Some a else rest)
request_one s p a rest (inl is) on = rw is on
request_one s p a rest (inr is) on = of (not (is_some a.index) && p a)
  where
    of : (b : Bool) → IsRequest s (if b then Some a else rest)
    of true = is
    of false = on

request_found : (s : Shape) (p : Rule → Bool) (c : List Rule) → EachRequest s c → IsRequest s (find (λ a. not (is_some a.index) && p a) c)
request_found s p [] each = tt
request_found s p (a ∷ c) each = request_one s p a (find (λ a. not (is_some a.index) && p a) c) each.0 (request_found s p c each.1)

-- each rule is that of a positional, or of a request, or what passes the test has this property
abbrev pub EachOther : Shape → (Rule → Bool) → Type 0 → List Rule → Type 0
EachOther s p P [] = ⊤
EachOther s p P (a ∷ c) = ((is_some a.index ≡ true) ⊎ (IsRequest s (Some a) ⊎ (p a ≡ true → P))) × EachOther s p P c

other_one : (s : Shape) (p : Rule → Bool) (P : Type 0) (a : Rule) (rest : Option Rule) → (is_some a.index ≡ true) ⊎ (IsRequest s (Some a) ⊎ (p a ≡ true → P)) → P ⊎ IsRequest s rest
    → P ⊎ IsRequest s (if not (is_some a.index) && p a then Some a else rest)
other_one s p P a rest (inl is) on = rw is on
other_one s p P a rest (inr (inl is)) on = of (not (is_some a.index) && p a)
  where
    of : (b : Bool) → P ⊎ IsRequest s (if b then Some a else rest)
    of true = inr is
    of false = on
other_one s p P a rest (inr (inr is)) on = elim (cases_Bool (p a)) [
  | inl passes ↦ inl (is passes)
  | inr fails ↦ rw fails (of (not (is_some a.index)))
]
  where
    of : (b : Bool) → P ⊎ IsRequest s (if b && false then Some a else rest)
    of true = on
    of false = on

pub found_other : (s : Shape) (p : Rule → Bool) (P : Type 0) (c : List Rule) → EachOther s p P c → P ⊎ IsRequest s (find (λ a. not (is_some a.index) && p a) c)
found_other s p P [] each = inr tt
found_other s p P (a ∷ c) each = other_one s p P a (find (λ a. not (is_some a.index) && p a) c) each.0 (found_other s p P c each.1)

pub requests_alone : (s : Shape) → EachRequest s s.rules → HasRequestsAlone s
requests_alone s each = record {
  long = λ name. request_found s (λ a. has_long a name) s.rules each;
  short = λ character. request_found s (λ a. has_short a character) s.rules each;
}
