-- Two dashes among the words behind a command, and words that are refused there.
use Rattle.std.proofs.Common.{◌≡◌, ◌∙◌, ℕ, List, [], ◌∷◌, ◌++◌, codes, true, false, Option, Some, None, refl, ap, ap₂, sym}
use Rattle.std.specs.Prelude.{⊤, fold, if◌then◌else◌}
use Rattle.clap.specs.Words.{Kinds, Rule, Shape, Text}
use Rattle.clap.specs.Kinds.{or_else}
use Rattle.clap.specs.Faults.{turn_fault, walk_fault}
use Rattle.clap.specs.Walk.{Held, Waiting, Walk, arg_by_index, idle, is_multiple, next_position, option, positional, positional_held, to_positional, walked}
use Rattle.rds_words.specs.Written.{AreData, is_data}
use Rattle.rds_names.specs.Conditions.{and_left, and_right}
use Rattle.rds_words.proofs.Dashed.{at, free_next, is_free, next_skip, turn_alike, value_next}

-- no positional makes all words behind it its own
abbrev pub IsShort : Option Rule → Type 0
IsShort None = ⊤
IsShort (Some a) = a.trailing_var_arg ≡ false

abbrev pub AreShort : List Rule → Type 0
AreShort c = (position : ℕ) → IsShort (arg_by_index c position)

module _ (s : Shape) (short : AreShort s.rules) where
  -- a word that is data, where dashes may come
  pub data_step : (a : Option Rule) → IsShort a → (word : Text) (h : Held) (waiting : Waiting) (position : ℕ) → is_free waiting ≡ true → h.skip ≡ 0 → (P : Walk → Walk → Type 0)
      → ((g : Held) (next : Waiting) (place : ℕ) → is_free next ≡ true → g.skip ≡ 0 → P (at g next place false) (at g next place true))
      → P (to_positional s.rules a word (at h waiting position false) h) (to_positional s.rules a word (at h waiting position true) h)
  data_step None is word h waiting position free skip P on = on h waiting position free skip
  data_step (Some a) is word h waiting position free skip P on =
      rw is (on (positional_held s.rules a word h) (if is_multiple a then positional else idle) (next_position a position) (free_next (is_multiple a)) (next_skip s.rules a word h skip))

  -- what is held at the end, and what is wrong on the way, from a standing where dashes may come and from one behind them
  abbrev pub Alike : List Text → List Text → Walk → Walk → Type 0
  Alike words given before behind =
      ((fold (walked s.rules []) before words).held ≡ (fold (walked s.rules []) behind given).held)
      × (walk_fault s [] before words ≡ walk_fault s [] behind given)

  alike_on : (word : Text) (words given : List Text) (before behind mid after : Walk) → walked s.rules [] before word ≡ mid → walked s.rules [] behind word ≡ after
      → turn_fault s [] before word ≡ turn_fault s [] behind word → Alike words given mid after → Alike (word ∷ words) (word ∷ given) before behind
  unfolding walk_fault
  alike_on word words given before behind mid after one other turn on = (
    ap (λ (w : Walk). (fold (walked s.rules []) w words).held) one ∙ on.0 ∙ sym (ap (λ (w : Walk). (fold (walked s.rules []) w given).held) other),
    ap₂ (λ (k : Kinds) (w : Walk). or_else k (walk_fault s [] w words)) turn one
        ∙ ap (λ (rest : Kinds). or_else (turn_fault s [] behind word) rest) on.1
        ∙ sym (ap (λ (w : Walk). or_else (turn_fault s [] behind word) (walk_fault s [] w given)) other),
  )

  dashes_pass : (after : List Text) (h : Held) (waiting : Waiting) (position : ℕ) → is_free waiting ≡ true
      → Alike (codes "--" ∷ after) after (at h waiting position false) (at h waiting position true)
  unfolding walk_fault walked
  dashes_pass after h idle position free = (refl, refl)
  dashes_pass after h (option id) position free = absurd cc
  dashes_pass after h positional position free = (refl, refl)

  behind_step : (h : Held) (waiting : Waiting) (position : ℕ) (word : Text)
      → walked s.rules [] (at h waiting position true) word ≡ to_positional s.rules (arg_by_index s.rules position) word (at h waiting position true) h
  unfolding walked
  behind_step h waiting position word = refl

  pub dashes_among : (before after : List Text) → AreData before → (h : Held) (waiting : Waiting) (position : ℕ) → is_free waiting ≡ true → h.skip ≡ 0
      → Alike (before ++ codes "--" ∷ after) (before ++ after) (at h waiting position false) (at h waiting position true)
  dashes_among [] after are h waiting position free skip = dashes_pass after h waiting position free
  dashes_among (word ∷ before) after are h waiting position free skip =
      let word_is = and_left (is_data word) _ are in
      alike_on word (before ++ codes "--" ∷ after) (before ++ after) _ _ _ _ (value_next s.rules h waiting position word free word_is skip) (behind_step h waiting position word)
      (turn_alike s h waiting position word free word_is skip)
      (data_step (arg_by_index s.rules position) (short position) word h waiting position free skip (Alike (before ++ codes "--" ∷ after) (before ++ after))
      (λ g next place free skip. dashes_among before after (and_right (is_data word) _ are) g next place free skip))
