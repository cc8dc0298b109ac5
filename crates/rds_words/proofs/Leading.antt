-- What a command's words come to, from a standing among them.
use Rattle.std.proofs.Common.{◌≡◌, ◌∙◌, ℕ, false, true, List, [], ◌∷◌, Option, Some, ap, ap₂, subst, sym, inl, inr}
use Rattle.std.specs.Prelude.{fold}
use Rattle.clap.specs.Words.{Kinds, Shape, Text}
use Rattle.clap.specs.Kinds.{or_else}
use Rattle.clap.specs.Faults.{turn_fault, walk_fault}
use Rattle.clap.specs.Walk.{Held, Waiting, Walk, finished, nothing_held, walk_from, walked}
use Rattle.rds_words.specs.Entered.{mistakes_in, named_in}
use Rattle.rds_words.specs.Spelling.{AreSpelled}
use Rattle.rds_words.specs.Task.{words_in}
use Rattle.rds_words.proofs.Behind.{Alike, dashes_among}
use Rattle.rds_words.proofs.Dashed.{at, fault_alike, held_alike, is_free}
use Rattle.rds_words.proofs.Passing.{Steps, end_fault}
use Rattle.rds_words.proofs.Refusing.{IsRefused, refused_first}
use Rattle.rds_words.proofs.Splitting.{IsCommand, words_mistaken, words_named}

-- the mistakes, of those on the way and of what is held at the end
abbrev pub kinds_of : Shape → Kinds → Held → Kinds
kinds_of s k h = or_else (or_else k (or_else [] (end_fault s h))) []

-- the mistakes from a standing on
abbrev pub mistakes_from : Shape → Walk → List Text → Kinds
mistakes_from s w words = kinds_of s (walk_fault s [] w words) (fold (walked s.rules []) w words).held

-- the task in words from a standing on
abbrev pub named_from : Shape → Walk → List Text → Option (List Text)
named_from s w words = words_in (Some (s.name, finished s.rules (fold (walked s.rules []) w words).held))

-- what the words come to is what others come to from another standing
abbrev pub Leads : Shape → Walk → List Text → Walk → List Text → Type 0
Leads s from words to rest = (fold (walked s.rules []) from words ≡ fold (walked s.rules []) to rest) × (walk_fault s [] from words ≡ walk_fault s [] to rest)

pub leads_on : (s : Shape) (from mid to : Walk) (word : Text) (words rest : List Text) → Steps s from word mid → Leads s mid words to rest → Leads s from (word ∷ words) to rest
unfolding walk_fault
leads_on s from mid to word words rest step on = (
  ap (λ (w : Walk). fold (walked s.rules []) w words) step.0 ∙ on.0,
  ap₂ (λ (k : Kinds) (w : Walk). or_else k (walk_fault s [] w words)) step.1 step.0 ∙ on.1,
)

-- ---- what is refused

pub refused_at : (s : Shape) (w : Walk) (word : Text) (words : List Text) → IsRefused (turn_fault s [] w word) → IsRefused (mistakes_from s w (word ∷ words))
unfolding walk_fault
refused_at s w word words is = refused_first _ [] (refused_first _ _ (refused_first (turn_fault s [] w word) _ is))

pub refused_step : (s : Shape) (from mid : Walk) (word : Text) (words : List Text) → Steps s from word mid → IsRefused (mistakes_from s mid words) → IsRefused (mistakes_from s from (word ∷ words))
unfolding walk_fault
refused_step s from mid word words step is =
    subst IsRefused (sym (ap₂ (kinds_of s) (ap₂ (λ (k : Kinds) (w : Walk). or_else k (walk_fault s [] w words)) step.1 step.0) (ap (λ (w : Walk). (fold (walked s.rules []) w words).held) step.0))) is

module _ (command : Text) (s : Shape) (is : IsCommand command s) where
  alike_at : (h : Held) (waiting : Waiting) (position : ℕ) (given words : List Text) → is_free waiting ≡ true → h.skip ≡ 0 → AreSpelled given words
      → Alike s is.short words given (at h waiting position false) (at h waiting position true)
  alike_at h waiting position given words free skip (inl all) =
      rw all.0 (held_alike s.rules given all.1 h waiting position false free skip, fault_alike s given all.1 h waiting position false free skip)
  alike_at h waiting position given words free skip (inr some) = rw (some.2, some.4) (dashes_among s is.short some.0 some.1 some.3 h waiting position free skip)

  abbrev pub IsFrom : Text → List Text → Walk → List Text → Type 0
  IsFrom called words w given = (mistakes_in (called ∷ command ∷ words) ≡ mistakes_from s w given) × (named_in (called ∷ command ∷ words) ≡ named_from s w given)

  pub comes_from : (called : Text) (words after given : List Text) (h : Held) (waiting : Waiting) (position : ℕ) → is_free waiting ≡ true → h.skip ≡ 0 → AreSpelled given after
      → Leads s (walk_from nothing_held) words (at h waiting position false) after → IsFrom called words (at h waiting position true) given
  comes_from called words after given h waiting position free skip spelled leads =
      let alike = alike_at h waiting position given after free skip spelled in
      let held = ap (λ (w : Walk). w.held) leads.0 ∙ alike.0 in (
        words_mistaken called command s words is ∙ ap₂ (kinds_of s) (leads.1 ∙ alike.1) held,
        words_named called command s words is ∙ ap (λ (h : Held). words_in (Some (s.name, finished s.rules h))) held,
      )

  pub refused_from : (called : Text) (words after : List Text) (w : Walk) → Leads s (walk_from nothing_held) words w after → IsRefused (mistakes_from s w after) → IsRefused (mistakes_in (called ∷ command ∷ words))
  refused_from called words after w leads bad =
      subst IsRefused (sym (words_mistaken called command s words is ∙ ap₂ (kinds_of s) leads.1 (ap (λ (w : Walk). w.held) leads.0))) bad
