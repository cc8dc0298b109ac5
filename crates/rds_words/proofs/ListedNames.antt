-- Names at the end of a command's words, as many as there are.
use Rattle.std.proofs.Common.{◌≡◌, ◌∙◌, ℕ, List, [], ◌∷◌, ◌++◌, codes, true, false, Some, refl, ap, ap₂}
use Rattle.std.specs.Prelude.{fold}
use Rattle.std.proofs.lemmas.List.{append_assoc}
use Rattle.clap.specs.Words.{Kinds, Row, Shape, Text}
use Rattle.clap.specs.Kinds.{or_else}
use Rattle.clap.specs.Faults.{level_fault, turn_fault, walk_fault}
use Rattle.clap.specs.Walk.{Held, Walk, finished, nothing_held, positional, rows_after, walk, walk_from, walked}
use Rattle.rds_words.specs.Task.{words_in}
use Rattle.rds_words.proofs.CommandWords.{row}
use Rattle.rds_words.proofs.Dashed.{at}
use Rattle.rds_words.proofs.Passing.{end_fault}

abbrev pub names_row : List Text → List Row
names_row [] = []
names_row (name ∷ names) = row (codes "NAMES") (name ∷ names) ∷ []

-- the words before the names are held, and names, of which the last is pending
unfoldable pub held_names : List Row → List Text → Text → Held
held_names front names last = record { rows = front ++ names_row names; pending = Some (codes "NAMES", last ∷ []); skip = 0 }

-- the walk behind two dashes, with names from this place on
abbrev pub naming : List Row → ℕ → List Text → Text → Walk
naming front place names last = at (held_names front names last) positional place true

-- what a command has to be for names to end its words
pub record TakesNames (s : Shape) (command : Text) (words : List Text) (front : List Row) (place : ℕ) : Type 0 where
  pub next : (names : List Text) (last next : Text) → walked s.rules [] (naming front place names last) next ≡ naming front place (names ++ last ∷ []) next
  pub passes : (names : List Text) (last next : Text) → turn_fault s [] (naming front place names last) next ≡ []
  pub begins : (last : Text) (more : List Text) → walk s.rules [] nothing_held (codes "--" ∷ (words ++ last ∷ more)) ≡ fold (walked s.rules []) (naming front place [] last) more
  pub first_pass : (last : Text) (more : List Text) → walk_fault s [] (walk_from nothing_held) (codes "--" ∷ (words ++ last ∷ more)) ≡ walk_fault s [] (naming front place [] last) more
  pub end_passes : (names : List Text) (last : Text) → end_fault s (held_names front names last) ≡ []
  pub end_rows : (names : List Text) (last : Text) → words_in (Some (command, finished s.rules (held_names front names last))) ≡ Some (command ∷ (words ++ (names ++ last ∷ [])))

record Holds (front : List Row) (all : List Text) (h : Held) : Type 0 where
  names : List Text
  last : Text
  held : h ≡ held_names front names last
  are : names ++ last ∷ [] ≡ all

module _ (s : Shape) (command : Text) (words : List Text) (front : List Row) (place : ℕ) (takes : TakesNames s command words front place) where
  names_walk : (names : List Text) (last : Text) (more : List Text) → Holds front (names ++ last ∷ more) (fold (walked s.rules []) (naming front place names last) more).held
  names_walk names last [] = record { names = names; last = last; held = refl; are = refl }
  names_walk names last (next ∷ more) =
      let again = names_walk (names ++ last ∷ []) next more in
      record {
        names = again.names;
        last = again.last;
        held = ap (λ (w : Walk). (fold (walked s.rules []) w more).held) (takes.next names last next) ∙ again.held;
        are = again.are ∙ append_assoc names (last ∷ []) (next ∷ more);
      }

  names_pass : (names : List Text) (last : Text) (more : List Text) → walk_fault s [] (naming front place names last) more ≡ []
  unfolding walk_fault
  names_pass names last [] = refl
  names_pass names last (next ∷ more) =
      ap₂ (λ (k : Kinds) (w : Walk). or_else k (walk_fault s [] w more)) (takes.passes names last next) (takes.next names last next)
      ∙ names_pass (names ++ last ∷ []) next more

  all_pass : (last : Text) (more : List Text) → level_fault s [] nothing_held (codes "--" ∷ (words ++ last ∷ more)) false [] ≡ []
  all_pass last more =
      let ends = names_walk [] last more in
      ap₂ (λ (k : Kinds) (h : Held). or_else k (or_else [] (end_fault s h)))
      (takes.first_pass last more ∙ names_pass [] last more)
      (ap (λ (w : Walk). w.held) (takes.begins last more) ∙ ends.held)
      ∙ takes.end_passes ends.names ends.last

  pub all_rows : (last : Text) (more : List Text) → words_in (Some (command, rows_after s.rules [] (codes "--" ∷ (words ++ last ∷ more)))) ≡ Some (command ∷ (words ++ last ∷ more))
  all_rows last more =
      let ends = names_walk [] last more in
      ap (λ (h : Held). words_in (Some (command, finished s.rules h))) (ap (λ (w : Walk). w.held) (takes.begins last more) ∙ ends.held)
      ∙ takes.end_rows ends.names ends.last
      ∙ ap (λ (names : List Text). Some (command ∷ (words ++ names))) ends.are

  pub none_below : (last : Text) (more : List Text) (below : Kinds) → below ≡ level_fault s [] nothing_held (codes "--" ∷ (words ++ last ∷ more)) false [] → or_else below [] ≡ []
  none_below last more below is = ap (λ (k : Kinds). or_else k []) (is ∙ all_pass last more)
