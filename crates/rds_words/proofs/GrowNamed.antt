-- The words of `grow`, of which the last are a list.
use Rattle.std.proofs.Common.{◌≡◌, ◌∙◌, List, [], ◌∷◌, ◌++◌, codes, Some, refl, ap}
use Rattle.std.specs.Prelude.{fold}
use Rattle.clap.specs.Faults.{turn_fault, walk_fault}
use Rattle.clap.specs.Walk.{finished, nothing_held, walk, walk_from, walked}
use Rattle.clap.specs.Words.{built, Row, Shape, Text}
use Rattle.rds_words.specs.Commands.{node_app}
use Rattle.rds_words.specs.Entered.{Names}
use Rattle.rds_words.specs.Task.{words_in}
use Rattle.rds_words.proofs.CommandWords.{node_on_words, row, shape_behind}
use Rattle.rds_words.proofs.Dashed.{Meets, command_fault, command_rows}
use Rattle.rds_words.proofs.ListedNames.{TakesNames, all_rows, held_names, naming, none_below}
use Rattle.rds_words.proofs.Passing.{end_fault}

abbrev grow_shape : Shape
grow_shape = shape_behind (codes "grow")

-- what is held before the names
abbrev front : Text → List Row
front file = row (codes "FILE") (file ∷ []) ∷ []

name_next : (file : Text) (names : List Text) (last next : Text)
    → walked grow_shape.rules [] (naming (front file) 2 names last) next ≡ naming (front file) 2 (names ++ last ∷ []) next
unfolding held_names node_on_words
name_next file [] last next = refl
name_next file (name ∷ names) last next = refl

name_passes : (file : Text) (names : List Text) (last next : Text) → turn_fault grow_shape [] (naming (front file) 2 names last) next ≡ []
unfolding held_names node_on_words
name_passes file [] last next = refl
name_passes file (name ∷ names) last next = refl

end_passes : (file : Text) (names : List Text) (last : Text) → end_fault grow_shape (held_names (front file) names last) ≡ []
unfolding held_names node_on_words
end_passes file [] last = refl
end_passes file (name ∷ names) last = refl

end_rows : (file : Text) (names : List Text) (last : Text)
    → words_in (Some (codes "grow", finished grow_shape.rules (held_names (front file) names last))) ≡ Some (codes "grow" ∷ file ∷ (names ++ last ∷ []))
unfolding held_names node_on_words
end_rows file [] last = refl
end_rows file (name ∷ names) last = refl

begins : (file : Text) (last : Text) (more : List Text)
    → walk grow_shape.rules [] nothing_held (codes "--" ∷ file ∷ last ∷ more) ≡ fold (walked grow_shape.rules []) (naming (front file) 2 [] last) more
unfolding held_names node_on_words
begins file last more = refl

first_pass : (file : Text) (last : Text) (more : List Text)
    → walk_fault grow_shape [] (walk_from nothing_held) (codes "--" ∷ file ∷ last ∷ more) ≡ walk_fault grow_shape [] (naming (front file) 2 [] last) more
unfolding held_names node_on_words
first_pass file last more = refl

grow_takes : (file : Text) → TakesNames grow_shape (codes "grow") (file ∷ []) (front file) 2
grow_takes file = record {
  next = name_next file;
  passes = name_passes file;
  begins = begins file;
  first_pass = first_pass file;
  end_passes = end_passes file;
  end_rows = end_rows file;
}

pub grow_met : Meets (built node_app) (codes "grow")
unfolding node_on_words
grow_met = (refl, refl)

pub grow_dashed : (name file last : Text) (more : List Text) → Names (name ∷ codes "grow" ∷ codes "--" ∷ file ∷ last ∷ more) (codes "grow" ∷ file ∷ last ∷ more)
unfolding node_on_words
grow_dashed name file last more =
    let takes = grow_takes file in
    let words = codes "--" ∷ file ∷ last ∷ more in (
      command_fault (built node_app) (codes "grow") words grow_met ∙ none_below grow_shape (codes "grow") (file ∷ []) (front file) 2 takes last more _ refl,
      ap words_in (command_rows (built node_app) (codes "grow") words grow_met) ∙ all_rows grow_shape (codes "grow") (file ∷ []) (front file) 2 takes last more,
    )
