-- What is known of a command that has no options, by how many words it takes.
use Rattle.std.proofs.Common.{◌≡◌, List, [], ◌∷◌, codes, true, Some}
use Rattle.std.specs.Prelude.{find}
use Rattle.std.specs.List.{list_all}
use Rattle.clap.specs.Simple.{label_of}
use Rattle.clap.specs.Walk.{answers_to}
use Rattle.clap.specs.Words.{Shape, Text, built}
use Rattle.rds_words.specs.Commands.{node_app}
use Rattle.rds_words.specs.Spelling.{Count, at_least, exactly, or_root}
use Rattle.rds_words.proofs.CommandWords.{shape_behind}
use Rattle.rds_words.proofs.Counting.{IsCountedCommand, IsMistaken, IsNamed, IsNamedRoot, takes_names, takes_none, takes_one, takes_part, takes_three, takes_two}
use Rattle.rds_words.proofs.Dashed.{Meets}
use Rattle.rds_words.proofs.Refusing.{HasRequestsAlone, IsRefused}
use Rattle.rds_words.proofs.RuleFacts.{EachRequest, all_short, is_short_rule, requests_alone}
use Rattle.rds_words.proofs.Splitting.{IsCommand, refused_below, words_fault}

-- what is known of a command
pub record IsKnown (command : Text) (count : Count) : Type 0 where
  pub shape : Shape
  pub is : IsCommand command shape
  pub counted : IsCountedCommand command count

abbrev pub known : (command : Text) (count : Count) (s : Shape) → IsCommand command s → IsCountedCommand command count → IsKnown command count
known command count s is counted = record { shape = s; is = is; counted = counted }

-- and of one that has no options
pub record IsPlain (command : Text) (count : Count) : Type 0 where
  pub known : IsKnown command count
  pub requests : HasRequestsAlone known.shape

-- what stands behind two dashes is refused
abbrev pub IsOver : Text → List Text → Type 0
IsOver command given = IsRefused (words_fault (shape_behind command) (codes "--" ∷ given))

module _ (command : Text) (met : Meets (built node_app) command) (found : find (λ s. answers_to command (label_of s)) (built node_app).subs ≡ Some (shape_behind command))
    (short : list_all is_short_rule (shape_behind command).rules ≡ true) (each : EachRequest (shape_behind command) (shape_behind command).rules) where
  is : IsCommand command (shape_behind command)
  is = record { met = met; found = found; short = all_short (shape_behind command).rules short }

  plainly : (count : Count) → IsCountedCommand command count → IsPlain command count
  plainly count counted = record { known = known command count (shape_behind command) is counted; requests = requests_alone (shape_behind command) each }

  over : (given : List Text) → IsOver command given → IsMistaken command given
  over given refused called = refused_below called command (shape_behind command) (codes "--" ∷ given) is refused

  pub no_words : IsNamed command [] → ((a : Text) (more : List Text) → IsOver command (a ∷ more)) → IsPlain command (exactly 0)
  no_words named above = plainly (exactly 0) (takes_none command named (λ a more. over (a ∷ more) (above a more)))

  pub one_word : ((a : Text) → IsNamed command (a ∷ [])) → IsOver command [] → ((a b : Text) (more : List Text) → IsOver command (a ∷ b ∷ more)) → IsPlain command (exactly 1)
  one_word named none above = plainly (exactly 1) (takes_one command named (over [] none) (λ a b more. over (a ∷ b ∷ more) (above a b more)))

  pub two_words : ((a b : Text) → IsNamed command (a ∷ b ∷ [])) → IsOver command [] → ((a : Text) → IsOver command (a ∷ []))
      → ((a b c : Text) (more : List Text) → IsOver command (a ∷ b ∷ c ∷ more)) → IsPlain command (exactly 2)
  two_words named none one above =
      plainly (exactly 2) (takes_two command named (over [] none) (λ a. over (a ∷ []) (one a)) (λ a b c more. over (a ∷ b ∷ c ∷ more) (above a b c more)))

  pub three_words : ((a b c : Text) → IsNamed command (a ∷ b ∷ c ∷ [])) → IsOver command [] → ((a : Text) → IsOver command (a ∷ []))
      → ((a b : Text) → IsOver command (a ∷ b ∷ [])) → ((a b c d : Text) (more : List Text) → IsOver command (a ∷ b ∷ c ∷ d ∷ more)) → IsPlain command (exactly 3)
  three_words named none one two above =
      plainly (exactly 3) (takes_three command named (over [] none) (λ a. over (a ∷ []) (one a)) (λ a b. over (a ∷ b ∷ []) (two a b))
      (λ a b c d more. over (a ∷ b ∷ c ∷ d ∷ more) (above a b c d more)))

  pub part : ((a b : Text) → IsNamed command (a ∷ b ∷ [])) → ((a : Text) → IsNamedRoot command a) → IsOver command []
      → ((a b c : Text) (more : List Text) → IsOver command (a ∷ b ∷ c ∷ more)) → IsPlain command (or_root 2)
  part named root none above = plainly (or_root 2) (takes_part command named root (over [] none) (λ a b c more. over (a ∷ b ∷ c ∷ more) (above a b c more)))

  pub some_names : ((a b : Text) (more : List Text) → IsNamed command (a ∷ b ∷ more)) → IsOver command [] → ((a : Text) → IsOver command (a ∷ [])) → IsPlain command (at_least 2)
  some_names named none one = plainly (at_least 2) (takes_names command named (over [] none) (λ a. over (a ∷ []) (one a)))
