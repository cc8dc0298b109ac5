-- Where the words that are written out lead.
use Rattle.std.proofs.Common.{◌≡◌, List, [], ◌∷◌, true, Some, None, refl, inl, inr}
use Rattle.std.specs.Prelude.{⊤, find, unwrap_or}
use Rattle.clap.specs.Words.{HasKind, Kinds, Row, Shape, Text, built, kind_of, is_simple, is_simple_and_free}
use Rattle.clap.specs.Facts.{parser_of_value}
use Rattle.clap.specs.Simple.{label_of}
use Rattle.clap.specs.Values.{reading_of}
use Rattle.clap.specs.Walk.{answers_to}
use Rattle.clap.specs.declared.builder.value_parser.ValueParser.TheVariants.{String}
use Rattle.clap.specs.declared.parser.matches.ValueSource.TheVariants.{CommandLine}
use Rattle.clap.specs.declared.error.Error.{Error}
use Rattle.clap.specs.declared.error.kind.ErrorKind.TheVariants.{OutOfMemory}
use Rattle.clap.proofs.OnLiterals.{clap_on_literals}
use Rattle.rds_words.specs.Commands.{named_app, node_app}

pub node_is_simple : is_simple node_app ≡ true
unfolding node_app clap_on_literals
node_is_simple = refl

pub node_is_free : is_simple_and_free node_app ≡ true
unfolding node_app clap_on_literals
node_is_free = refl

-- what is unfolded to compute what words come to
unfoldable pub node_on_words : ⊤
unfolding node_app clap_on_literals
node_on_words = tt

-- a command as it is built
abbrev pub shape_behind : Text → Shape
shape_behind command = unwrap_or (find (λ s. answers_to command (label_of s)) (built node_app).subs) named_app.top

-- words that were entered for a place
abbrev pub row : Text → List Text → Row
row id values = record { id = id; values = values; count = None; source = Some CommandLine; reading = reading_of (parser_of_value (Some String)) }

-- where no kind may come but Memory, it is the kind
pub is_memory : (kinds : Kinds) (e : Error) → kinds ≡ [] → HasKind kinds e → kind_of e ≡ OutOfMemory
is_memory [] e none h = elim h [ inl memory ↦ memory | inr other ↦ absurd other ]
is_memory (k ∷ ks) e none h = absurd cc
