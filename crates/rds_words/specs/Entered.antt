-- What was entered, as the command line reads it.
use Rattle.std.specs.Prelude.{◌≡◌, List, [], Option, Some}
use Rattle.clap.specs.Words.{Kinds, Text, fault_of, subcommand_of}
use Rattle.rds_words.specs.Commands.{node_app}
use Rattle.rds_words.specs.Task.{words_in}

-- the task in words that the command line finds in what was entered
abbrev pub named_in : List Text → Option (List Text)
named_in entered = words_in (subcommand_of node_app entered)

-- the ways in which what was entered is none of the program's
abbrev pub mistakes_in : List Text → Kinds
mistakes_in entered = fault_of node_app entered

-- what was entered names the task in words, and nothing else
abbrev pub Names : List Text → List Text → Type 0
Names entered words = (mistakes_in entered ≡ []) × (named_in entered ≡ Some words)
