use Rattle.std.proofs.Common.{◌≡◌, fold, drop}
use Rattle.clap.specs.Words.{app_of}
use Rattle.rds_words.specs.Commands.{named_app}
use Rattle.rds_words.specs.Described.{with_described}
use Rattle.rds_words.proofs.builders.described_program.Given as goal

-- the program so far, with the commands that are left
abbrev pub invariant-loop-command : goal.invariant-loop-command
invariant-loop-command l = fold with_described (app_of l.program) (drop l.command-index l.commands) ≡ fold with_described named_app l.commands
