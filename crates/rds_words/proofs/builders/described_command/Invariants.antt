use Rattle.std.proofs.Common.{◌≡◌, false, fold, drop}
use Rattle.clap.specs.Words.{app_of}
use Rattle.clap.specs.declared.builder.command.Command.TheViews.{out-Command}
use Rattle.rds_words.specs.Described.{described_app, with_argument}
use Rattle.rds_words.proofs.builders.described_command.Given as goal

-- the command so far, with the words that are left
abbrev pub invariant-loop-word : goal.invariant-loop-word
invariant-loop-word l = (fold with_argument (app_of l.command) (drop l.word-index l.word-items) ≡ described_app l.fn.described) × ((out-Command l.command).has_globals ≡ false)
