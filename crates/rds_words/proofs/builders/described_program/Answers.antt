use Rattle.std.proofs.Common.{◌∙◌, ◌+◌, ap, drop, fold, rules, sym}
use Rattle.std.proofs.lemmas.List.{at_drop_more}
use Rattle.clap.specs.Words.{App, app_of}
use Rattle.rds_words.specs.Commands.{with_command}
use Rattle.rds_words.specs.Described.{with_described}
use Rattle.rds_words.proofs.builders.described_program.Goals as goal

pub loop-command-preserved : goal.loop-command-preserved
loop-command-preserved c =
    let at = c.loop-command in
    let commands = c.args.commands.now in
    let added = c.in_ok-program.ensures.shape c.in_ok-described_command.ensures.local ∙ ap (with_command (app_of at.program)) c.in_ok-described_command.ensures.app in
    ap (λ (a : App). fold with_described a (drop (at.command-index + 1) commands)) added
    ∙ sym (at_drop_more (fold with_described (app_of at.program)) commands at.command-index _ (search rules))
    ∙ at.invariant
