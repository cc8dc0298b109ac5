use Rattle.std.proofs.Common.{◌≡◌, ◌∙◌, ap, map, subst}
use Rattle.std.proofs.lemmas.Result.{IfOk-weaker}
use Rattle.clap.specs.Words.{App, FailsBy, app_of, fault_of, is_simple, is_simple_and_free, subcommand_of}
use Rattle.rds_words.specs.Commands.{node_app}
use Rattle.rds_words.proofs.CommandWords.{node_is_simple, node_is_free}
use Rattle.rds_words.proofs.tasks.matches_of.Goals as goal

pub returns : goal.returns
returns g c =
    let app : app_of c.in_ok-command.command ≡ node_app = c.in_ok-command.ensures in
    let words = map g.S.AsStr.text c.args.words.now in
    let parse = c.try_get_matches_from in
    record {
      rows = IfOk-weaker parse.result _ _ (λ m h. (h (ap is_simple app ∙ node_is_simple)).1 ∙ ap (λ (a : App). subcommand_of a words) app) parse.ensures.matches;
      kinds = subst (λ (a : App). FailsBy (fault_of a words) parse.result) app (parse.ensures.kinds (ap is_simple_and_free app ∙ node_is_free));
    }
