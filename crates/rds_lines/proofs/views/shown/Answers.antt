use Rattle.std.proofs.Common.{subst}
use Rattle.std.proofs.lemmas.Result.{IfOk-weaker}
use Rattle.rds_tree.specs.Shown.{Shown}
use Rattle.rds_lines.specs.Views.{Prints}
use Rattle.rds_lines.proofs.views.shown.Goals as goal

pub returns-clause-shown : goal.returns-clause-shown
returns-clause-shown g c =
    IfOk-weaker c.printed.result _ _ (λ answer h. subst (λ (v : Shown). Prints c.args.layout v answer) c.in_ok-view.ensures.shown h) c.printed.ensures.shown
