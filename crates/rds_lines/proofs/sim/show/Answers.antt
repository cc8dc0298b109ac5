use Rattle.std.proofs.Common.{subst}
use Rattle.std.proofs.lemmas.Result.{IfOk-weaker}
use Rattle.rds_tree.specs.Shown.{Shown}
use Rattle.rds_lines.specs.Views.{Prints}
use Rattle.rds_lines.specs.declared.views.Layout.TheVariants.{Compact}
use Rattle.rds_lines.proofs.sim.show.Goals as goal

pub returns-clause-shown : goal.returns-clause-shown
returns-clause-shown g c =
    let view = c.in_ok-view.ensures.shown in
    IfOk-weaker c.printed.result _ _
    (λ answer h. (view.replica, view.there, subst (λ (v : Shown). Prints Compact v answer) view.shown h)) c.printed.ensures.shown
