use Rattle.std.proofs.Common.{◌≡◌, ◌∙◌, ap, sym, subst}
use Rattle.std.specs.Prelude.{IfSome}
use Rattle.rds_state.specs.Mark.{mark_of, plus}
use Rattle.rds_tree.specs.Marks.{coming, going}
use Rattle.rds_tree.proofs.MarkEdits.{edits_mark, whole_mark}
use Rattle.rds_tree.proofs.MarkTotals.{moved_is}
use Rattle.rds_tree.proofs.marking.mark_after.Goals as goal

pub returns-in-Some : goal.returns-in-Some
returns-in-Some g c old marked rows edits gone =
    let command = c.args.command.now in
    let new = c.args.replica.now in
    let edited = c.args.edited in
    let known : c.in-Some.gone.mark ≡ going old command = subst (λ o. IfSome o (λ g'. g'.dots ≡ edited.killed → g'.mark ≡ going old command)) c.in-Some.is gone c.if-gone-edited.true in
    moved_is c.args.mark c.in-Some.gone.mark c.coming-after.result c.moved.result (mark_of new.state) c.moved.ensures (whole_mark new.state)
    (ap (plus (mark_of new.state)) known ∙ edits_mark command old new edited rows c.coming-after.ensures.rows edits.own edits.edited
    ∙ ap (λ m. plus m (coming new command edited.dot)) (sym marked) ∙ ap (plus c.args.mark) (sym c.coming-after.ensures.mark))
