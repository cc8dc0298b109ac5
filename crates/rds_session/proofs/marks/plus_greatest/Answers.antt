use Rattle.std.proofs.Common.{◌∙◌, ap, sym}
use Rattle.std.specs.Prelude.{fold}
use Rattle.rds_state.specs.Mark.{plus_count}
use Rattle.rds_session.proofs.JoinedMarks.{none_drawn}
use Rattle.rds_session.proofs.marks.plus_greatest.Goals as goal

pub returns-in_default-None-clause-ok : goal.returns-in_default-None-clause-ok
returns-in_default-None-clause-ok c =
    c.plus_counts-in_default-None.ensures
    ∙ ap (fold plus_count c.joining.mark) (sym (none_drawn c.joining.left.now c.joining.right.now c.in_default-None.ensures.cases))
    ∙ c.joining.invariant
