use Rattle.std.proofs.Common.{◌≡◌, not}
use Rattle.std.specs.FinSet as set
use Rattle.std.specs.Prelude.{filter, fold}
use Rattle.rds_state.specs.Mark.{no_mark, plus_live}
use Rattle.rds_session.proofs.marks.unseen_mark.Given as goal

-- what is still added ends as all would
abbrev pub invariant-loop-dot : goal.invariant-loop-dot
invariant-loop-dot g l =
    let left = filter (λ r. not (set.contains (g.S.DotSet.contents l.seen) r.0)) in
    fold plus_live l.mark (left l.dot-iterator) ≡ fold plus_live no_mark (left l.fn.rows)
