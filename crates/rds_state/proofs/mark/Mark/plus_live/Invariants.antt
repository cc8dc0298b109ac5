use Rattle.std.proofs.Common.{◌≡◌}
use Rattle.std.specs.Prelude.{fold}
use Rattle.rds_state.specs.Mark.{plus_live}
use Rattle.rds_state.proofs.mark.Mark.plus_live.Given as goal

-- what is still added ends as all would
abbrev pub invariant-loop-dot : goal.invariant-loop-dot
invariant-loop-dot l = fold plus_live l.mark l.dot-iterator ≡ fold plus_live l.fn.self l.fn.rows
