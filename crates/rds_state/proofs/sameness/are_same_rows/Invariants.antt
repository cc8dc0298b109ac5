use Rattle.std.proofs.Common.{◌≡◌, length}
use Rattle.std.specs.Prelude.{◌↔◌}
use Rattle.rds_state.proofs.sameness.are_same_rows.Given as goal

-- what is left decides
abbrev pub invariant-comparing : goal.invariant-comparing
invariant-comparing l = (l.left ≡ l.right) ↔ (l.fn.left ≡ l.fn.right)

abbrev pub decreases-comparing : goal.decreases-comparing
decreases-comparing l = length l.left
