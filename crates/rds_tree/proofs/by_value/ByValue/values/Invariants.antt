use Rattle.std.proofs.Common.{◌≡◌, ◌++◌, map as each}
use Rattle.rds_tree.proofs.by_value.ByValue.values.Given as goal

abbrev pub invariant-loop-value : goal.invariant-loop-value
invariant-loop-value l = l.values.items ++ l.value-iterator ≡ each (λ e. e.0) l.self
