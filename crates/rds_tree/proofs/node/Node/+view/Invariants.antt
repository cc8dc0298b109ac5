use Rattle.std.proofs.Common.{◌≡◌}
use Rattle.rds_tree.specs.Shown.{views_shown}
use Rattle.rds_tree.proofs.Walked.{IsWalked}
use Rattle.rds_tree.proofs.node.Node.+view.Given as goal

abbrev pub invariant-loop-key : goal.invariant-loop-key
invariant-loop-key l = IsWalked l.left l.initial.key-iterator l.key-iterator l.regs.items l.sets.items (views_shown l.maps.items) × (l.counters ≡ l.fn.counters)
