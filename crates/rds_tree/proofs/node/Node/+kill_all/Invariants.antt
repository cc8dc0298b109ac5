use Rattle.std.proofs.Common.{◌≡◌}
use Rattle.std.specs.FinMap as map
use Rattle.rds_dots.specs.declared.dot.Dot.{Dot}
use Rattle.rds_life.specs.Killed.{but_for, killed_by}
use Rattle.rds_tree.specs.Cuts.{among_each}
use Rattle.rds_tree.proofs.node.Node.+kill_all.Given as goal

abbrev pub invariant-loop-child : goal.invariant-loop-child
invariant-loop-child g l = (d : Dot) → killed_by (but_for l.but (among_each l.child-iterator)) d (map.get l.lives d) ≡ killed_by (but_for l.but (among_each l.initial.child-iterator)) d (map.get l.initial.lives d)
