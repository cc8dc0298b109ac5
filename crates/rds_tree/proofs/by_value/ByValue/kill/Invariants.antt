use Rattle.std.proofs.Common.{◌≡◌}
use Rattle.std.specs.FinMap as map
use Rattle.rds_dots.specs.declared.dot.Dot.{Dot}
use Rattle.rds_life.specs.Killed.{but_for, killed_by}
use Rattle.rds_tree.specs.Held.{among_any}
use Rattle.rds_tree.proofs.by_value.ByValue.kill.Given as goal

abbrev pub invariant-loop-dots : goal.invariant-loop-dots
invariant-loop-dots g l = (d : Dot) → killed_by (but_for l.but (among_any l.dots-iterator)) d (map.get l.lives d) ≡ killed_by (but_for l.but (among_any l.initial.dots-iterator)) d (map.get l.initial.lives d)
