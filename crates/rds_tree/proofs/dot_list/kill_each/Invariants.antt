use Rattle.std.proofs.Common.{◌≡◌, drop}
use Rattle.std.specs.FinMap as map
use Rattle.rds_dots.specs.declared.dot.Dot.{Dot}
use Rattle.rds_life.specs.Killed.{but_for, killed_by}
use Rattle.rds_tree.specs.Held.{among_dots}
use Rattle.rds_tree.proofs.dot_list.kill_each.Given as goal

abbrev pub invariant-loop-dot : goal.invariant-loop-dot
invariant-loop-dot g l = (d : Dot) → killed_by (but_for l.but (among_dots (drop l.dot-index l.dots))) d (map.get l.lives d) ≡ killed_by (but_for l.but (among_dots l.dots)) d (map.get l.fn.lives d)
