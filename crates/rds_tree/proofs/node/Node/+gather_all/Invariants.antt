use Rattle.std.proofs.Common.{◌≡◌, ◌||◌}
use Rattle.rds_dots.specs.declared.dot.Dot.{Dot}
use Rattle.rds_names.specs.declared.entry.Entry.{Entry}
use Rattle.rds_tree.specs.Cuts.{among_each}
use Rattle.rds_tree.specs.Held.{among_dots}
use Rattle.rds_tree.proofs.node.Node.+gather_all.Given as goal

abbrev pub invariant-loop-child : goal.invariant-loop-child
invariant-loop-child l = (d : Dot) (e : Entry) → (among_dots l.dots.items d e || among_each l.child-iterator d e) ≡ (among_dots l.initial.dots.items d e || among_each l.initial.child-iterator d e)
