use Rattle.std.proofs.Common.{◌≡◌, ◌||◌}
use Rattle.rds_dots.specs.declared.dot.Dot.{Dot}
use Rattle.rds_names.specs.declared.entry.Entry.{Entry}
use Rattle.rds_tree.specs.Held.{among_any, among_dots}
use Rattle.rds_tree.proofs.by_value.ByValue.gather.Given as goal

abbrev pub invariant-loop-list : goal.invariant-loop-list
invariant-loop-list l = (d : Dot) (e : Entry) → (among_dots l.dots.items d e || among_any l.list-iterator d e) ≡ (among_dots l.initial.dots.items d e || among_any l.initial.list-iterator d e)
