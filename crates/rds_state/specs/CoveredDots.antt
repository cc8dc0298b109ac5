-- The dots that a command covers.
use Rattle.std.specs.Prelude.{cond, List, [], ◌∷◌}
use Rattle.rds_names.specs.declared.entry.Entry.{Entry}
use Rattle.rds_dots.specs.declared.dot.Dot.{Dot}
use Rattle.rds_state.specs.Edit.{covers}
use Rattle.rds_state.specs.declared.command.Command.{Command}

-- the dots of the rows that the command covers, in their order
abbrev pub covered_dots : Command → List (Dot × Entry) → List Dot
covered_dots c [] = []
covered_dots c (r ∷ rows) = cond (covers c r.1) (r.0 ∷ covered_dots c rows) (covered_dots c rows)
