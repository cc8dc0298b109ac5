-- A command makes one entry, or none.
use Rattle.std.proofs.Common.{◌≡◌, Some, None, Option, sym}
use Rattle.rds_names.proofs.Entries.{entry_of_parts}
use Rattle.rds_names.specs.declared.entry.Entry.{Entry}
use Rattle.rds_names.specs.declared.entry.Kind.TheVariants.{Reg, Elem}
use Rattle.rds_state.specs.Edit.{IsMade}
use Rattle.rds_state.specs.Made.{entry_made}
use Rattle.rds_state.specs.declared.command.Command.{Command}
use Rattle.rds_state.specs.declared.command.Command.TheVariants.{Set, Add, Del, Clear, Inc, Dec}

pub made_is : (c : Command) (made : Option Entry) → IsMade c made → made ≡ entry_made c
made_is (Set p v) (Some e) h = sym (entry_of_parts p Reg v e h)
made_is (Set p v) None h = absurd h
made_is (Add p v) (Some e) h = sym (entry_of_parts p Elem v e h)
made_is (Add p v) None h = absurd h
made_is (Del p v) made h = h
made_is (Clear p) made h = h
made_is (Inc k by) made h = h
made_is (Dec k by) made h = h
