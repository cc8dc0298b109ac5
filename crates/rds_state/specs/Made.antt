-- The entry that a command makes live.
use Rattle.std.specs.Prelude.{Option, None, Some}
use Rattle.rds_names.specs.declared.entry.Entry.{Entry}
use Rattle.rds_names.specs.Entry.{entry_from_parts}
use Rattle.rds_state.specs.Chosen.{CommandParts, command_parts}
use Rattle.rds_state.specs.declared.command.Command.{Command}

abbrev pub entry_from : Option CommandParts → Option Entry
entry_from None = None
entry_from (Some p) = entry_from_parts p.path p.kind p.value

-- the command's entry, for Set and Add
abbrev pub entry_made : Command → Option Entry
entry_made c = entry_from (command_parts c)
