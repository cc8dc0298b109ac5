-- What an edit makes of a document.
use Rattle.std.specs.Prelude.{◌≡◌, ◌⊎◌, Result, Ok, Err}
use Rattle.rds_lines.specs.Editing.{DoesEdit}
use Rattle.rds_names.specs.declared.fault.Fault.{Fault}
use Rattle.rds_names.specs.declared.fault.Fault.TheVariants.{Memory}
use Rattle.rds_state.specs.Fits.{ReplicaValue}
use Rattle.rds_state.specs.declared.command.Command.{Command}
use Rattle.rds_state.specs.declared.command.Edited.{Edited}

-- what was asked for is done or refused; where it is no command, nothing is done
abbrev pub EditsAsked : Result Command Fault → ReplicaValue → Result Edited Fault → ReplicaValue → Type 0
EditsAsked (Ok command) before answer after = DoesEdit before command answer after
EditsAsked (Err fault) before answer after = (answer ≡ Err fault) × (after ≡ before)

-- the same, unless memory ran out, which changes nothing
abbrev pub MayEdit : Result Command Fault → ReplicaValue → Result Edited Fault → ReplicaValue → Type 0
MayEdit asked before answer after =
    ((answer ≡ Err Memory) × (after ≡ before)) ⊎ EditsAsked asked before answer after
