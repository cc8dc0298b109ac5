-- What an edit ensures that hands out its effect.
use Rattle.std.specs.Prelude.{◌≡◌, length, Result, IfOk, OnErr}
use Rattle.std.specs.Result.{result_map_both}
use Rattle.rds_names.specs.declared.fault.Fault.{Fault}
use Rattle.rds_state.specs.Edit.{effect}
use Rattle.rds_state.specs.Fits.{Fits, ReplicaValue}
use Rattle.rds_state.specs.Made.{entry_made}
use Rattle.rds_state.specs.Results.{IsEdited}
use Rattle.rds_state.specs.Value.{StateValue, coordinates}
use Rattle.rds_state.specs.declared.command.Command.{Command}
use Rattle.rds_state.specs.declared.command.Edited.{Edited}

-- a command done by a replica, and its effect as a state
pub record EditsWithDelta (old : ReplicaValue) (command : Command) (answer : Result (Edited × StateValue) Fault) (new : ReplicaValue) : Type 0 where
  pub edited : IsEdited old.state old.own command (result_map_both (λ told. told.0) (λ fault. fault) answer) new.state
  pub delta : IfOk answer (λ told. coordinates told.1 ≡ effect (coordinates old.state) old.own command (entry_made command))
  pub fits : IfOk answer (λ told. Fits (length old.roster.names) (coordinates told.1))
  pub roster : new.roster ≡ old.roster
  pub own : new.own ≡ old.own
  pub err : OnErr answer (new ≡ old)
