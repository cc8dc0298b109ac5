-- A take that brings a roster.
use Rattle.std.specs.Prelude.{ℕ, Result, Ok, Err}
use Rattle.rds_names.specs.declared.fault.Fault.{Fault}
use Rattle.rds_names.specs.declared.fault.Fault.TheVariants.{Memory, OwnAhead, Conflict}
use Rattle.rds_names.specs.Roster.{RosterValue, OneBegins}
use Rattle.rds_state.specs.Ahead.{TakeGives}
use Rattle.rds_state.specs.Grown.{TakeWithGives}
use Rattle.rds_state.specs.Value.{StateValue}

-- where the rosters meet, the delta is taken or refused as without them
pub gives_with : (r s : RosterValue) (a : StateValue) (own : ℕ) (d : StateValue) (x : Result (Unit {0}) Fault) → OneBegins r s → TakeGives a own d x → TakeWithGives r s a own d x
gives_with r s a own d (Ok x) meets gives = (meets, gives)
gives_with r s a own d (Err Memory) meets gives = (meets, gives)
gives_with r s a own d (Err (OwnAhead o)) meets gives = (meets, gives)
gives_with r s a own d (Err (Conflict p n)) meets gives = (meets, gives)
gives_with r s a own d (Err f) meets gives = absurd gives.1
