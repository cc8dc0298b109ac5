-- What a merge, a take and an edit ensure of their answer and of the state after it.
use Rattle.std.specs.Prelude.{◌≡◌, ◌≢◌, ℕ, false, None, Result, Err, IfOk, IsOk, OnOk, OnErr, MatchResult, count_by}
use Rattle.rds_names.specs.declared.fault.Fault.{Fault}
use Rattle.rds_names.specs.declared.fault.Fault.TheVariants.{Memory}
use Rattle.rds_names.specs.Roster.{RosterValue, longer}
use Rattle.rds_life.specs.Life.{MergeGives, live_rows}
use Rattle.rds_state.specs.Ahead.{TakeGives}
use Rattle.rds_state.specs.Coordinates.{join}
use Rattle.rds_state.specs.Edit.{covers, needs_room, new_dot, refusal, IsDue, JoinsEffect}
use Rattle.rds_state.specs.Fits.{ReplicaValue}
use Rattle.rds_state.specs.Grown.{GrowGives, TakeWithGives}
use Rattle.rds_state.specs.Value.{StateValue, coordinates, size}
use Rattle.rds_state.specs.declared.command.Command.{Command}
use Rattle.rds_state.specs.declared.command.Edited.{Edited}

-- the join where the answer is no fault, and else what it was
pub record IsJoined (old other : StateValue) (answer : Result (Unit {0}) Fault) (new : StateValue) : Type 0 where
  pub ok : OnOk answer (coordinates new ≡ join (coordinates old) (coordinates other))
  pub err : OnErr answer (new ≡ old)

-- one state merged into another
pub record IsMerged (old other : StateValue) (answer : Result (Unit {0}) Fault) (new : StateValue) : Type 0 where
  pub gives : MergeGives old.lives other.lives answer
  pub joined : IsJoined old other answer new

-- a delta taken by a replica, by its number
pub record IsTaken (old : StateValue) (own : ℕ) (delta : StateValue) (answer : Result (Unit {0}) Fault) (new : StateValue) : Type 0 where
  pub gives : TakeGives old own delta answer
  pub joined : IsJoined old delta answer new

-- a command done by a replica, by its number
pub record IsEdited (old : StateValue) (own : ℕ) (command : Command) (answer : Result Edited Fault) (new : StateValue) : Type 0 where
  pub joined : IfOk answer (λ _. JoinsEffect (coordinates old) own command (coordinates new))
  pub dot : IfOk answer (λ edited. edited.dot ≡ new_dot (coordinates old) own command)
  pub killed : IfOk answer (λ edited. edited.killed ≡ count_by (λ r. covers command r.1) (live_rows old.lives))
  pub due : MatchResult answer (λ _. refusal (coordinates old) own command ≡ None) (IsDue (refusal (coordinates old) own command))
  pub err : OnErr answer (new ≡ old)

-- a command done by a replica
pub record EditsReplica (old : ReplicaValue) (command : Command) (answer : Result Edited Fault) (new : ReplicaValue) : Type 0 where
  pub edited : IsEdited old.state old.own command answer new.state
  pub room : needs_room (coordinates old.state) old.own command ≡ false → answer ≢ Err Memory
  pub roster : new.roster ≡ old.roster
  pub own : new.own ≡ old.own
  pub err : OnErr answer (new ≡ old)

-- a delta taken by a replica
pub record TakesDelta (old : ReplicaValue) (delta : StateValue) (answer : Result (Unit {0}) Fault) (new : ReplicaValue) : Type 0 where
  pub ok : OnOk answer (coordinates new.state ≡ join (coordinates old.state) (coordinates delta))
  pub gives : TakeGives old.state old.own delta answer
  pub nothing : size delta ≡ 0 → IsOk answer
  pub roster : new.roster ≡ old.roster
  pub own : new.own ≡ old.own
  pub err : OnErr answer (new ≡ old)

-- a delta taken by a replica with the roster that it comes with
pub record TakesDeltaWith (old : ReplicaValue) (came : RosterValue) (delta : StateValue) (answer : Result (Unit {0}) Fault) (new : ReplicaValue) : Type 0 where
  pub ok : OnOk answer (coordinates new.state ≡ join (coordinates old.state) (coordinates delta))
  pub gives : TakeWithGives old.roster came old.state old.own delta answer
  pub nothing : size delta ≡ 0 → answer ≢ Err Memory
  pub roster : OnOk answer (new.roster ≡ longer old.roster came)
  pub own : new.own ≡ old.own
  pub err : OnErr answer (new ≡ old)

-- a roster taken by a replica in place of its own, which begins it
pub record Grows (old : ReplicaValue) (came : RosterValue) (answer : Result (Unit {0}) Fault) (new : ReplicaValue) : Type 0 where
  pub gives : GrowGives old.roster came answer
  pub roster : OnOk answer (new.roster ≡ came)
  pub own : new.own ≡ old.own
  pub state : new.state ≡ old.state
  pub err : OnErr answer (new ≡ old)
