-- How many results a step of a session has.
use Rattle.std.specs.Prelude.{◌≡◌, ◌≢◌, List, ℕ, Option}
use Rattle.rds_names.specs.declared.fault.Fault.TheVariants.{Memory}
use Rattle.rds_state.specs.Fits.{ReplicaValue}
use Rattle.rds_session.specs.declared.step.Ended.TheVariants.{Failed}
use Rattle.rds_session.specs.declared.talk.Side.{Side}
use Rattle.rds_session.specs.Session.{Heard, Standing}
use Rattle.rds_session.specs.Steps.{Continues}

-- two results of a step on one stream, where memory ran out in neither, are the same
abbrev pub HasOneResult : Type 0
HasOneResult = (side : Side) (kept : ReplicaValue) (heard : Heard) (input : Option (List ℕ)) (new other : Standing) (sent said : List ℕ)
    → Continues side kept heard input new sent → Continues side kept heard input other said
    → new.ended ≢ Failed Memory → other.ended ≢ Failed Memory → (new ≡ other) × (sent ≡ said)
