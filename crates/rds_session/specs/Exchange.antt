-- A session over a reader and a writer.
use Rattle.std.specs.Prelude.{◌≡◌, ℕ, ◌⊎◌, List, [], Option}
use Rattle.std.specs.Io.KnownBytes.{Appends, Consumes, IsAtEnd}
use Rattle.rds_names.specs.declared.fault.Fault.TheVariants.{Memory}
use Rattle.rds_state.specs.Fits.{ReplicaValue}
use Rattle.rds_session.specs.declared.step.Ended.{Ended}
use Rattle.rds_session.specs.declared.step.Ended.TheVariants.{Failed}
use Rattle.rds_session.specs.declared.talk.Side.{Side}
use Rattle.rds_session.specs.Received.{Delivery}
use Rattle.rds_session.specs.Session.{Heard, Nothing, So_far, All_of, course}
use Rattle.rds_session.specs.Steps.{ReceivedAtMost}

-- what is written and answered is what a session sends and comes to for all that the reader held, with its end
pub record IsWholeSession (side : Side) (kept : ReplicaValue) (input : List ℕ) (before after : Option (List ℕ)) (received : Option Delivery) (ended : Ended) : Type 0 where
  pub is_received : received ≡ (course side kept (All_of input)).0.received
  pub is_ended : ended ≡ (course side kept (All_of input)).0.ended
  pub written : Appends before after (course side kept (All_of input)).1

-- or memory ran out, with nothing received or what is received for all of it
pub record HasRunOut (side : Side) (kept : ReplicaValue) (heard : Heard) (received : Option Delivery) (ended : Ended) : Type 0 where
  pub memory : ended ≡ Failed Memory
  pub at_most : ReceivedAtMost side kept heard received

abbrev pub Exchanges : Side → ReplicaValue → List ℕ → Option (List ℕ) → Option (List ℕ) → Option Delivery → Ended → Type 0
Exchanges side kept input before after received ended = IsWholeSession side kept input before after received ended ⊎ HasRunOut side kept (All_of input) received ended

-- what the reader held at first and doesn't hold now is what was heard
abbrev pub IsHeard : Option (List ℕ) → Option (List ℕ) → Heard → Type 0
IsHeard first now Nothing = Consumes first now []
IsHeard first now (So_far x) = Consumes first now x
IsHeard first now (All_of x) = Consumes first now x × IsAtEnd now
