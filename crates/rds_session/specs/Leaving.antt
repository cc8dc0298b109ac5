-- What a session came to, wherever its stream was cut.
use Rattle.std.specs.Prelude.{◌≡◌, ◌⊎◌, ℕ, List, ◌++◌, Option}
use Rattle.std.specs.Io.KnownBytes.{Appends}
use Rattle.rds_names.specs.declared.fault.Fault.TheVariants.{Memory, Device}
use Rattle.rds_keep.specs.Parts.{AppendsFront}
use Rattle.rds_state.specs.Fits.{ReplicaValue}
use Rattle.rds_session.specs.declared.step.Ended.{Ended}
use Rattle.rds_session.specs.declared.step.Ended.TheVariants.{Failed}
use Rattle.rds_session.specs.declared.talk.Side.{Side}
use Rattle.rds_session.specs.Exchange.{HasRunOut, IsHeard}
use Rattle.rds_session.specs.Received.{Delivery, HasChecked, IsDoneBy}
use Rattle.rds_session.specs.Session.{Heard, Nothing, Standing, heard_more, course}
use Rattle.rds_session.specs.Steps.{HasStanding, IsLastWord, IsOver}

-- a session has the standing of some stream that it heard, or memory ran out on the way
abbrev pub HasHeard : Side → ReplicaValue → Standing → Type 0
HasHeard side kept s = (heard : Heard) × (HasStanding side kept heard s ⊎ HasRunOut side kept heard s.received s.ended)

-- memory ran out in a step: what was sent is what is sent for what was heard before it, and a last word
pub record RanOutAfter (side : Side) (kept : ReplicaValue) (heard : Heard) (s : Standing) (sent : List ℕ) : Type 0 where
  pub before : Heard
  pub input : Option (List ℕ)
  pub word : List ℕ
  pub is_heard : heard ≡ heard_more before input
  pub is_word : IsLastWord word
  pub is_sent : sent ≡ (course side kept before).1 ++ word
  pub ran_out : HasRunOut side kept heard s.received s.ended

-- a session has the standing of this stream and sent what is sent for it, or memory ran out on the way
abbrev pub HasSent : Side → ReplicaValue → Heard → Standing → List ℕ → Type 0
HasSent side kept heard s sent = (HasStanding side kept heard s × (sent ≡ (course side kept heard).1)) ⊎ RanOutAfter side kept heard s sent

-- a step was taken
abbrev pub HasBegun : Heard → Type 0
HasBegun Nothing = ⊥
HasBegun _ = Unit {0}

-- it does so for what its reader held at first and doesn't hold now: each byte once, in order; and this was written of
-- what it sent
abbrev pub Speaks : Side → ReplicaValue → Option (List ℕ) → Option (List ℕ) → Standing → (List ℕ → Type 0) → Type 0
Speaks side kept first now s IsWritten = (heard : Heard) × IsHeard first now heard × (sent : List ℕ) × HasSent side kept heard s sent × IsWritten sent × HasBegun heard

-- all of it was written; or a write failed, and a prefix of it was written
abbrev pub IsWrittenUnless : Type 0 → Option (List ℕ) → Option (List ℕ) → List ℕ → Type 0
IsWrittenUnless WriteFailed before after sent = Appends before after sent ⊎ (WriteFailed × AppendsFront before after sent)

-- an end stands as its session does, or a call on its stream failed, or there was no memory for what it had to say
abbrev pub StandsAs : Standing → Ended → Type 0
StandsAs s ended = (ended ≡ s.ended) ⊎ ((ended ≡ Failed Device) ⊎ (ended ≡ Failed Memory))

-- this is what a session of this side and replica received for some stream, and how it ended
pub record IsOfSession (side : Side) (kept : ReplicaValue) (received : Option Delivery) (ended : Ended) : Type 0 where
  pub session : Standing
  pub heard : HasHeard side kept session
  pub is_received : received ≡ session.received
  pub stands : StandsAs session ended

-- what a session came to over a reader and a writer: it took a step, it heard the bytes that the reader held at first
-- and doesn't hold now, each once and in order, and this is what it received; all that it sent was written and it ended
-- so; or a call failed, and all that it sent was written, or where that call was a write a prefix of it
pub record IsOfCalls (side : Side) (kept : ReplicaValue) (first now before after : Option (List ℕ)) (WriteFailed : Type 0) (received : Option Delivery) (ended : Ended) : Type 0 where
  pub session : Standing
  pub heard : Heard
  pub begun : HasBegun heard
  pub is_heard : IsHeard first now heard
  pub sent : List ℕ
  pub is_sent : HasSent side kept heard session sent
  pub is_received : received ≡ session.received
  pub stands : ((ended ≡ session.ended) × Appends before after sent) ⊎ ((ended ≡ Failed Device) × IsWrittenUnless WriteFailed before after sent)

-- what an end came to: it is over, has received nothing or what it checked, and that where it is done, as a session
-- does for some stream
pub record Leaves (side : Side) (kept : ReplicaValue) (received : Option Delivery) (ended : Ended) : Type 0 where
  pub checked : HasChecked kept received
  pub done : IsDoneBy ended received
  pub over : IsOver ended
  pub session : IsOfSession side kept received ended
