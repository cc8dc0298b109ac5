-- What an end of a pair says and hears.
use Rattle.std.specs.Prelude.{◌≡◌, ◌⊎◌, ◌≤◌, ℕ, Bool, length, take, drop, List, [], ◌++◌, Option, refl}
use Rattle.std.specs.Coded.{Coded, code_by, coded×, coded_bool, coded_list, coded_ℕ}
use Rattle.std.specs.Io.KnownBytes.{Appends, Consumes, IsAtEnd}
use Rattle.rds_names.specs.declared.fault.Fault.TheVariants.{Device, Memory}
use Rattle.rds_state.specs.Fits.{ReplicaValue}
use Rattle.rds_session.specs.contracts.step.Ended as ended
use Rattle.rds_session.specs.declared.step.Ended.{Ended}
use Rattle.rds_session.specs.declared.step.Ended.TheVariants.{Going, Failed}
use Rattle.rds_session.specs.declared.talk.Side.{Side}
use Rattle.rds_session.specs.Code.{coded_standing}
use Rattle.rds_session.specs.Exchange.{IsHeard}
use Rattle.rds_session.specs.Leaving.{HasSent}
use Rattle.rds_session.specs.Session.{Heard, Standing}
use Rattle.rds_session.specs.Steps.{Continues, HasStanding, IsOver}

-- a session, its stream, what is still to be said, how the end stands, and whether writing was shut down
pub record EndValue (T : Type 0) : Type 0 where
  pub session : Standing
  pub stream : T
  pub pending : List ℕ
  pub ended : Ended
  pub is_shut : Bool

abbrev pub coded_end : {T : Type 0} → Coded T → Coded (EndValue T)
coded_end {T} code =
    code_by (Standing × (T × (List ℕ × (Ended × Bool))))
    (coded× coded_standing (coded× code (coded× (coded_list coded_ℕ) (coded× ended.the_row.coded coded_bool))))
    (λ e. (e.session, (e.stream, (e.pending, (e.ended, e.is_shut)))))
    (λ p. record { session = p.0; stream = p.1.0; pending = p.1.1.0; ended = p.1.1.1.0; is_shut = p.1.1.1.1 })
    (λ _. refl)

-- it said so many of the bytes that were to be said, from the first on, and nothing else
pub record HasSaid {T : Type 0} (old new : EndValue T) (before after : Option (List ℕ)) (count : ℕ) : Type 0 where
  pub some : 1 ≤ count
  pub within : count ≤ length old.pending
  pub said : Appends before after (take count old.pending)
  pub left : new ≡ record old { stream = new.stream; pending = drop count old.pending }

-- a step of the session with this input: what it sends is to be said after what already is; or there was no memory for
-- that
pub record HasStepped (side : Side) (kept : ReplicaValue) (heard : Heard) (input : Option (List ℕ)) {T : Type 0}
    (old new : EndValue T) : Type 0 where
  pub sent : List ℕ
  pub continues : Continues side kept heard input new.session sent
  pub told : ((new.ended ≡ new.session.ended) × (new.pending ≡ old.pending ++ sent))
      ⊎ ((new.ended ≡ Failed Memory) × (new.pending ≡ old.pending))

-- an end that goes on takes a step, and one that is over takes nothing more
pub record TakesInput (input : Option (List ℕ)) {T : Type 0} (old new : EndValue T) : Type 0 where
  pub over : IsOver old.ended → new ≡ old
  pub going : old.ended ≡ Going → (side : Side) (kept : ReplicaValue) (heard : Heard)
      → HasStanding side kept heard old.session → HasStepped side kept heard input old new
  pub same : new ≡ record old { session = new.session; pending = new.pending; ended = new.ended }

-- an end that heard what its stream held at first and doesn't hold now, each byte once and in order, but for what came
-- when it was over; and what it has said and is still to say is what its session sends for that, but for what there was
-- no memory for
pub record Hears (side : Side) (kept : ReplicaValue) (first now : Option (List ℕ)) (said : List ℕ) {T : Type 0}
    (e : EndValue T) : Type 0 where
  pub heard : Heard
  pub held : Option (List ℕ)
  pub dropped : List ℕ
  pub lost : List ℕ
  pub is_heard : IsHeard first held heard
  pub is_dropped : Consumes held now dropped
  pub is_sent : HasSent side kept heard e.session (said ++ e.pending ++ lost)
  pub going : e.ended ≡ Going → dropped ≡ []
  pub stands : ((e.ended ≡ e.session.ended) × (lost ≡ [])) ⊎ ((e.ended ≡ Failed Device) ⊎ (e.ended ≡ Failed Memory))

-- whatever it had heard and said, it hears on
abbrev pub HearsOn : {T : Type 0} → Option (List ℕ) → Option (List ℕ) → EndValue T → EndValue T → Type 0
HearsOn now later old new =
    (side : Side) (kept : ReplicaValue) (first : Option (List ℕ)) (said : List ℕ) → Hears side kept first now said old
    → Hears side kept first later said new

-- the stream has ended, and the end is over
abbrev pub HeardTheEnd : {T : Type 0} → Option (List ℕ) → Option (List ℕ) → EndValue T → EndValue T → Type 0
HeardTheEnd now later old new =
    IsAtEnd later
    × ((side : Side) (kept : ReplicaValue) (first : Option (List ℕ)) (said : List ℕ)
    → Hears side kept first now said old → IsOver new.ended)

-- so many bytes came; or fewer, and then the end of the stream
pub record HasHeardAll {T : Type 0} (count : ℕ) (now later : Option (List ℕ)) (old new : EndValue T) : Type 0 where
  pub bytes : List ℕ
  pub came : Consumes now later bytes
  pub all : (length bytes ≡ count) ⊎ HeardTheEnd now later old new
