-- When code refuses an event, and what it answers.
use Rattle.std.specs.Prelude.{◌≡◌, ◌<◌, ◌++◌, ◌∷◌, [], ℕ, true, List, Some, None, length, count_by, slice_get}
use Rattle.rds_names.specs.declared.fault.Fault.{Fault}
use Rattle.rds_names.specs.declared.fault.Fault.TheVariants.{Memory, TooLong}
use Rattle.rds_names.specs.Roster.{RosterValue}
use Rattle.rds_life.specs.Life.{live_rows}
use Rattle.rds_state.specs.Edit.{covers, needs_room, new_dot}
use Rattle.rds_state.specs.Fits.{ReplicaValue}
use Rattle.rds_state.specs.Value.{StateValue, coordinates, size}
use Rattle.rds_state.specs.declared.command.Command.{Command}
use Rattle.rds_state.specs.declared.command.Edited.{Edited as Effected}
use Rattle.rds_delta.specs.declared.row.Row.{Row}
use Rattle.rds_delta.specs.Claims.{IsCertificate}
use Rattle.rds_delta.specs.Ranks.{ranks}
use Rattle.rds_codec.specs.AnswerTexts.{answer, answer_text}
use Rattle.rds_codec.specs.Exchanged as exchanged
use Rattle.rds_codec.specs.StateTexts.{snapshot_text}
use Rattle.rds_codec.specs.declared.limits.TheConstants.{LIMIT}
use Rattle.rds_world.specs.declared.event.Event.{Event}
use Rattle.rds_world.specs.declared.event.Event.TheVariants.{Edit, Save, Crash, Ask, Answer, Take, Grow}
use Rattle.rds_world.specs.declared.event.Done.{Done}
use Rattle.rds_world.specs.declared.event.Done.TheVariants.{Edited, Plain, Asked, Answered}
use Rattle.rds_world.specs.World.{World, Question, reply, refusal_of}
use Rattle.rds_world.specs.Stored.{WorldValue}

-- the snapshot of a replica in memory is above the limit
pub record IsLongSnapshot (v : WorldValue) (r : ℕ) : Type 0 where
  pub replica : ReplicaValue
  pub there : slice_get v.memory r ≡ Some replica
  pub long : LIMIT < length (snapshot_text replica)

-- the digest of a kept replica is above the limit
pub record MakesLongDigest (v : WorldValue) (r : ℕ) : Type 0 where
  pub replica : ReplicaValue
  pub there : slice_get v.kept r ≡ Some replica
  pub long : exchanged.IsLongDigest replica.state

-- the answer of s to ask k is above the limit
pub record MakesLongAnswer (w : World) (s k : ℕ) : Type 0 where
  pub asked : Question
  pub there : slice_get w.asks k ≡ Some asked
  pub value : StateValue
  pub state : coordinates value ≡ (reply w s k asked).state
  pub rows : List Row
  pub certificate : IsCertificate (ranks asked.state) value rows
  pub long : LIMIT < length (answer_text (answer asked.asker value rows))

-- the text that the event makes is above the limit
abbrev pub MakesTooLong : WorldValue → World → Event → Type 0
MakesTooLong v w (Edit r c) = ⊥
MakesTooLong v w (Save r) = IsLongSnapshot v r
MakesTooLong v w (Crash r) = ⊥
MakesTooLong v w (Ask r) = MakesLongDigest v r
MakesTooLong v w (Answer s k) = MakesLongAnswer w s k
MakesTooLong v w (Take k) = ⊥
MakesTooLong v w (Grow r name) = ⊥

-- the model doesn't refuse the event, and its texts are within their limits
pub record IsAccepted (v : WorldValue) (w : World) (e : Event) : Type 0 where
  pub due : refusal_of w e ≡ None
  pub short : MakesTooLong v w e → ⊥

-- the event may take memory: an edit only where it adds a live dot or a number
abbrev pub TakesMemory : World → Event → Type 0
TakesMemory w (Edit r c) = needs_room (w.memory r) r c ≡ true
TakesMemory w (Save r) = Unit {0}
TakesMemory w (Crash r) = Unit {0}
TakesMemory w (Ask r) = Unit {0}
TakesMemory w (Answer s k) = Unit {0}
TakesMemory w (Take k) = Unit {0}
TakesMemory w (Grow r name) = Unit {0}

-- What the model refuses it for; else a text that is made too long, or Memory. That comes after what the
-- model refuses, which is found without memory. It may come where a text is too long: its length is found with memory.
pub data RefusesEvent (v : WorldValue) (w : World) (e : Event) : Fault → Type 0 where
  NoMemory : refusal_of w e ≡ None → TakesMemory w e → RefusesEvent v w e Memory
  Due : (f : Fault) → refusal_of w e ≡ Some f → RefusesEvent v w e f
  Long : refusal_of w e ≡ None → MakesTooLong v w e → RefusesEvent v w e TooLong

-- the roster after an event that isn't refused
abbrev pub roster_after_event : RosterValue → Event → RosterValue
roster_after_event roster (Edit r c) = roster
roster_after_event roster (Save r) = roster
roster_after_event roster (Crash r) = roster
roster_after_event roster (Ask r) = roster
roster_after_event roster (Answer s k) = roster
roster_after_event roster (Take k) = roster
roster_after_event roster (Grow r name) = record roster { names = roster.names ++ name ∷ [] }

-- what an edit did: the dot that it made, and how many live dots it covers
pub record IsEffected (v : WorldValue) (w : World) (r : ℕ) (c : Command) (e : Effected) : Type 0 where
  pub dot : e.dot ≡ new_dot (w.memory r) r c
  pub killed : (m : ReplicaValue) → slice_get v.memory r ≡ Some m → e.killed ≡ count_by (λ row. covers c row.1) (live_rows m.state.lives)

-- the number of an answer, and how many components its delta has
pub record IsAnswerMade (w : World) (s k at many : ℕ) : Type 0 where
  pub number : at ≡ length w.answers
  pub components : (q : Question) (d : StateValue) → slice_get w.asks k ≡ Some q → coordinates d ≡ (reply w s k q).state → many ≡ size d

-- what the event answers
abbrev pub IsDone : WorldValue → World → Event → Done → Type 0
IsDone v w (Edit r c) (Edited e) = IsEffected v w r c e
IsDone v w (Save r) Plain = Unit {0}
IsDone v w (Crash r) Plain = Unit {0}
IsDone v w (Ask r) (Asked k) = k ≡ length w.asks
IsDone v w (Answer s j) (Answered k components) = IsAnswerMade w s j k components
IsDone v w (Take k) Plain = Unit {0}
IsDone v w (Grow r name) Plain = Unit {0}
IsDone v w e done = ⊥
