-- A session's course, message by message.
use Rattle.std.specs.Prelude.{◌≡◌, ℕ, ◌+◌, ◌-◌, ◌≤◌, nat_lt, List, [], ◌∷◌, length, if◌then◌else◌}
use Rattle.rds_names.specs.declared.fault.Fault.TheVariants.{TooLong}
use Rattle.rds_state.specs.Fits.{ReplicaValue}
use Rattle.rds_session.specs.declared.chunks.TheConstants.{MESSAGE_LIMIT}
use Rattle.rds_session.specs.declared.talk.Side.{Side}
use Rattle.rds_session.specs.Chunks.{start_of_chunks}
use Rattle.rds_session.specs.Stream.{Splits, IsPart, contents_of}
use Rattle.rds_session.specs.Session.{Standing, Sent, fresh, then_more, when_going, refuses, message_comes, run_bytes, after_opening, So_far, course}

-- a message comes: one over the limit is refused
abbrev pub after_message : Standing → List ℕ → Sent
after_message s m = if nat_lt MESSAGE_LIMIT (length m) then refuses s TooLong else message_comes s m

-- messages come one after the other, until the end
abbrev pub talk : List (List ℕ) → Standing → Sent
talk [] s = (s, [])
talk (m ∷ ms) s = when_going s.ended (then_more (after_message s m) (talk ms)) (s, [])

-- the course of a stream is that of its messages, and then its rest
abbrev pub IsByMessages : Type 0
IsByMessages = (side : Side) (kept : ReplicaValue) (x : List ℕ) (ms : List (List ℕ)) (rest : List ℕ) → Splits x ms rest
    → course side kept (So_far x) ≡ then_more (then_more (after_opening (fresh side kept)) (talk ms)) (run_bytes rest)

-- how much of a message's content has come: what its chunks hold, without the two bytes that each begins with
abbrev pub content_of : {rest : List ℕ} → IsPart rest → ℕ
content_of p = length (contents_of p.chunks) + (length p.front - 2)

-- less than a message is answered by nothing, and ends nothing, as long as its content is within the limit
abbrev pub IsQuiet : Type 0
IsQuiet = (s : Standing) (rest : List ℕ) → s.under ≡ start_of_chunks → (p : IsPart rest) → content_of p ≤ MESSAGE_LIMIT → ((run_bytes rest s).1 ≡ []) × ((run_bytes rest s).0.ended ≡ s.ended)
