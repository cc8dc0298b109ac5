-- What a session sends and receives for the stream so far.
use Rattle.std.specs.Prelude.{ℕ, Bool, true, false, List, [], ◌∷◌, ◌++◌, Option, Some, None, Result, Ok, Err, if◌then◌else◌}
use Rattle.rds_names.specs.declared.fault.Fault.{Fault}
use Rattle.rds_names.specs.declared.fault.Fault.TheVariants.{TooLong, PeerEnded, Forked}
use Rattle.rds_state.specs.Fits.{ReplicaValue}
use Rattle.rds_session.specs.declared.kinds.ByeCode.TheVariants as byes
use Rattle.rds_session.specs.declared.talk.Side.{Side}
use Rattle.rds_session.specs.declared.talk.Side.TheVariants.{Client, Server}
use Rattle.rds_session.specs.declared.talk.Stop.{Stop}
use Rattle.rds_session.specs.declared.talk.Stop.TheVariants.{Refused, Left}
use Rattle.rds_session.specs.declared.step.Ended.{Ended}
use Rattle.rds_session.specs.declared.step.Ended.TheVariants.{Going, Done, Failed}
use Rattle.rds_session.specs.Chunks.{Under, start_of_chunks, message_in_chunks, Scan, More, Whole, Long, byte_scanned}
use Rattle.rds_session.specs.Messages.{hello_message, digest_said, bye_message, code_of}
use Rattle.rds_session.specs.Judging.{Awaited, ForHello, Said, Receives, Finishes, Forks, verdict, awaited_after, replies_of}
use Rattle.rds_session.specs.Received.{Delivery}
use Rattle.rds_session.specs.Sending.{sending}
use Rattle.rds_session.specs.Versions.{says_hashes}

-- what a session holds of what came so far: whether a step was made, the message that is waited for, what was
-- received, how it ended, and what has come of the message under way
pub record Standing : Type 0 where
  pub side : Side
  pub kept : ReplicaValue
  pub begun : Bool
  pub turn : Awaited
  pub received : Option Delivery
  pub ended : Ended
  pub under : Under

abbrev pub fresh : Side → ReplicaValue → Standing
fresh side kept = record {
  side = side;
  kept = kept;
  begun = false;
  turn = ForHello side;
  received = None;
  ended = Going;
  under = start_of_chunks;
}

abbrev pub failure : Standing → Fault → Standing
failure s f = record s { ended = Failed f; under = start_of_chunks }

-- a standing, and what was sent on the way to it
abbrev pub Sent : Type 0
Sent = Standing × List ℕ

abbrev pub then_more : Sent → (Standing → Sent) → Sent
then_more p go = ((go p.0).0, p.1 ++ (go p.0).1)

abbrev pub when_going : {A : Type 0} → Ended → A → A → A
when_going Going x y = x
when_going _ x y = y

abbrev pub after_sending : Standing → List ℕ × Bool → Sent
after_sending s p = if p.1 then (s, p.0) else (failure s TooLong, p.0 ++ message_in_chunks (bye_message byes.OwnFault))

abbrev pub sends : Standing → List (List ℕ) → Sent
sends s ms = after_sending s (sending ms)

abbrev pub refuses : Standing → Fault → Sent
refuses s f = (failure s f, message_in_chunks (bye_message (code_of f)))

-- what is received, and how the session ends
abbrev pub received_after : Option Delivery → Said → Option Delivery
received_after received (Receives delta roster mark) = Some (delta, roster)
received_after received _ = received

abbrev pub ended_after : Ended → Said → Ended
ended_after ended Finishes = Done
ended_after ended Forks = Failed Forked
ended_after ended _ = ended

abbrev pub after_said : Standing → Said → Standing
after_said s said = record s { turn = awaited_after s.turn said; received = received_after s.received said; ended = ended_after s.ended said }

abbrev pub after_verdict : Standing → Result Said Stop → Sent
after_verdict s (Ok said) = sends (after_said s said) (replies_of s.side s.kept s.turn said)
after_verdict s (Err (Refused f)) = refuses s f
after_verdict s (Err (Left f)) = (failure s f, [])

-- a whole message comes
unfoldable pub message_comes : Standing → List ℕ → Sent
message_comes s m = after_verdict s (verdict s.kept s.turn m)

-- what was scanned comes, and then the rest
abbrev pub after_scan : Standing → Scan → (List ℕ → Standing → Sent) → Sent
after_scan s (More u) go = (record s { under = u }, [])
after_scan s (Whole m rest) go = then_more (message_comes (record s { under = start_of_chunks }) m) (go rest)
after_scan s Long go = refuses s TooLong

-- nothing more
abbrev pub stay : List ℕ → Standing → Sent
stay bs s = (s, [])

abbrev pub byte_comes : Standing → ℕ → Sent
byte_comes s b = after_scan s (byte_scanned s.under.place s.under.held b) stay

-- bytes come, one after the other
unfoldable pub run_bytes : List ℕ → Standing → Sent
run_bytes [] s = (s, [])
run_bytes (b ∷ bs) s = when_going s.ended (then_more (byte_comes s b) (run_bytes bs)) (s, [])

abbrev pub opening : Side → ReplicaValue → List (List ℕ)
opening (Client version) kept = hello_message kept version ∷ digest_said (says_hashes version) version kept ∷ []
opening Server kept = []

-- what the first step sends, whatever its input
unfoldable pub after_opening : Standing → Sent
after_opening s = if s.begun then (s, []) else sends (record s { begun = true }) (opening s.side s.kept)

-- the input has ended
abbrev pub cut_off : Standing → Sent
cut_off s = when_going s.ended (failure s PeerEnded, []) (s, [])

-- ---- the stream so far

-- nothing before the first step; the bytes so far; all of the bytes, with their end
pub data Heard : Type 0 where
  Nothing : Heard
  So_far : (bytes : List ℕ) → Heard
  All_of : (bytes : List ℕ) → Heard

-- what comes in one step: bytes, or the end
abbrev pub heard_more : Heard → Option (List ℕ) → Heard
heard_more Nothing (Some piece) = So_far piece
heard_more Nothing None = All_of []
heard_more (So_far x) (Some piece) = So_far (x ++ piece)
heard_more (So_far x) None = All_of x
heard_more (All_of x) input = All_of x

-- the standing of a stream, and all bytes that are sent for it
unfoldable pub course : Side → ReplicaValue → Heard → Sent
course side kept Nothing = (fresh side kept, [])
course side kept (So_far x) = then_more (after_opening (fresh side kept)) (run_bytes x)
course side kept (All_of x) = then_more (then_more (after_opening (fresh side kept)) (run_bytes x)) cut_off

-- one step from a standing
abbrev pub after_input : Option (List ℕ) → Standing → Sent
after_input (Some piece) s = run_bytes piece s
after_input None s = cut_off s

unfoldable pub after_step : Standing → Option (List ℕ) → Sent
after_step s input = when_going s.ended (then_more (after_opening s) (after_input input)) (s, [])
