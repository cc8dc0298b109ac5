-- Messages that are sent, one after the other.
use Rattle.std.specs.Prelude.{◌≡◌, ◌<◌, ◌≤◌, ℕ, nat_lt, Bool, true, false, List, [], ◌∷◌, ◌++◌, length, Result, MatchResult, MatchBool, if◌then◌else◌}
use Rattle.rds_names.specs.declared.fault.Fault.{Fault}
use Rattle.rds_names.specs.declared.fault.Fault.TheVariants.{Memory}
use Rattle.rds_session.specs.declared.chunks.TheConstants.{MESSAGE_LIMIT}
use Rattle.std.specs.Global.{Vec}
use Rattle.rds_codec.specs.Exchanged.{IsLost}
use Rattle.rds_codec.specs.declared.limits.TheConstants.{LIMIT}
use Rattle.rds_session.specs.declared.kinds.MessageKind.{MessageKind}
use Rattle.rds_session.specs.Chunks.{message_in_chunks}
use Rattle.rds_session.specs.Messages.{type_byte}

abbrev pub then_sent : List ℕ → List ℕ × Bool → List ℕ × Bool
then_sent bytes p = (bytes ++ p.0, p.1)

-- the bytes of the messages before the first that is over the limit, and whether none is
unfoldable pub sending : List (List ℕ) → List ℕ × Bool
sending [] = ([], true)
sending (m ∷ ms) = if nat_lt MESSAGE_LIMIT (length m) then ([], false) else then_sent (message_in_chunks m) (sending ms)

-- a message was added, or is over the limit
abbrev pub SendsOne : List ℕ → List ℕ → List ℕ → Result Bool Fault → Type 0
SendsOne old new m result = MatchResult result
    (λ fits. MatchBool fits ((length m ≤ MESSAGE_LIMIT) × (new ≡ old ++ message_in_chunks m)) ((MESSAGE_LIMIT < length m) × (new ≡ old)))
    (λ e. e ≡ Memory)

-- a text, or why it isn't there: memory ran out, or it is over its own limit
abbrev pub IsTextOrLost : List ℕ → Result (Vec ℕ) Fault → Type 0
IsTextOrLost text body = MatchResult body (λ v. (v.items ≡ text) × (length text ≤ LIMIT)) (IsLost (LIMIT < length text))

-- the same of a message whose body was made, or is over the limit itself
abbrev pub SendsBody : List ℕ → List ℕ → MessageKind → Result (Vec ℕ) Fault → Result Bool Fault → Type 0
SendsBody old new kind body result = (text : List ℕ) → IsTextOrLost text body → SendsOne old new (type_byte kind ∷ text) result

-- messages were added, or those before the first that is over the limit
abbrev pub SendsAll : List ℕ → List ℕ → List (List ℕ) → Result Bool Fault → Type 0
SendsAll old new ms result = MatchResult result (λ all. then_sent old (sending ms) ≡ (new, all)) (λ e. e ≡ Memory)
