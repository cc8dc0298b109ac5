-- What a message says, and how that is judged.
use Rattle.std.specs.Prelude.{◌≡◌, ℕ, Bool, false, ◌&&◌, List, [], ◌∷◌, Option, Some, None, is_some, Result, Ok, Err, if◌then◌else◌}
use Rattle.rds_names.specs.declared.fault.Fault.{Fault}
use Rattle.rds_names.specs.declared.fault.Fault.TheVariants.{Cut, Bad, Extra, WrongVersion, OutOfTurn}
use Rattle.rds_state.specs.Fits.{ReplicaValue}
use Rattle.rds_state.specs.declared.mark.Mark.{Mark}
use Rattle.rds_delta.specs.Digested.{DigestValue, digest_of}
use Rattle.rds_codec.specs.AnswerTexts.{IsAnswerOf}
use Rattle.rds_codec.specs.AnswerValues.{AnswerValue}
use Rattle.rds_codec.specs.declared.formats.Format.{Format}
use Rattle.rds_codec.specs.declared.hellos.Hello.{Hello}
use Rattle.rds_session.specs.declared.content.Content.{Content}
use Rattle.rds_session.specs.declared.content.Content.TheVariants as contents
use Rattle.rds_session.specs.declared.content.Expected.{Expected}
use Rattle.rds_session.specs.declared.content.Expected.TheVariants as expecteds
use Rattle.rds_session.specs.declared.kinds.ByeCode.{ByeCode}
use Rattle.rds_session.specs.declared.kinds.MessageKind.{MessageKind}
use Rattle.rds_session.specs.declared.kinds.MessageKind.TheVariants as kinds
use Rattle.rds_session.specs.declared.talk.Side.{Side}
use Rattle.rds_session.specs.declared.talk.Stop.{Stop}
use Rattle.rds_session.specs.declared.talk.Stop.TheVariants.{Refused}
use Rattle.rds_session.specs.Bodies.{hello_in, digest_in, answer_in}
use Rattle.rds_session.specs.declared.version.Version.{Version}
use Rattle.rds_session.specs.Judging.{Awaited, ForHello, ForDigest, ForWhole, ForDelta, ForBye, Said, Learns, bye_judged, delta_judged, hash_judged, is_done, mark_judged, member_judged, replicas_of, version_with}
use Rattle.rds_answers.specs.Hashes.{hash_in}
use Rattle.rds_session.specs.Marked.{mark_read}
use Rattle.rds_session.specs.Versions.{as_hello, delta_format, says_hashes}
use Rattle.rds_session.specs.Wants.{heard_behind}
use Rattle.rds_session.specs.Messages.{kind_of, bye_of}

pub data ContentValue : Type 0 where
  OfHello : (version : Version) (hello : Hello) → ContentValue
  OfDigest : (digest : DigestValue) → ContentValue
  OfHash : (hash : List ℕ) → ContentValue
  OfDelta : (answer : AnswerValue) → ContentValue
  OfBye : (code : ByeCode) → ContentValue
  OfMark : (mark : Mark) → ContentValue

abbrev pub content_value : {S : Type 0} → Content S → ContentValue
content_value (contents.Hello version hello) = OfHello version hello
content_value (contents.Digest digest) = OfDigest digest
content_value (contents.Hash hash) = OfHash hash
content_value (contents.Delta answer) = OfDelta answer
content_value (contents.Bye code) = OfBye code
content_value (contents.Mark mark) = OfMark mark

-- the message that is waited for, of the replicas of the longer roster and in the peer's format
abbrev pub expected_of : ReplicaValue → Awaited → Expected
expected_of kept (ForHello side) = expecteds.Hello side
expected_of kept (ForDigest peer) = expecteds.Digest peer.version (replicas_of kept peer.roster) (says_hashes peer.version)
expected_of kept (ForWhole peer) = expecteds.Digest peer.version (replicas_of kept peer.roster) false
expected_of kept (ForDelta peer digest) = expecteds.Delta (delta_format peer.version) (replicas_of kept peer.roster)
expected_of kept (ForBye mark) = expecteds.Bye (is_some mark)

-- ---- reading

abbrev pub read_as : {A : Type 0} → (A → ContentValue) → Result A Fault → Result ContentValue Fault
read_as f (Ok x) = Ok (f x)
read_as f (Err e) = Err e

abbrev pub version_read : Option Version → List ℕ → Result ContentValue Fault
version_read None rest = Err WrongVersion
version_read (Some version) rest = read_as (OfHello version) (hello_in (as_hello version rest))

abbrev pub hello_read : Side → List ℕ → Result ContentValue Fault
hello_read side [] = Err Cut
hello_read side (byte ∷ rest) = version_read (version_with side byte) rest

-- whether the last BYE that is waited for says a mark
abbrev pub expects_mark : Expected → Bool
expects_mark (expecteds.Bye marked) = marked
expects_mark expected = false

abbrev pub plain_read : ByeCode → List ℕ → Result ContentValue Fault
plain_read code [] = Ok (OfBye code)
plain_read code (b ∷ rest) = Err Extra

abbrev pub code_read : Bool → Option ByeCode → List ℕ → Result ContentValue Fault
code_read marked None rest = Err Bad
code_read marked (Some code) rest = if marked && is_done code then read_as OfMark (mark_read rest) else plain_read code rest

abbrev pub bye_read : Bool → List ℕ → Result ContentValue Fault
bye_read marked [] = Err Cut
bye_read marked (b ∷ rest) = code_read marked (bye_of b) rest

-- whether a HASH is waited for
abbrev pub expects_hash : Expected → Bool
expects_hash (expecteds.Digest version replicas hashed) = hashed
expects_hash expected = false

abbrev pub hash_read : Bool → List ℕ → Result ContentValue Fault
hash_read hashed body = if hashed then read_as OfHash (hash_in body) else Err Bad

-- a BYE at any time, another message where it is waited for
abbrev pub body_read : Expected → MessageKind → List ℕ → Result ContentValue Fault
body_read expected kinds.Bye body = bye_read (expects_mark expected) body
body_read (expecteds.Hello side) kinds.Hello body = hello_read side body
body_read expected kinds.Hash body = hash_read (expects_hash expected) body
body_read (expecteds.Digest version replicas hashed) kinds.Digest body = read_as OfDigest (digest_in version replicas body)
body_read (expecteds.Delta format replicas) kinds.Delta body = read_as OfDelta (answer_in format replicas body)
body_read expected kind body = Err OutOfTurn

abbrev pub kind_read : Expected → Option MessageKind → List ℕ → Result ContentValue Fault
kind_read expected None body = Err Bad
kind_read expected (Some kind) body = body_read expected kind body

-- what a whole message says, or the fault that it has whoever hears it
unfoldable pub message_read : Expected → List ℕ → Result ContentValue Fault
message_read expected [] = Err Cut
message_read expected (n ∷ body) = kind_read expected (kind_of n) body

-- ---- judging

abbrev pub content_judged : ReplicaValue → Awaited → ContentValue → Result Said Stop
content_judged kept turn (OfBye code) = bye_judged code turn
content_judged kept turn (OfMark mark) = mark_judged turn mark
content_judged kept (ForHello side) (OfHello version hello) = member_judged kept version hello
content_judged kept turn (OfHash hash) = hash_judged kept turn hash
content_judged kept (ForDigest peer) (OfDigest digest) = Ok (Learns peer digest)
content_judged kept (ForWhole peer) (OfDigest digest) = Ok (Learns peer (heard_behind peer.version (digest_of kept.state) digest))
content_judged kept (ForDelta peer digest) (OfDelta answer) = delta_judged kept peer answer
content_judged kept turn content = Err (Refused OutOfTurn)

-- an answer that was read from a body in a format, of so many replicas
pub record IsRead (format : Format) (replicas : ℕ) (answer : AnswerValue) : Type 0 where
  pub body : List ℕ
  pub read : answer_in format replicas body ≡ Ok answer
  pub value : IsAnswerOf replicas answer

-- where an answer is waited for, it was read of the replicas of the longer roster, in the peer's format
abbrev pub IsReadFor : ReplicaValue → Awaited → ContentValue → Type 0
IsReadFor kept (ForDelta peer digest) (OfDelta answer) = IsRead (delta_format peer.version) (replicas_of kept peer.roster) answer
IsReadFor kept turn content = Unit {0}
