-- What a whole message is taken as, or why it ends the session.
use Rattle.std.specs.Prelude.{◌≡◌, ℕ, ◌==◌, ◌&&◌, ◌||◌, nat_lt, Bool, true, false, List, [], ◌∷◌, length, Option, Some, None, is_some, Result, Ok, Err, if◌then◌else◌}
use Rattle.std.specs.Str.{bytes_eq}
use Rattle.std.specs.List.{starts_with}
use Rattle.rds_names.specs.declared.fault.Fault.{Fault}
use Rattle.rds_names.specs.declared.fault.Fault.TheVariants.{Device, Memory, WrongAsker, Cut, Bad, Extra, TooLong, BadCertificate, WrongVersion, WrongGroup, WrongRoster, SameReplica, OutOfTurn}
use Rattle.rds_names.specs.Roster.{RosterValue}
use Rattle.rds_state.specs.Fits.{ReplicaValue}
use Rattle.rds_state.specs.Value.{StateValue}
use Rattle.rds_state.specs.declared.mark.Mark.{Mark}
use Rattle.rds_delta.specs.Digested.{DigestValue, digest_of}
use Rattle.rds_session.specs.declared.kinds.ByeCode.{ByeCode}
use Rattle.rds_session.specs.declared.kinds.ByeCode.TheVariants as byes
use Rattle.rds_session.specs.declared.kinds.MessageKind.{MessageKind}
use Rattle.rds_session.specs.declared.kinds.MessageKind.TheVariants as kinds
use Rattle.rds_session.specs.declared.talk.Peer.{Peer}
use Rattle.rds_session.specs.declared.talk.Side.{Side}
use Rattle.rds_session.specs.declared.talk.Side.TheVariants.{Client, Server}
use Rattle.rds_session.specs.declared.talk.Turn.{Turn}
use Rattle.rds_session.specs.declared.talk.Turn.TheVariants as turns
use Rattle.rds_session.specs.declared.talk.Act.{Act}
use Rattle.rds_session.specs.declared.talk.Act.TheVariants as acts
use Rattle.rds_session.specs.declared.talk.Stop.{Stop}
use Rattle.rds_session.specs.declared.talk.Stop.TheVariants.{Refused, Left}
use Rattle.rds_codec.specs.AnswerValues.{AnswerValue}
use Rattle.rds_codec.specs.DigestTexts.{digest_text}
use Rattle.rds_codec.specs.declared.hellos.Hello.{Hello}
use Rattle.rds_codec.specs.declared.limits.TheConstants.{LIMIT}
use Rattle.rds_session.specs.declared.version.Version.{Version}
use Rattle.rds_session.specs.Bodies.{hello_in, digest_in, answer_in}
use Rattle.rds_answers.specs.Checked.{passes}
use Rattle.rds_answers.specs.Hashes.{digest_hash, hash_in}
use Rattle.rds_session.specs.Marked.{mark_read, same_mark, told_mark}
use Rattle.rds_session.specs.Messages.{kind_of, bye_of, hello_message, behind_message, digest_message, digest_said, delta_message, done_message, bye_fault}
use Rattle.rds_session.specs.Wants.{heard_behind}
use Rattle.rds_session.specs.Versions.{as_hello, delta_format, says_hashes, version_byte, version_said}

-- the message that is waited for: a HELLO to this side, or another with what the earlier ones said, who the peer is and
-- its digest, and where marks are told the own one. A digest is waited for by its hash, where the version has them, or
-- whole; or as it is said behind the own one, where its hash wasn't that
pub data Awaited : Type 0 where
  ForHello : (side : Side) → Awaited
  ForDigest : (peer : Peer) → Awaited
  ForWhole : (peer : Peer) → Awaited
  ForDelta : (peer : Peer) (digest : DigestValue) → Awaited
  ForBye : (mark : Option Mark) → Awaited

-- what an accepted message says. The peer shares the own digest where its hash is that one's, and misses it else. A
-- delta comes with the mark of what is held with it, where one is reported
pub data Said : Type 0 where
  Greets : (peer : Peer) → Said
  Learns : (peer : Peer) (digest : DigestValue) → Said
  Shares : (peer : Peer) (digest : DigestValue) → Said
  Misses : (peer : Peer) → Said
  Receives : (delta : StateValue) (roster : Option RosterValue) (mark : Option Mark) → Said
  Finishes : Said
  Forks : Said

abbrev pub wait_of : {S : Type 0} → Turn S → Awaited
wait_of (turns.Hello side) = ForHello side
wait_of (turns.Digest peer) = ForDigest peer
wait_of (turns.Whole peer) = ForWhole peer
wait_of (turns.Delta peer digest) = ForDelta peer digest
wait_of (turns.Bye mark) = ForBye mark

abbrev pub saying_of : {S : Type 0} → Act S → Said
saying_of (acts.Greet peer) = Greets peer
saying_of (acts.Learn peer digest) = Learns peer digest
saying_of (acts.Share peer digest) = Shares peer digest
saying_of (acts.Miss peer) = Misses peer
saying_of (acts.Receive delta roster mark) = Receives delta roster mark
saying_of acts.Finish = Finishes
saying_of acts.Fork = Forks

-- ---- BYE

-- the peer is done in its turn alone, and may end the session at any time
abbrev pub bye_judged : ByeCode → Awaited → Result Said Stop
bye_judged byes.Done (ForBye None) = Ok Finishes
bye_judged byes.Done turn = Err (Refused OutOfTurn)
bye_judged code turn = Err (Left (bye_fault code))

-- the peer is done in its turn alone, and holds what is held here, where its mark is the own one
abbrev pub mark_judged : Awaited → Mark → Result Said Stop
mark_judged (ForBye (Some own)) mark = Ok (if same_mark own mark then Finishes else Forks)
mark_judged turn mark = Err (Refused OutOfTurn)

abbrev pub is_done : ByeCode → Bool
is_done byes.Done = true
is_done code = false

-- whether the last BYE that is waited for says a mark
abbrev pub waits_for_mark : Awaited → Bool
waits_for_mark (ForBye mark) = is_some mark
waits_for_mark turn = false

-- a body is read, and then judged
abbrev pub read_then : {A : Type 0} → Result A Fault → (A → Result Said Stop) → Result Said Stop
read_then (Ok x) f = f x
read_then (Err e) f = Err (Refused e)

-- a code came that says no mark, and then these bytes
abbrev pub plain_came : Awaited → ByeCode → List ℕ → Result Said Stop
plain_came turn code [] = bye_judged code turn
plain_came turn code (b ∷ rest) = Err (Refused Extra)

-- a code came, and then these bytes
abbrev pub code_came : Awaited → Option ByeCode → List ℕ → Result Said Stop
code_came turn None rest = Err (Refused Bad)
code_came turn (Some code) rest =
    if waits_for_mark turn && is_done code then read_then (mark_read rest) (mark_judged turn) else plain_came turn code rest

-- a BYE has one byte, its code, and a mark behind it where one is waited for
abbrev pub bye_came : Awaited → List ℕ → Result Said Stop
bye_came turn [] = Err (Refused Cut)
bye_came turn (b ∷ rest) = code_came turn (bye_of b) rest

-- ---- the other messages

-- one roster's names are the other's first ones
abbrev pub one_begins : List (List ℕ) → List (List ℕ) → Bool
one_begins ns ms = starts_with bytes_eq ms ns || starts_with bytes_eq ns ms

-- the other roster, where it has more names than the own one
abbrev pub longer_than : RosterValue → RosterValue → Option RosterValue
longer_than own other = if nat_lt (length own.names) (length other.names) then Some other else None

-- the version that is spoken with a peer that says one: a server speaks any that its client does, a client its own
-- alone
abbrev pub version_with : Side → ℕ → Option Version
version_with Server byte = version_said byte
version_with (Client version) byte = if byte == version_byte version then Some version else None

-- who says hello, and the version that is spoken with it
abbrev pub peer_of : ReplicaValue → Version → Hello → Peer
peer_of kept version h = record { number = h.own; roster = longer_than kept.roster h.roster; version = version }

-- the group, then the names and their order, then the own number
abbrev pub member_judged : ReplicaValue → Version → Hello → Result Said Stop
member_judged kept version h =
    if bytes_eq h.roster.group kept.roster.group
    then (if one_begins h.roster.names kept.roster.names
    then (if h.own == kept.own then Err (Refused SameReplica) else Ok (Greets (peer_of kept version h)))
    else Err (Refused WrongRoster))
    else Err (Refused WrongGroup)

-- another version is refused whatever follows it
abbrev pub version_came : ReplicaValue → Option Version → List ℕ → Result Said Stop
version_came kept None rest = Err (Refused WrongVersion)
version_came kept (Some version) rest = read_then (hello_in (as_hello version rest)) (member_judged kept version)

-- the version, then who speaks
abbrev pub hello_came : Side → ReplicaValue → List ℕ → Result Said Stop
hello_came side kept [] = Err (Refused Cut)
hello_came side kept (byte ∷ rest) = version_came kept (version_with side byte) rest

-- the longer of two rosters: the own one, or the other where it is there
abbrev pub roster_among : RosterValue → Option RosterValue → RosterValue
roster_among own None = own
roster_among own (Some longer) = longer

-- how many replicas the longer roster has
abbrev pub replicas_of : ReplicaValue → Option RosterValue → ℕ
replicas_of kept longer = length (roster_among kept.roster longer).names

abbrev pub digest_came : ReplicaValue → Peer → List ℕ → Result Said Stop
digest_came kept peer body = read_then (digest_in peer.version (replicas_of kept peer.roster) body) (λ digest. Ok (Learns peer digest))

-- the same behind a hash that wasn't the own one: the peer has the own digest
abbrev pub whole_came : ReplicaValue → Peer → List ℕ → Result Said Stop
whole_came kept peer body =
    read_then (digest_in peer.version (replicas_of kept peer.roster) body)
    (λ digest. Ok (Learns peer (heard_behind peer.version (digest_of kept.state) digest)))

-- whether the peer has the own digest, by its hash
abbrev pub hash_said : ReplicaValue → Peer → List ℕ → Said
hash_said kept peer hash =
    let own = digest_of kept.state in if bytes_eq hash (digest_hash own) then Shares peer own else Misses peer

-- an own digest that is over the limit has no hash
abbrev pub hash_judged : ReplicaValue → Awaited → List ℕ → Result Said Stop
hash_judged kept (ForDigest peer) hash =
    if nat_lt LIMIT (length (digest_text (digest_of kept.state))) then Err (Refused TooLong) else Ok (hash_said kept peer hash)
hash_judged kept turn hash = Err (Refused OutOfTurn)

-- whether a hash is waited for
abbrev pub waits_for_hash : Awaited → Bool
waits_for_hash (ForDigest peer) = says_hashes peer.version
waits_for_hash turn = false

-- a HASH is of no type where none is waited for
abbrev pub hash_came : ReplicaValue → Awaited → List ℕ → Result Said Stop
hash_came kept turn body =
    if waits_for_hash turn then read_then (hash_in body) (hash_judged kept turn) else Err (Refused Bad)

-- the asker, then the certificate against the own digest
abbrev pub delta_judged : ReplicaValue → Peer → AnswerValue → Result Said Stop
delta_judged kept peer a =
    if a.asker == kept.own
    then (if passes (digest_of kept.state) a.state a.certificate
    then Ok (Receives a.state peer.roster (told_mark peer.version kept.state a.state))
    else Err (Refused BadCertificate))
    else Err (Refused WrongAsker)

abbrev pub delta_came : ReplicaValue → Peer → List ℕ → Result Said Stop
delta_came kept peer body =
    read_then (answer_in (delta_format peer.version) (replicas_of kept peer.roster) body) (delta_judged kept peer)

-- a body comes: a BYE at any time, another message where it is waited for
abbrev pub body_came : ReplicaValue → MessageKind → Awaited → List ℕ → Result Said Stop
body_came kept kinds.Bye turn body = bye_came turn body
body_came kept kinds.Hello (ForHello side) body = hello_came side kept body
body_came kept kinds.Hash turn body = hash_came kept turn body
body_came kept kinds.Digest (ForDigest peer) body = digest_came kept peer body
body_came kept kinds.Digest (ForWhole peer) body = whole_came kept peer body
body_came kept kinds.Delta (ForDelta peer digest) body = delta_came kept peer body
body_came kept kind turn body = Err (Refused OutOfTurn)

-- a message of no type is refused
abbrev pub kind_came : ReplicaValue → Awaited → Option MessageKind → List ℕ → Result Said Stop
kind_came kept turn None body = Err (Refused Bad)
kind_came kept turn (Some kind) body = body_came kept kind turn body

-- what a whole message is taken as, or why it ends the session
unfoldable pub verdict : ReplicaValue → Awaited → List ℕ → Result Said Stop
verdict kept turn [] = Err (Refused Cut)
verdict kept turn (n ∷ body) = kind_came kept turn (kind_of n) body

-- ---- what follows from it

-- the message that is waited for then
abbrev pub awaited_after : Awaited → Said → Awaited
awaited_after turn (Greets peer) = ForDigest peer
awaited_after turn (Learns peer digest) = ForDelta peer digest
awaited_after turn (Shares peer digest) = ForDelta peer digest
awaited_after turn (Misses peer) = ForWhole peer
awaited_after turn (Receives delta roster mark) = ForBye mark
awaited_after turn Finishes = turn
awaited_after turn Forks = turn

-- who speaks, what is kept here, by a hash or whole, and what the digest lacks of that
abbrev pub answers_digest : Bool → ReplicaValue → Peer → DigestValue → List (List ℕ)
answers_digest hashed kept peer digest =
    hello_message kept peer.version ∷ digest_said hashed peer.version kept
    ∷ delta_message kept (delta_format peer.version) peer.number digest ∷ []

-- the messages that answer it, in the peer's version
abbrev pub replies_of : Side → ReplicaValue → Awaited → Said → List (List ℕ)
replies_of Server kept (ForDigest asked) (Learns peer digest) = answers_digest false kept peer digest
replies_of Server kept (ForDigest asked) (Shares peer digest) = answers_digest true kept peer digest
replies_of Server kept (ForDigest asked) (Misses peer) = hello_message kept peer.version ∷ digest_message peer.version kept ∷ []
replies_of Server kept (ForWhole asked) (Learns peer digest) =
    delta_message kept (delta_format peer.version) peer.number digest ∷ []
replies_of (Client version) kept (ForDigest asked) (Learns peer digest) =
    if says_hashes peer.version then behind_message peer.version kept digest ∷ [] else []
replies_of (Client version) kept (ForDigest asked) (Misses peer) = digest_message peer.version kept ∷ []
replies_of (Client version) kept (ForDelta peer digest) (Receives delta roster mark) =
    delta_message kept (delta_format peer.version) peer.number digest ∷ done_message mark ∷ []
replies_of Server kept (ForBye mark) Finishes = done_message mark ∷ []
replies_of Server kept (ForBye mark) Forks = done_message mark ∷ []
replies_of _ _ _ _ = []

-- ---- what the code answers

-- what a call answered is what is wanted, unless memory ran out
abbrev pub StopsAs : Stop → Result Said Stop → Type 0
StopsAs (Refused Memory) wanted = Unit {0}
StopsAs e wanted = wanted ≡ Err e

-- it isn't that a call of the system failed
abbrev pub StopsByNoDevice : Stop → Type 0
StopsByNoDevice (Refused Device) = ⊥
StopsByNoDevice (Left Device) = ⊥
StopsByNoDevice e = Unit {0}

abbrev pub Judges : {S : Type 0} → Result (Act S) Stop → Result Said Stop → Type 0
Judges (Ok act) wanted = wanted ≡ Ok (saying_of act)
Judges (Err e) wanted = StopsAs e wanted
