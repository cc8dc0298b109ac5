-- Two sessions that hear each other.
use Rattle.std.specs.Prelude.{◌≡◌, ◌≢◌, ℕ, ◌≤◌, ◌⊎◌, Bool, true, ◌&&◌, List, [], ◌∷◌, ◌++◌, length, Option, Some, None, if◌then◌else◌}
use Rattle.std.specs.List.{flat_map}
use Rattle.std.specs.Str.{bytes_eq}
use Rattle.rds_state.specs.Fits.{ReplicaValue}
use Rattle.rds_names.specs.Roster.{OneBegins}
use Rattle.rds_names.specs.declared.fault.Fault.TheVariants.{Forked}
use Rattle.rds_state.specs.Coordinates.{join}
use Rattle.rds_state.specs.Mark.{mark_of}
use Rattle.rds_state.specs.Value.{StateValue, coordinates}
use Rattle.rds_state.specs.declared.mark.Mark.{Mark}
use Rattle.rds_delta.specs.Digested.{digest_of}
use Rattle.rds_delta.specs.Least.{least}
use Rattle.rds_delta.specs.Ranks.{ranks}
use Rattle.rds_life.specs.Life.{LivesAreCompatible}
use Rattle.rds_codec.specs.DigestTexts.{digest_text}
use Rattle.rds_codec.specs.StateTexts.{IsSnapshot}
use Rattle.rds_session.specs.declared.chunks.TheConstants.{MESSAGE_LIMIT}
use Rattle.rds_session.specs.declared.talk.Side.{Side}
use Rattle.rds_session.specs.declared.talk.Side.TheVariants.{Client, Server}
use Rattle.rds_session.specs.declared.step.Ended.{Ended}
use Rattle.rds_session.specs.declared.step.Ended.TheVariants.{Done, Failed}
use Rattle.rds_session.specs.declared.version.Version.{Version}
use Rattle.rds_answers.specs.Checked.{least_state}
use Rattle.rds_session.specs.Chunks.{message_in_chunks}
use Rattle.rds_answers.specs.Hashes.{Collide, digest_hash}
use Rattle.rds_session.specs.Judging.{longer_than}
use Rattle.rds_session.specs.Marked.{told_mark, with_delta}
use Rattle.rds_session.specs.Messages.{hello_message, behind_message, digest_message, digest_said, delta_message, done_message}
use Rattle.rds_session.specs.Received.{Delivery}
use Rattle.rds_session.specs.Session.{So_far, All_of, course}
use Rattle.rds_session.specs.Stream.{Splits}
use Rattle.rds_session.specs.Versions.{delta_format, says_hashes, tells_marks}

abbrev pub IsBeginningOf : List ℕ → List ℕ → Type 0
IsBeginningOf x y = (rest : List ℕ) × (y ≡ x ++ rest)

-- what one tells the other, in a version, is within the limit: also its digest as it says it first, and behind the
-- other's
pub record FitsMessages (version : Version) (from to : ReplicaValue) : Type 0 where
  pub hello : length (hello_message from version) ≤ MESSAGE_LIMIT
  pub first : length (digest_said (says_hashes version) version from) ≤ MESSAGE_LIMIT
  pub digest : length (digest_message version from) ≤ MESSAGE_LIMIT
  pub behind : length (behind_message version from (digest_of to.state)) ≤ MESSAGE_LIMIT
  pub delta : length (delta_message from (delta_format version) to.own (digest_of to.state)) ≤ MESSAGE_LIMIT

-- two replicas, of rosters one of which begins the other, with different own numbers, each of which has a text; they
-- speak in a version
pub record CanMeet (version : Version) (a b : ReplicaValue) : Type 0 where
  pub roster : OneBegins a.roster b.roster
  pub others : a.own ≢ b.own
  pub a_text : IsSnapshot a
  pub b_text : IsSnapshot b
  pub a_room : FitsMessages version a b
  pub b_room : FitsMessages version b a

-- a delta that is the least of what the peer kept against what was kept here, and the peer's roster exactly where that
-- has more names
pub record IsItsLeast (peer own : ReplicaValue) (received : Option Delivery) : Type 0 where
  pub delta : StateValue
  pub is_received : received ≡ Some (delta, longer_than own.roster peer.roster)
  pub is_least : coordinates delta ≡ least (coordinates peer.state) (ranks (coordinates own.state))

-- nothing, or exactly that
abbrev pub IsItsDelta : ReplicaValue → ReplicaValue → Option Delivery → Type 0
IsItsDelta peer own received = (received ≡ None) ⊎ IsItsLeast peer own received

-- the client hears x and the server y, each a prefix of what the other sent
pub record Hear (version : Version) (a b : ReplicaValue) (x y : List ℕ) : Type 0 where
  pub client : IsBeginningOf x (course Server b (So_far y)).1
  pub server : IsBeginningOf y (course (Client version) a (So_far x)).1

-- the version says digests by hashes, and those of two different ones are one: two texts with one SHA-256 are in hand
pub record CollideIn (version : Version) (a b : ReplicaValue) : Type 0 where
  pub hashes : says_hashes version ≡ true
  pub collide : Collide (digest_text (digest_of a.state)) (digest_text (digest_of b.state))

-- each has received nothing, or what the other has and it lacks, and the longer roster
pub record HaveReceived (version : Version) (a b : ReplicaValue) (x y : List ℕ) : Type 0 where
  pub client : IsItsDelta b a (course (Client version) a (So_far x)).0.received
  pub server : IsItsDelta a b (course Server b (So_far y)).0.received

abbrev pub ReceiveDeltas : Type 0
ReceiveDeltas = (version : Version) (a b : ReplicaValue) (x y : List ℕ) → CanMeet version a b → Hear version a b x y
    → HaveReceived version a b x y ⊎ CollideIn version a b

-- all that each sent, the other heard
pub record HearAll (version : Version) (a b : ReplicaValue) (x y : List ℕ) : Type 0 where
  pub client : x ≡ (course Server b (So_far y)).1
  pub server : y ≡ (course (Client version) a (So_far x)).1

-- both have ended so, and each has received what the other has and it lacks, and the longer roster
pub record HaveEnded (version : Version) (a b : ReplicaValue) (x y : List ℕ) (ended : Ended) : Type 0 where
  pub client : (course (Client version) a (So_far x)).0.ended ≡ ended
  pub client_has : IsItsLeast b a (course (Client version) a (So_far x)).0.received
  pub server : (course Server b (So_far y)).0.ended ≡ ended
  pub server_has : IsItsLeast a b (course Server b (So_far y)).0.received

-- what is held here at the end: what was kept, with what the peer has and it lacks
abbrev pub held_with : ReplicaValue → ReplicaValue → StateValue
held_with own peer = with_delta own.state (least_state peer.state (digest_of own.state))

-- the mark of that, where the version tells one
abbrev pub last_mark : Version → ReplicaValue → ReplicaValue → Option Mark
last_mark version own peer = told_mark version own.state (least_state peer.state (digest_of own.state))

-- where marks are told, no dot is live in both with different entries
abbrev pub AgreeWhereTold : Version → ReplicaValue → ReplicaValue → Type 0
AgreeWhereTold version a b = tells_marks version ≡ true → LivesAreCompatible a.state.lives b.state.lives

abbrev pub BothEnd : Type 0
BothEnd = (version : Version) (a b : ReplicaValue) (x y : List ℕ) → CanMeet version a b → AgreeWhereTold version a b
    → HearAll version a b x y → HaveEnded version a b x y Done ⊎ CollideIn version a b

-- where marks are told and what is held differs in them, both tell that
abbrev pub BothTellForks : Type 0
BothTellForks = (version : Version) (a b : ReplicaValue) (x y : List ℕ) → CanMeet version a b
    → tells_marks version ≡ true → mark_of (held_with a b) ≢ mark_of (held_with b a)
    → HearAll version a b x y → HaveEnded version a b x y (Failed Forked) ⊎ CollideIn version a b

-- what is held is the join
abbrev pub HoldJoins : Type 0
HoldJoins = (own peer : ReplicaValue)
    → coordinates (held_with own peer) ≡ join (coordinates own.state) (coordinates (least_state peer.state (digest_of own.state)))

-- ---- a client of any version

-- whether two replicas say their digests by hashes alone: the version has them, and theirs are one
abbrev pub share_digest : Version → ReplicaValue → ReplicaValue → Bool
share_digest version from to = says_hashes version && bytes_eq (digest_hash (digest_of from.state)) (digest_hash (digest_of to.state))

-- what a replica says to another in a whole session in a version, with what it says of its digest
abbrev pub words_with : List (List ℕ) → Version → ReplicaValue → ReplicaValue → List (List ℕ)
words_with said version from to =
    hello_message from version
    ∷ (said ++ (delta_message from (delta_format version) to.own (digest_of to.state) ∷ done_message (last_mark version from to) ∷ []))

-- a client says it by a hash, where the version has them, and whole where there are none or behind another one of the
-- server's
abbrev pub client_words : Version → ReplicaValue → ReplicaValue → List (List ℕ)
client_words version from to =
    let first = digest_said (says_hashes version) version from in
    let whole = if says_hashes version then (if share_digest version from to then [] else behind_message version from (digest_of to.state) ∷ []) else [] in
    words_with (first ∷ whole) version from to

-- a server says it by a hash where it is the client's, and whole else
abbrev pub server_words : Version → ReplicaValue → ReplicaValue → List (List ℕ)
server_words version from to = words_with (digest_said (share_digest version from to) version from ∷ []) version from to

-- the server has said its words in the version, is done, and has received what the client has and it lacks
pub record IsServed (version : Version) (a b : ReplicaValue) (x : List ℕ) : Type 0 where
  pub said : (course Server b (So_far x)).1 ≡ flat_map message_in_chunks (server_words version b a)
  pub server : (course Server b (So_far x)).0.ended ≡ Done
  pub server_has : IsItsLeast a b (course Server b (So_far x)).0.received

-- a server speaks in the version that its client speaks, however the client's messages were cut
abbrev pub ServesEach : Type 0
ServesEach = (version : Version) (a b : ReplicaValue) (x : List ℕ) → CanMeet version a b → AgreeWhereTold version a b
    → Splits x (client_words version a b) [] → IsServed version a b x ⊎ CollideIn version a b

-- the end of a stream takes nothing from what was received
abbrev pub KeepsAtEnd : Type 0
KeepsAtEnd = (side : Side) (kept : ReplicaValue) (x : List ℕ) → (course side kept (All_of x)).0.received ≡ (course side kept (So_far x)).0.received
