-- What goes from one replica to another, when it is too long, and what is taken of it.
use Rattle.std.specs.Prelude.{◌≡◌, ◌<◌, ◌≤◌, ◌⊎◌, ℕ, List, length, max, Result, Err}
use Rattle.rds_names.specs.declared.fault.Fault.{Fault}
use Rattle.rds_names.specs.declared.fault.Fault.TheVariants.{Memory, TooLong, BadCertificate}
use Rattle.rds_names.specs.Roster.{Begins, OneBegins}
use Rattle.rds_life.specs.Life.{seen_of}
use Rattle.rds_state.specs.Coordinates.{AtMost}
use Rattle.rds_state.specs.Fits.{Fits, ReplicaValue}
use Rattle.rds_state.specs.Friends.{AreFriends}
use Rattle.rds_state.specs.Grown.{TakeWithGives}
use Rattle.rds_state.specs.Value.{StateValue, coordinates, size}
use Rattle.rds_delta.specs.Claims.{IsCertificate}
use Rattle.rds_delta.specs.Digested.{DigestValue, digest_of, ranks_in}
use Rattle.rds_delta.specs.Least.{IsAbove, least}
use Rattle.rds_codec.specs.AnswerTexts.{IsAnswerOf, answer_text}
use Rattle.rds_codec.specs.AnswerValues.{AnswerValue}
use Rattle.rds_codec.specs.Decoding.{IsTextOf}
use Rattle.rds_codec.specs.DigestTexts.{IsDigestOf, digest_text, digest_kind}
use Rattle.rds_codec.specs.FormatTexts.{answer_text_in}
use Rattle.rds_codec.specs.declared.formats.Format.{Format}
use Rattle.rds_codec.specs.declared.formats.Format.TheVariants.{Two}
use Rattle.rds_bytes.specs.Values.{AreDotsOf}
use Rattle.rds_codec.specs.declared.limits.TheConstants.{LIMIT}

-- it answers a digest for the one that asked: the least delta of a state, and its certificate
pub record IsAnswerTo (digest : DigestValue) (asker : ℕ) (held : StateValue) (a : AnswerValue) : Type 0 where
  pub asked : a.asker ≡ asker
  pub delta : coordinates a.state ≡ least (coordinates held) (ranks_in digest)
  pub certificate : IsCertificate (ranks_in digest) a.state a.certificate

-- The bytes are the text of the state's digest, which is read again.
pub record IsAskOf (asked : StateValue) (bytes : List ℕ) : Type 0 where
  pub text : bytes ≡ digest_text (digest_of asked)
  pub within : length bytes ≤ LIMIT
  pub dots : (replicas : ℕ) → Fits replicas (coordinates asked) → AreDotsOf replicas (seen_of asked.lives)
  pub again : (replicas : ℕ) → Fits replicas (coordinates asked) → IsDigestOf replicas (digest_of asked)

-- The bytes are the text of the answer in a format, of so many components, which is read again.
pub record IsReplyIn (format : Format) (digest : DigestValue) (asker : ℕ) (held : StateValue) (bytes : List ℕ)
    (components : ℕ) : Type 0 where
  pub value : AnswerValue
  pub answers : IsAnswerTo digest asker held value
  pub text : bytes ≡ answer_text_in format value
  pub within : length bytes ≤ LIMIT
  pub sized : components ≡ size value.state
  pub dots : (replicas : ℕ) → Fits replicas (coordinates held) → AreDotsOf replicas (seen_of value.state.lives)
  pub again : (replicas : ℕ) → asker < replicas → Fits replicas (coordinates held) → IsAnswerOf replicas value

-- in the format that is written
abbrev pub IsReplyTo : DigestValue → ℕ → StateValue → List ℕ → ℕ → Type 0
IsReplyTo = IsReplyIn Two

abbrev pub IsLongDigest : StateValue → Type 0
IsLongDigest asked = LIMIT < length (digest_text (digest_of asked))

-- the text of the answer in a format is above the limit
pub record IsLongAnswerIn (format : Format) (digest : DigestValue) (asker : ℕ) (held : StateValue) : Type 0 where
  pub value : AnswerValue
  pub answers : IsAnswerTo digest asker held value
  pub long : LIMIT < length (answer_text_in format value)

-- in the format that is written
abbrev pub IsLongAnswer : DigestValue → ℕ → StateValue → Type 0
IsLongAnswer = IsLongAnswerIn Two

-- the delta is above the digest, and the certificate is that of the delta against it
abbrev pub IsCertified : DigestValue → AnswerValue → Type 0
IsCertified digest a =
    IsAbove (coordinates a.state) (ranks_in digest) × IsCertificate (ranks_in digest) a.state a.certificate

-- the certificate is not the right one
pub record IsUncertified (digest : DigestValue) (a : AnswerValue) : Type 0 where
  pub wrong : IsCertified digest a → ⊥

-- It is refused as BadCertificate exactly where its certificate is not the right one. Any other is given what its take
-- gives.
pub data TakesCertified (digest : DigestValue) (a : AnswerValue) (Gives : Result (Unit {0}) Fault → Type 0)
    (result : Result (Unit {0}) Fault) : Type 0 where
  Certified : IsCertified digest a → Gives result → TakesCertified digest a Gives result
  Uncertified : IsUncertified digest a → result ≡ Err BadCertificate → TakesCertified digest a Gives result

-- It passes the check against what the text of the asked one's digest brings.
pub record PassesCheck (replicas : ℕ) (asked : StateValue) (a : AnswerValue) : Type 0 where
  pub digest : DigestValue
  pub brought : IsTextOf (digest_kind replicas) (digest_text (digest_of asked)) digest
  pub certified : IsCertified digest a

-- the length of the longer of their rosters
abbrev pub replicas_of_both : ReplicaValue → ReplicaValue → ℕ
replicas_of_both answerer asker = max (length asker.roster.names) (length answerer.roster.names)

-- Two friends, one of whose rosters begins the other, and what one of them was when it asked.
pub record CanExchange (answerer asked asker : ReplicaValue) : Type 0 where
  pub meet : OneBegins asker.roster answerer.roster
  pub asked_roster : Begins asked.roster asker.roster
  pub friends : AreFriends answerer.own (coordinates answerer.state) asker.own (coordinates asker.state)
  pub grown : AtMost (coordinates asked.state) (coordinates asker.state)

-- What was asked fits the longer of the two rosters. What answers does so anyway.
abbrev pub CanRead : ReplicaValue → ReplicaValue → ReplicaValue → Type 0
CanRead answerer asked asker = Fits (replicas_of_both answerer asker) (coordinates asked.state)

-- why a text didn't come: memory ran out, or it is too long
abbrev pub IsLost : Type 0 → Fault → Type 0
IsLost IsLong fault = (fault ≡ Memory) ⊎ ((fault ≡ TooLong) × IsLong)

-- neither the ask nor the answer is too long
abbrev pub IsWithin : StateValue → AnswerValue → Type 0
IsWithin asked a = (length (digest_text (digest_of asked)) ≤ LIMIT) × (length (answer_text a) ≤ LIMIT)

-- what was answered is for the one that asked, within the limit, and passes its check; and their rosters meet
pub record IsPulled (answerer asked asker : ReplicaValue) (a : AnswerValue) : Type 0 where
  pub meet : OneBegins asker.roster answerer.roster
  pub own : a.asker ≡ asker.own
  pub within : IsWithin asked.state a
  pub checked : PassesCheck (replicas_of_both answerer asker) asked.state a

-- the ask or the answer is too long
abbrev pub IsLongExchange : ReplicaValue → ReplicaValue → ReplicaValue → Type 0
IsLongExchange answerer asked asker =
    IsLongDigest asked.state ⊎ IsLongAnswer (digest_of asked.state) asker.own answerer.state

-- why nothing was exchanged: a text didn't come, or the delta of the answer to this ask isn't taken
pub data IsRefusal (answerer asked asker : ReplicaValue) (fault : Fault) : Type 0 where
  Lost : IsLost (IsLongExchange answerer asked asker) fault → IsRefusal answerer asked asker fault
  Untaken : (a : AnswerValue) → IsAnswerTo (digest_of asked.state) asker.own answerer.state a
      → TakeWithGives {T = Unit {0}} asker.roster answerer.roster asker.state asker.own a.state (Err fault)
      → IsRefusal answerer asked asker fault
