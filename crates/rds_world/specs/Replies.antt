-- What the bytes of an answer hold, and why an answer isn't taken.
use Rattle.std.specs.Prelude.{◌≡◌, ℕ, List, Some, Ok, Err, length, slice_get}
use Rattle.rds_names.specs.declared.fault.Fault.{Fault}
use Rattle.rds_names.specs.declared.fault.Fault.TheVariants.{Memory, TooLong, BadCertificate}
use Rattle.rds_state.specs.Ahead.{TakeGives}
use Rattle.rds_state.specs.Coordinates.{join}
use Rattle.rds_state.specs.Fits.{Fits}
use Rattle.rds_state.specs.Value.{StateValue, coordinates}
use Rattle.rds_delta.specs.Digested.{DigestValue}
use Rattle.rds_codec.specs.AnswerTexts.{answer_kind}
use Rattle.rds_codec.specs.AnswerValues.{AnswerValue}
use Rattle.rds_codec.specs.CertificateTexts.{IsReplicaOf}
use Rattle.rds_codec.specs.Decoding.{Decodes}
use Rattle.rds_codec.specs.DigestTexts.{digest_kind}
use Rattle.rds_codec.specs.Exchanged.{IsCertified, IsLongAnswer, IsReplyTo, IsUncertified}
use Rattle.rds_world.specs.Stored.{AskText, AnswerText, WorldValue}

-- the digest in the bytes was read, and the answer made
pub record IsReply (n : ℕ) (ask : List ℕ) (asker : ℕ) (held : StateValue) (bytes : List ℕ) (components : ℕ) : Type 0 where
  pub replica : IsReplicaOf n asker
  pub fits : Fits n (coordinates held)
  pub digest : DigestValue
  pub read : Decodes (digest_kind n) ask (Ok digest)
  pub reply : IsReplyTo digest asker held bytes components

-- why there is no answer: memory ran out, the digest wasn't read, or the text is too long
pub data HasNoReply (n : ℕ) (ask : List ℕ) (asker : ℕ) (held : StateValue) (fault : Fault) : Type 0 where
  Lacks : fault ≡ Memory → HasNoReply n ask asker held fault
  Unread : Decodes (digest_kind n) ask (Err fault) → HasNoReply n ask asker held fault
  TooBig : (digest : DigestValue) → Decodes (digest_kind n) ask (Ok digest) → fault ≡ TooLong → IsLongAnswer digest asker held → HasNoReply n ask asker held fault

-- the digest and the answer to it were read, the certificate was the right one, and the delta is joined
pub record TakesReply (n : ℕ) (ask bytes : List ℕ) (old new : StateValue) : Type 0 where
  pub digest : DigestValue
  pub asked : Decodes (digest_kind n) ask (Ok digest)
  pub answer : AnswerValue
  pub read : Decodes (answer_kind n) bytes (Ok answer)
  pub certified : IsCertified digest answer
  pub joined : coordinates new ≡ join (coordinates old) (coordinates answer.state)

-- why an answer isn't taken
pub data IsNotTaken (n : ℕ) (ask bytes : List ℕ) (own : ℕ) (old : StateValue) (fault : Fault) : Type 0 where
  NoDigest : Decodes (digest_kind n) ask (Err fault) → IsNotTaken n ask bytes own old fault
  NoAnswer : Decodes (answer_kind n) bytes (Err fault) → IsNotTaken n ask bytes own old fault
  Uncertified : (digest : DigestValue) (a : AnswerValue) → Decodes (digest_kind n) ask (Ok digest) → Decodes (answer_kind n) bytes (Ok a) → fault ≡ BadCertificate → IsUncertified digest a → IsNotTaken n ask bytes own old fault
  NoCopy : fault ≡ Memory → IsNotTaken n ask bytes own old fault
  Untaken : (a : AnswerValue) → Decodes (answer_kind n) bytes (Ok a) → TakeGives {T = Unit {0}} old own a.state (Err fault) → IsNotTaken n ask bytes own old fault

-- ---- certificates

-- The ask of an answer is there. It is read again, if there is memory, and so is the answer. What is read passes the check: all of the delta is above the digest, and the rows are its certificate.
pub record PassesTheCheck (n : ℕ) (asks : List AskText) (a : AnswerText) : Type 0 where
  pub ask : AskText
  pub there : slice_get asks a.question ≡ Some ask
  pub asked : (f : Fault) → Decodes (digest_kind n) ask.bytes (Err f) → f ≡ Memory
  pub read : (f : Fault) → Decodes (answer_kind n) a.bytes (Err f) → f ≡ Memory
  pub certified : (digest : DigestValue) (answer : AnswerValue) → Decodes (digest_kind n) ask.bytes (Ok digest) → Decodes (answer_kind n) a.bytes (Ok answer) → IsCertified digest answer

-- the certificate of each answer is accepted against its ask
abbrev pub EachAnswerIsCertified : WorldValue → Type 0
EachAnswerIsCertified v = (k : ℕ) (a : AnswerText) → slice_get v.answers k ≡ Some a → PassesTheCheck (length v.roster.names) v.asks a
