-- What has come of a message, and what its bytes so far say of it.
use Rattle.std.specs.Prelude.{◌≡◌, ℕ, Bool, true, false, ◌&&◌, List, [], ◌∷◌, ◌++◌, Option, Some, None, Err}
use Rattle.rds_session.specs.declared.content.Expected.{Expected}
use Rattle.rds_session.specs.declared.content.Expected.TheVariants as expecteds
use Rattle.rds_session.specs.declared.kinds.ByeCode.TheVariants as byes
use Rattle.rds_session.specs.declared.kinds.MessageKind.TheVariants as kinds
use Rattle.rds_session.specs.declared.message.Body.{Body}
use Rattle.rds_session.specs.declared.message.Body.TheVariants as bodies
use Rattle.rds_session.specs.declared.talk.Side.{Side}
use Rattle.rds_session.specs.declared.version.Version.{Version}
use Rattle.rds_session.specs.Contents.{expects_hash, expects_mark, message_read}
use Rattle.rds_session.specs.Judging.{is_done, version_with}
use Rattle.rds_session.specs.Messages.{bye_of, type_byte}
use Rattle.rds_session.specs.Versions.{as_hello, says_briefs}

-- the message that is waited for, and the bytes that came in its place
pub record MessageValue : Type 0 where
  pub expected : Expected
  pub came : List ℕ

abbrev pub HoldsBody : {S : Type 0} → Expected → Body S → List ℕ → Type 0
HoldsBody expected (bodies.Greeting side) came = (expected ≡ expecteds.Hello side) × (came ≡ type_byte kinds.Hello ∷ [])
HoldsBody expected (bodies.Hello version text) came =
    (side : Side) × (expected ≡ expecteds.Hello side)
    × (byte : ℕ) × (rest : List ℕ) × (came ≡ type_byte kinds.Hello ∷ byte ∷ rest)
    × (version_with side byte ≡ Some version) × (text.came ≡ as_hello version rest)
HoldsBody expected (bodies.Digest text) came =
    (version : Version) × (hashed : Bool) × (expected ≡ expecteds.Digest version text.replicas hashed)
    × (says_briefs version ≡ false) × (came ≡ type_byte kinds.Digest ∷ text.came)
HoldsBody expected (bodies.Brief replicas bytes) came =
    (version : Version) × (hashed : Bool) × (expected ≡ expecteds.Digest version replicas hashed)
    × (says_briefs version ≡ true) × (came ≡ type_byte kinds.Digest ∷ bytes.items)
HoldsBody expected (bodies.Hash bytes) came = (expects_hash expected ≡ true) × (came ≡ type_byte kinds.Hash ∷ bytes.items)
HoldsBody expected (bodies.Delta text) came =
    (expected ≡ expecteds.Delta text.format text.replicas) × (came ≡ type_byte kinds.Delta ∷ text.came)
HoldsBody expected (bodies.Parting marked) came = (expects_mark expected ≡ marked) × (came ≡ type_byte kinds.Bye ∷ [])
HoldsBody expected (bodies.Bye code) came =
    (b : ℕ) × (came ≡ type_byte kinds.Bye ∷ b ∷ []) × (bye_of b ≡ Some code)
    × (expects_mark expected && is_done code ≡ false)
HoldsBody expected (bodies.Mark bytes) came =
    (b : ℕ) × (came ≡ type_byte kinds.Bye ∷ b ∷ bytes.items) × (bye_of b ≡ Some byes.Done)
    × (expects_mark expected ≡ true)
HoldsBody expected (bodies.Refused e) came = (more : List ℕ) → message_read expected (came ++ more) ≡ Err e

-- no byte came, or the body is of those that came
abbrev pub HoldsBegun : {S : Type 0} → Expected → Option (Body S) → List ℕ → Type 0
HoldsBegun expected None came = came ≡ []
HoldsBegun expected (Some body) came = HoldsBody expected body came
