-- What the code scanned.
use Rattle.std.specs.Prelude.{◌≡◌, ◌≤◌, length}
use Rattle.rds_session.specs.declared.chunks.TheConstants.{MESSAGE_LIMIT}
use Rattle.rds_session.specs.declared.chunks.Scanned.{Scanned}
use Rattle.rds_session.specs.declared.chunks.Scanned.TheVariants as code
use Rattle.rds_session.specs.declared.content.Expected.{Expected}
use Rattle.rds_session.specs.Chunks.{Scan, More, Whole, Long}

abbrev pub IsScan : {S : Type 0} → Expected → Scan → Scanned S → Type 0
IsScan expected wanted (code.More chunks) = (wanted ≡ More chunks.under) × (chunks.expected ≡ expected)
IsScan expected wanted (code.Whole message rest) = (wanted ≡ Whole message.came rest.now) × (message.expected ≡ expected)
IsScan expected wanted code.Long = wanted ≡ Long

-- a whole message is within the limit
abbrev pub MessageIsWithin : {S : Type 0} → Scanned S → Type 0
MessageIsWithin (code.Whole message rest) = length message.came ≤ MESSAGE_LIMIT
MessageIsWithin _ = Unit {0}
