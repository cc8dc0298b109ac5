-- The hash by which a replica says its digest.
use Rattle.std.specs.Prelude.{◌≡◌, ◌≢◌, ℕ, nat_lt, List, length, Result, Ok, Err, if◌then◌else◌}
use Rattle.sha2.specs.Sha256.{sha256}
use Rattle.rds_codec.specs.DigestTexts.{digest_text}
use Rattle.rds_delta.specs.Digested.{DigestValue}
use Rattle.rds_names.specs.declared.fault.Fault.{Fault}
use Rattle.rds_names.specs.declared.fault.Fault.TheVariants.{Cut, Extra}

-- the SHA-256 of its text
abbrev pub digest_hash : DigestValue → List ℕ
digest_hash g = sha256 (digest_text g)

-- 32 bytes are a hash, and no others are
abbrev pub hash_in : List ℕ → Result (List ℕ) Fault
hash_in bytes = if nat_lt (length bytes) 32 then Err Cut else (if nat_lt 32 (length bytes) then Err Extra else Ok bytes)

-- two different texts with one SHA-256
pub record Collide (one other : List ℕ) : Type 0 where
  pub differ : one ≢ other
  pub same : sha256 one ≡ sha256 other
