-- What decoding a snapshot answers, whichever format it is in.
use Rattle.std.specs.Prelude.{◌≡◌, ℕ, List, Result, Ok, Err}
use Rattle.rds_names.specs.declared.fault.Fault.{Fault}
use Rattle.rds_state.specs.Fits.{ReplicaValue}
use Rattle.rds_codec.specs.Decoding.{Decodes, ReadsAll}
use Rattle.rds_codec.specs.FormatTexts.{Snapshot, snapshot_in_at, snapshot_kind_in}

-- the replica that was read, without its format
abbrev pub replica_in : Result Snapshot Fault → Result ReplicaValue Fault
replica_in (Ok s) = Ok s.1
replica_in (Err e) = Err e

-- the bytes are decoded as a snapshot in one of the formats, and its replica is reported
abbrev pub DecodesSnapshot : List ℕ → Result ReplicaValue Fault → Type 0
DecodesSnapshot bytes result =
    (read : Result Snapshot Fault) × Decodes snapshot_kind_in bytes read × ReadsAll snapshot_in_at bytes read
    × (result ≡ replica_in read)
