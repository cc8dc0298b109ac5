-- What a session holds of a message that is under way.
use Rattle.std.specs.Prelude.{◌≡◌, Option, Some, None, IfSome}
use Rattle.rds_state.specs.Fits.{ReplicaValue}
use Rattle.rds_session.specs.Chunks.{Under, start_of_chunks}
use Rattle.rds_session.specs.Contents.{expected_of}
use Rattle.rds_session.specs.Judging.{Awaited}
use Rattle.rds_session.specs.Arriving.{Reading}

-- where nothing is held, no message is under way
abbrev pub under_of : Option Reading → Under
under_of None = start_of_chunks
under_of (Some reading) = reading.under

-- it is read as the one that is waited for
abbrev pub IsExpecting : ReplicaValue → Awaited → Option Reading → Type 0
IsExpecting kept turn reading = IfSome reading (λ r. r.expected ≡ expected_of kept turn)
