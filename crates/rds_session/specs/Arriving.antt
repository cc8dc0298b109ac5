-- What has come of a message, and where the next byte stands.
use Rattle.std.specs.Prelude.{ℕ, ◌<◌, ◌≤◌, List, length}
use Rattle.rds_session.specs.declared.chunks.TheConstants.{MESSAGE_LIMIT}
use Rattle.rds_session.specs.declared.chunks.Place.{Place}
use Rattle.rds_session.specs.declared.chunks.Place.TheVariants as place
use Rattle.rds_session.specs.declared.content.Expected.{Expected}
use Rattle.rds_session.specs.Chunks.{Under}

-- within a chunk some of its bytes are still to come
abbrev pub IsPlace : Place → Type 0
IsPlace (place.Within left) = 0 < left
IsPlace _ = Unit {0}

abbrev pub IsHeld : List ℕ → Type 0
IsHeld held = length held ≤ MESSAGE_LIMIT

-- the message that is waited for, and what has come in its place
pub record Reading : Type 0 where
  pub expected : Expected
  pub under : Under
