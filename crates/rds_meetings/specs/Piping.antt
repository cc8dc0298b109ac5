-- A session of the replica in a file over a reader and a writer.
use Rattle.std.specs.Prelude.{◌≡◌, ◌⊎◌, ℕ, List, Option}
use Rattle.rds_session.specs.declared.talk.Side.{Side}
use Rattle.rds_session.specs.declared.step.Ended.{Ended}
use Rattle.rds_files.specs.Files.{FileValue, IsReadAt}
use Rattle.rds_meetings.specs.Reports.{tells_fault, told_status}
use Rattle.rds_meetings.specs.Syncing.{IsSession}
use Rattle.rds_meetings.specs.declared.settling.Settled.{Settled}

-- the file gave no replica: nothing is read and nothing written, and the status is 1
pub record PipesNone (first now before after : Option (List ℕ)) (status : ℕ) : Type 0 where
  pub unheard : now ≡ first
  pub unsaid : after ≡ before
  pub told : status ≡ 1

-- one session of the replica that was read at this path, over a reader that held this at first and holds this now, and
-- a writer; the status is 1 where a fault came between
pub record PipesSession (side : Side) (path : List ℕ) (first now before after : Option (List ℕ)) (status : ℕ) : Type 0 where
  pub file : FileValue
  pub read : IsReadAt path file
  pub settled : Settled
  pub ended : Ended
  pub session : IsSession side first now before after file settled ended
  pub told : status ≡ told_status (tells_fault settled ended)

-- no session, or one
abbrev pub Pipes : Side → List ℕ → Option (List ℕ) → Option (List ℕ) → Option (List ℕ) → Option (List ℕ) → ℕ → Type 0
Pipes side path first now before after status =
    PipesNone first now before after status ⊎ PipesSession side path first now before after status
