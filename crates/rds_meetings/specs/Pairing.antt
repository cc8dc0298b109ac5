-- What becomes of the replicas in two files that have a session, and what is reported of them.
use Rattle.std.specs.Prelude.{◌≡◌, ◌⊎◌, ◌↔◌, ℕ, Bool, IsTrue, ◌||◌, List, ◌++◌, Option}
use Rattle.std.specs.Io.KnownBytes.{Appends}
use Rattle.rds_state.specs.Fits.{ReplicaValue}
use Rattle.rds_session.specs.declared.step.Ended.{Ended}
use Rattle.rds_session.specs.declared.talk.Side.{Side}
use Rattle.rds_session.specs.declared.talk.Side.TheVariants.{Client, Server}
use Rattle.rds_session.specs.declared.version.Version.TheVariants.{Two}
use Rattle.rds_session.specs.Leaving.{HasHeard, Leaves, StandsAs}
use Rattle.rds_session.specs.Received.{Delivery}
use Rattle.rds_session.specs.Session.{Standing}
use Rattle.rds_files.specs.Files.{IsKeptAt, KeptFile, ReplacedValue}
use Rattle.rds_meetings.specs.Forks.{EndForked, fork_text}
use Rattle.rds_meetings.specs.Reports.{WritesNone, report_text, tells_fault, told_status}
use Rattle.rds_meetings.specs.Settling.{Settles}
use Rattle.rds_meetings.specs.declared.pairing.paired.PairedFile.{PairedFile}
use Rattle.rds_meetings.specs.declared.pairing.paired.PairedFile.TheVariants.{Locked, Read}
use Rattle.rds_meetings.specs.declared.settling.Settled.{Settled}

-- an end of a session of this replica, on the way
pub record IsPairEnd (side : Side) (kept : ReplicaValue) (s : Standing) (ended : Ended) : Type 0 where
  pub kept_is : s.kept ≡ kept
  pub heard : HasHeard side kept s
  pub stands : StandsAs s ended

-- whatever end it was, it still is
abbrev pub StaysEnd : Standing → Ended → Standing → Ended → Type 0
StaysEnd old was new is = (side : Side) (kept : ReplicaValue) → IsPairEnd side kept old was → IsPairEnd side kept new is

-- what was read from a file of a pair
abbrev pub file_of : {H S File Dir : Type 0} → PairedFile H S File Dir → KeptFile
file_of (Locked file) = file
file_of (Read file) = record { path = file.path; kept = file.kept }

-- what is reported of an end, whose replica was read from this file, whether a fault is reported, and the file where it
-- took what it received: that was settled in what the file held then
pub record TellsEnd (side : Side) (file : KeptFile) (text : List ℕ) (told : Bool) (taken : Option ReplacedValue) : Type 0 where
  pub received : Option Delivery
  pub ended : Ended
  pub leaves : Leaves side file.kept received ended
  pub settled : Settled
  pub settles : Settles file.path file.kept received settled taken
  pub text_is : text ≡ report_text settled ended
  pub told_is : told ≡ tells_fault settled ended

-- what is reported of the client and then of the server was written, then that both took and hold forked replicas
-- since, exactly where they do, and nothing else; the status is 1 where a fault is reported
pub record WritesBoth (client server : KeptFile) (before after : Option (List ℕ)) (status : ℕ) : Type 0 where
  pub first : List ℕ
  pub first_told : Bool
  pub first_taken : Option ReplacedValue
  pub tells_first : TellsEnd (Client Two) client first first_told first_taken
  pub second : List ℕ
  pub second_told : Bool
  pub second_taken : Option ReplacedValue
  pub tells_second : TellsEnd Server server second second_told second_taken
  pub forked : Bool
  pub forked_is : IsTrue forked ↔ EndForked first_taken second_taken
  pub written : Appends before after (first ++ second ++ fork_text forked)
  pub status_is : status ≡ told_status (first_told || second_told || forked)

-- a session of the files at these paths, the first of which is the client, was reported, and nothing else
pub record WritesSessionOf (first second : List ℕ) (before after : Option (List ℕ)) (status : ℕ) : Type 0 where
  pub client : KeptFile
  pub client_read : IsKeptAt first client
  pub server : KeptFile
  pub server_read : IsKeptAt second server
  pub both : WritesBoth client server before after status

-- why there is no session alone, or what two replicas came to
abbrev pub WritesPair : List ℕ → List ℕ → Option (List ℕ) → Option (List ℕ) → ℕ → Type 0
WritesPair first second before after status =
    WritesNone before after status ⊎ WritesSessionOf first second before after status
