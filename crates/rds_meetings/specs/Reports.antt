-- What is reported of a session.
use Rattle.std.specs.Prelude.{◌≡◌, ◌⊎◌, ℕ, Bool, true, false, ◌||◌, List, [], ◌∷◌, ◌++◌, codes, Option, if◌then◌else◌}
use Rattle.std.specs.Fmt.{decimal}
use Rattle.std.specs.Io.KnownBytes.{Appends}
use Rattle.rds_names.specs.declared.fault.Fault.{Fault}
use Rattle.rds_names.specs.declared.fault.Fault.TheVariants.{Device}
use Rattle.rds_codec.specs.Decoding.{IsOtherFault}
use Rattle.rds_session.specs.declared.step.Ended.{Ended}
use Rattle.rds_session.specs.declared.step.Ended.TheVariants.{Failed}
use Rattle.rds_output.specs.Output.{fault_line}
use Rattle.rds_meetings.specs.Settling.{is_fault}
use Rattle.rds_meetings.specs.declared.settling.Settled.{Settled}
use Rattle.rds_meetings.specs.declared.settling.Settled.TheVariants.{Nothing, Taken, Refused, Unkept}

-- how many components were taken, or a fault's line
abbrev pub settled_text : Settled → List ℕ
settled_text Nothing = []
settled_text (Taken components) = codes "{\"taken\":" ++ decimal components ++ codes "}" ++ 10 ∷ []
settled_text (Refused fault) = fault_line fault
settled_text (Unkept fault) = fault_line fault

-- the line of the fault that a session failed with
abbrev pub ended_text : Ended → List ℕ
ended_text (Failed fault) = fault_line fault
ended_text _ = []

abbrev pub report_text : Settled → Ended → List ℕ
report_text settled ended = settled_text settled ++ ended_text ended

abbrev pub has_failed : Ended → Bool
has_failed (Failed fault) = true
has_failed _ = false

-- whether there is a fault's line in it
abbrev pub tells_fault : Settled → Ended → Bool
tells_fault settled ended = is_fault settled || has_failed ended

-- 1 where a fault is reported
abbrev pub told_status : Bool → ℕ
told_status told = if told then 1 else 0

-- a session's report was written, and nothing else, and its status is answered
abbrev pub WritesReport : Settled → Ended → Option (List ℕ) → Option (List ℕ) → ℕ → Type 0
WritesReport settled ended before after status =
    Appends before after (report_text settled ended) × (status ≡ told_status (tells_fault settled ended))

-- the fault's line was written, and nothing else, and its status is answered
abbrev pub WritesFault : Fault → Option (List ℕ) → Option (List ℕ) → ℕ → Type 0
WritesFault fault before after status = Appends before after (fault_line fault) × (status ≡ 1)

-- there is no session, and why is reported alone: a file can't be had or holds no snapshot, or an address or a peer
-- can't be had
pub record WritesNone (before after : Option (List ℕ)) (status : ℕ) : Type 0 where
  pub fault : Fault
  pub due : (fault ≡ Device) ⊎ IsOtherFault fault
  pub written : WritesFault fault before after status
