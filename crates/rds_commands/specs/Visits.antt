-- What is reported of a file that meets a site.
use Rattle.std.specs.Prelude.{◌≡◌, ℕ, Bool, List, [], ◌++◌, codes, Option, Some, None, IfSome}
use Rattle.std.specs.Io.KnownBytes.{Appends}
use Rattle.rds_names.specs.declared.fault.Fault.{Fault}
use Rattle.rds_files.specs.Holders.{begins_with}
use Rattle.rds_offline.specs.Letters.{IsBrought}
use Rattle.rds_output.specs.Output.{fault_line, fault_status}
use Rattle.rds_output.specs.Reply.{reply_line}
use Rattle.rds_output.specs.declared.reply.Reply.TheVariants.{Taken}

-- the address is that of a site
abbrev pub is_site : List ℕ → Bool
is_site addr = begins_with addr (codes "http://")

-- how many components were taken, where an answer was judged
abbrev pub taken_text : Option ℕ → List ℕ
taken_text None = []
taken_text (Some components) = reply_line (Taken components)

-- the line of the fault that ended the meeting, where one did
abbrev pub ending_text : Option Fault → List ℕ
ending_text None = []
ending_text (Some fault) = fault_line fault

abbrev pub ending_status : Option Fault → ℕ
ending_status None = 0
ending_status (Some fault) = fault_status fault

-- what came of a meeting was written, and nothing else, and its status is answered
abbrev pub WritesVisitOf : Option ℕ → Option Fault → Option (List ℕ) → Option (List ℕ) → ℕ → Type 0
WritesVisitOf taken fault before after status =
    Appends before after (taken_text taken ++ ending_text fault) × (status ≡ ending_status fault)

-- the same of a meeting of the file at this path
pub record WritesVisit (path : List ℕ) (before after : Option (List ℕ)) (status : ℕ) : Type 0 where
  pub taken : Option ℕ
  pub fault : Option Fault
  pub brought : IfSome taken (IsBrought path)
  pub written : WritesVisitOf taken fault before after status
