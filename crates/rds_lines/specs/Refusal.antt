-- Why the program gives up.
use Rattle.rds_names.specs.declared.fault.Fault.{Fault}
use Rattle.rds_lines.specs.declared.refusal.Refusal.{Refusal}
use Rattle.rds_lines.specs.declared.refusal.Refusal.TheVariants.{Refused}

abbrev pub refusal_fault : Refusal → Fault
refusal_fault (Refused fault) = fault
