use Rattle.std.proofs.Common.{inl, refl}
use Rattle.rds_names.specs.declared.fault.Fault.TheVariants.{Device}
use Rattle.rds_meetings.proofs.syncing.serve_file.Goals as goal

pub returns-clause-written : goal.returns-clause-written
returns-clause-written g c = λ steady. inl (record { fault = Device; due = inl refl; written = c.give_up-in-Err-bind.ensures.written steady })
