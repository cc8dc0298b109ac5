use Rattle.std.proofs.Common.{inl, inr}
use Rattle.rds_commands.proofs.offline.take_both.Goals as goal

pub returns-in-Ok-clause-written : goal.returns-in-Ok-clause-written
returns-in-Ok-clause-written g c = λ wrote.
    inl (c.in-Ok.done.file, c.in-Ok.done.components, c.in-Ok.done.forked, c.in-Ok.ensures.taken, c.told_answered.ensures.written wrote)

pub returns-in-Err-clause-written : goal.returns-in-Err-clause-written
returns-in-Err-clause-written g c = λ wrote. inr (c.in-Err.fault, c.in-Err.ensures.fault, c.write_fault.ensures.written wrote)
