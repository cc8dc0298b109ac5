use Rattle.rds_commands.proofs.watching.run_watch.Goals as goal

pub returns-clause-written : goal.returns-clause-written
returns-clause-written g c = λ wrote. (c.watched.result, c.watched.ensures, c.write_fault.ensures.written wrote)
