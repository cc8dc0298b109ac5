use Rattle.rds_node.proofs.process.run_words.Goals as goal

pub returns-in-Ok-clause-join : goal.returns-in-Ok-clause-join
returns-in-Ok-clause-join g c = rw (c.in-Ok.is, c.code_of.ensures) c.run.ensures.join

pub returns-in-Ok-clause-sim : goal.returns-in-Ok-clause-sim
returns-in-Ok-clause-sim g c = rw (c.in-Ok.is, c.code_of.ensures) c.run.ensures.sim

pub returns-in-Ok-clause-task : goal.returns-in-Ok-clause-task
returns-in-Ok-clause-task g c = rw (c.in-Ok.is, c.code_of.ensures) c.run.ensures.task

pub returns-in-Ok-clause-mistake : goal.returns-in-Ok-clause-mistake
returns-in-Ok-clause-mistake g c = rw (c.in-Ok.is, c.code_of.ensures) c.run.ensures.mistake
