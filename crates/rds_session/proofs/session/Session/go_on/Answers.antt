use Rattle.rds_session.specs.Steps.{came}
use Rattle.rds_session.proofs.Course.{gave_up, took}
use Rattle.rds_session.proofs.session.Session.go_on.Goals as goal

pub returns-in-Ok-clause-steps : goal.returns-in-Ok-clause-steps
returns-in-Ok-clause-steps g c = took c.args.self.now c.work.new.self (came c.args.input) c.new-send.result.items c.work.new.send.items c.requires c.new-send.ensures.items c.in-Ok.ensures.works

pub returns-in-Err-clause-steps : goal.returns-in-Err-clause-steps
returns-in-Err-clause-steps g c =
    gave_up c.args.self.now c.work.new.self c.give_up.new.self (came c.args.input) c.give_up.result.items c.requires c.in-Err.ensures.works.1 c.give_up.ensures.failed c.give_up.ensures.send c.in-Err.ensures.works.2
