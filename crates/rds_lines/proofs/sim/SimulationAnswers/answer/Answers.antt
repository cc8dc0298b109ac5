use Rattle.std.proofs.Common.{Ok, Err}
use Rattle.rds_lines.proofs.Simulating.{first_met}
use Rattle.rds_lines.proofs.sim.SimulationAnswers.answer.Goals as goal

pub returns-in-Ok : goal.returns-in-Ok
returns-in-Ok c = λ bytes lines out refused read later now h. first_met bytes lines out refused (Ok c.in-Ok.answer) c.answered.new.self.world now (c.in-Ok.ensures bytes now read h) later

pub returns-in-Err : goal.returns-in-Err
returns-in-Err c = λ bytes lines out refused read later now h. first_met bytes lines out refused (Err c.in-Err.fault) c.answered.new.self.world now (c.in-Err.ensures bytes now read h) later
