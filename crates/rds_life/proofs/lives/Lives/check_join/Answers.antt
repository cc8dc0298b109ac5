use Rattle.rds_life.proofs.NothingSeen.{agrees_nothing}
use Rattle.rds_life.proofs.lives.Lives.check_join.Goals as goal

pub returns-in-Some-clause-nothing : goal.returns-in-Some-clause-nothing
returns-in-Some-clause-nothing g c = λ none. absurd (c.in-Some.ensures.here (agrees_nothing c.args.self.now c.args.other.now none c.in-Some.dot))
