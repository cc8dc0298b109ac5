use Rattle.rds_world.proofs.Staying.{answers_stay, asks_stay}
use Rattle.rds_commands.proofs.Events.{readings_asked, sessions_answered, settlings_taken}
use Rattle.rds_commands.proofs.laws.sessions_are_events.Goals as goal

pub returns-clause-reads : goal.returns-clause-reads
returns-clause-reads c = readings_asked

pub returns-clause-asks_stay : goal.returns-clause-asks_stay
returns-clause-asks_stay c = asks_stay

pub returns-clause-answers_stay : goal.returns-clause-answers_stay
returns-clause-answers_stay c = answers_stay

pub returns-clause-answers : goal.returns-clause-answers
returns-clause-answers c = sessions_answered

pub returns-clause-takes : goal.returns-clause-takes
returns-clause-takes c = settlings_taken
