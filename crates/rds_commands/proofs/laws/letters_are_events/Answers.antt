use Rattle.rds_commands.proofs.LetterEvents.{answers_answered, letters_taken, questions_asked}
use Rattle.rds_commands.proofs.laws.letters_are_events.Goals as goal

pub returns-clause-asks : goal.returns-clause-asks
returns-clause-asks c = questions_asked

pub returns-clause-answers : goal.returns-clause-answers
returns-clause-answers c = answers_answered

pub returns-clause-takes : goal.returns-clause-takes
returns-clause-takes c = letters_taken
