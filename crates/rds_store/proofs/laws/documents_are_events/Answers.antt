use Rattle.rds_store.proofs.Events.{answers_answered, edits_edited, keeps_saved, lines_edited, merges_taken, openings_crashed, questions_asked, takes_taken}
use Rattle.rds_store.proofs.laws.documents_are_events.Goals as goal

pub returns-clause-opens : goal.returns-clause-opens
returns-clause-opens c = openings_crashed

pub returns-clause-edits : goal.returns-clause-edits
returns-clause-edits c = edits_edited

pub returns-clause-lines : goal.returns-clause-lines
returns-clause-lines c = lines_edited

pub returns-clause-keeps : goal.returns-clause-keeps
returns-clause-keeps c = keeps_saved

pub returns-clause-asks : goal.returns-clause-asks
returns-clause-asks c = questions_asked

pub returns-clause-answers : goal.returns-clause-answers
returns-clause-answers c = answers_answered

pub returns-clause-takes : goal.returns-clause-takes
returns-clause-takes c = takes_taken

pub returns-clause-merges : goal.returns-clause-merges
returns-clause-merges c = merges_taken
