use Rattle.rds_commands.proofs.EditEvents.{editings_edited, lines_edited}
use Rattle.rds_commands.proofs.laws.edits_are_events.Goals as goal

pub returns-clause-edits : goal.returns-clause-edits
returns-clause-edits c = editings_edited

pub returns-clause-lines : goal.returns-clause-lines
returns-clause-lines c = lines_edited
