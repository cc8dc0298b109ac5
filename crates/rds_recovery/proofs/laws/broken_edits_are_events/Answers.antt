use Rattle.rds_recovery.proofs.EventsOf.{change_is_events, edit_is_events, edits_are_events}
use Rattle.rds_world.proofs.Staying.{kept_stays}
use Rattle.rds_recovery.proofs.laws.broken_edits_are_events.Goals as goal

pub returns-clause-change : goal.returns-clause-change
returns-clause-change c = change_is_events

pub returns-clause-edit : goal.returns-clause-edit
returns-clause-edit c = edit_is_events

pub returns-clause-edits : goal.returns-clause-edits
returns-clause-edits c = edits_are_events

pub returns-clause-stays : goal.returns-clause-stays
returns-clause-stays c = kept_stays
