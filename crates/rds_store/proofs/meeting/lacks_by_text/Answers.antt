use Rattle.rds_store.proofs.Taken.{tells_lacks, tells_level}
use Rattle.rds_store.proofs.meeting.lacks_by_text.Goals as goal

pub returns-clause-told : goal.returns-clause-told
returns-clause-told c = tells_lacks c.args.question.now c.args.held.now c.in_ok-asked.asked c.in_ok-asked.ensures.text.value c.lacks_of.result c.lacks_of.ensures

pub returns-clause-level : goal.returns-clause-level
returns-clause-level c = tells_level c.args.question.now c.args.held.now c.in_ok-asked.asked c.in_ok-asked.ensures.text.value c.lacks_of.result c.lacks_of.ensures
