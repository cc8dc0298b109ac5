use Rattle.rds_store.proofs.Taken.{merges_all, refuses_merge}
use Rattle.rds_store.proofs.meeting.merge_snapshot.Goals as goal

pub returns-clause-merged : goal.returns-clause-merged
returns-clause-merged c = merges_all c.args.snapshot.now c.in_ok-source.source c.args.document.now (c.in_ok-source._layout, c.in_ok-source.ensures.stored) c.merge_in.result c.merge_in.new.document c.merge_in.ensures.merged c.merge_in.ensures.counted

pub returns-clause-fault : goal.returns-clause-fault
returns-clause-fault c = refuses_merge c.args.snapshot.now c.in_ok-source.source c.args.document.now (c.in_ok-source._layout, c.in_ok-source.ensures.stored) c.merge_in.result c.merge_in.ensures.fault
