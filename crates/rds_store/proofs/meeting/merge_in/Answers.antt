use Rattle.std.proofs.Common.{Ok, ◌∙◌}
use Rattle.rds_state.specs.Fits.{ReplicaValue}
use Rattle.rds_state.specs.Results.{TakesDeltaWith}
use Rattle.rds_store.proofs.ChangeLemmas.{as_merged, merge_made, noted}
use Rattle.rds_store.proofs.Taken.{is_merged}
use Rattle.rds_store.proofs.meeting.merge_in.Goals as goal

pub returns-clause-since : goal.returns-clause-since
returns-clause-since c =
    let v : ReplicaValue = c.args.source.now in
    let takes : TakesDeltaWith c.args.document.now v.roster v.state (Ok tt) c.take_with.new.self =
    as_merged c.args.document.now c.take_with.new.self v c.in_ok-roster.roster c.state.result.now (c.in_ok-roster.ensures.ok ∙ c.roster.ensures) c.state.ensures.state c.in_ok-grew.ensures.taken
    in
    noted c.make_room.new.self c.note.new.self c.args.document.now c.take_with.new.self c.in_ok-grew.grew c.in_ok-lacking.lacking (c.make_room.ensures.since c.args.document.now c.requires.since) c.note.ensures
    (merge_made c.args.document.now c.take_with.new.self v c.in_ok-lacking.lacking c.in_ok-grew.grew takes c.in_ok-lacking.ensures.lacking c.in_ok-grew.ensures.grew)

pub returns-clause-merged : goal.returns-clause-merged
returns-clause-merged c =
    let v : ReplicaValue = c.args.source.now in
    is_merged v c.args.document.now c.take_with.new.self
    (as_merged c.args.document.now c.take_with.new.self v c.in_ok-roster.roster c.state.result.now (c.in_ok-roster.ensures.ok ∙ c.roster.ensures) c.state.ensures.state c.in_ok-grew.ensures.taken)

pub returns-clause-counted : goal.returns-clause-counted
returns-clause-counted c = record { lacking = c.in_ok-lacking.lacking; is_least = c.in_ok-lacking.ensures.lacking; count = c.components-components.ensures }
