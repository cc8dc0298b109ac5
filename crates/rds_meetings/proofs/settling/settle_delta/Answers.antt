use Rattle.std.proofs.Common.{refl}
use Rattle.rds_state.specs.Value.{size}
use Rattle.rds_session.specs.Judging.{roster_among}
use Rattle.rds_meetings.proofs.settling.settle_delta.Goals as goal
use Rattle.rds_meetings.proofs.Growing.{taken}
use Rattle.rds_meetings.proofs.Takes.{refused_held, taken_held}

pub returns-in-Err-take_into : goal.returns-in-Err-take_into
returns-in-Err-take_into g c = record {
  settles = rw (c.without_file-in-Err-take_into.ensures.settled, c.without_file-in-Err-take_into.ensures.file) (refused_held c.args.asked.now.path c.in-Ok.locked c.args.asked.now.kept (c.args.delta.now, c.args.roster) c.in-Err-take_into.fault (rw (← c.path.ensures) c.in-Ok.ensures.held) (rw (← c.kept.ensures, ← c.view_of-before.ensures.replica, ← c.into_parts-replica.ensures.replica) c.in-Err-take_into.ensures.err));
}

pub keep_taken-requires-clause-took : goal.keep_taken-requires-clause-took
keep_taken-requires-clause-took g c =
    rw (c.into_parts-replica.ensures.file)
    (taken c.in-Ok.locked.kept (roster_among c.args.asked.now.kept.roster c.args.roster) c.args.delta.now c.take_into.new.held (rw (← c.kept.ensures, ← c.view_of-before.ensures.replica, ← c.into_parts-replica.ensures.replica) c.in_default.ensures.ok) c.requires.checked.fits)

pub returns : goal.returns
returns g c = record {
  settles = taken_held c.args.asked.now.path c.in-Ok.locked c.args.asked.now.kept (c.args.delta.now, c.args.roster) c.take_into.new.held (size c.args.delta.now) c.keep_taken.result.settled c.keep_taken.result.file (rw (← c.path.ensures) c.in-Ok.ensures.held) (rw (← c.kept.ensures, ← c.view_of-before.ensures.replica, ← c.into_parts-replica.ensures.replica) c.in_default.ensures.same) (rw (← c.kept.ensures, ← c.view_of-before.ensures.replica, ← c.into_parts-replica.ensures.replica) c.in_default.ensures.ok) refl (rw (← c.into_parts-replica.ensures.file) c.keep_taken.ensures);
}
