use Rattle.std.proofs.Common.{refl}
use Rattle.rds_state.specs.Value.{size}
use Rattle.rds_session.specs.Judging.{roster_among}
use Rattle.rds_meetings.proofs.Growing.{taken}
use Rattle.rds_meetings.proofs.Takes.{refused_held, same_self, taken_held}
use Rattle.rds_meetings.proofs.pairing.paired.settle_own.Goals as goal

pub returns-in-Err : goal.returns-in-Err
returns-in-Err g c = record {
  settles = rw (c.without_file.ensures.settled, c.without_file.ensures.file) (refused_held c.args.asked.path c.args.asked c.args.asked.kept (c.args.delta.now, c.args.roster) c.in-Err.fault c.into_parts-replica.ensures.held (rw (← c.into_parts-replica.ensures.replica) c.in-Err.ensures.err));
}

pub keep_taken-requires-clause-took : goal.keep_taken-requires-clause-took
keep_taken-requires-clause-took g c =
    rw (c.into_parts-replica.ensures.file)
    (taken c.args.asked.kept (roster_among c.args.asked.kept.roster c.args.roster) c.args.delta.now c.take_own.new.asked (rw (← c.into_parts-replica.ensures.replica) c.in_default.ensures.ok) c.requires.checked.fits)

pub returns : goal.returns
returns g c = record {
  settles = taken_held c.args.asked.path c.args.asked c.args.asked.kept (c.args.delta.now, c.args.roster) c.take_own.new.asked (size c.args.delta.now) c.keep_taken.result.settled c.keep_taken.result.file c.into_parts-replica.ensures.held (same_self c.args.asked.kept) (rw (← c.into_parts-replica.ensures.replica) c.in_default.ensures.ok) refl (rw (← c.into_parts-replica.ensures.file) c.keep_taken.ensures);
}
