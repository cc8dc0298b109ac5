use Rattle.std.proofs.Common.{ap, sym}
use Rattle.rds_session.specs.Judging.{roster_among}
use Rattle.rds_meetings.proofs.Takes.{refused, same_self}
use Rattle.rds_meetings.proofs.pairing.paired.take_own.Goals as goal

pub returns-in-Some-clause-err : goal.returns-in-Some-clause-err
returns-in-Some-clause-err g c =
    refused c.args.asked.now c.args.asked.now c.args.delta.now c.args.roster c.in-Some.peers c.take_with.result c.requires (same_self c.args.asked.now) (ap (roster_among c.args.asked.now.roster) (sym c.in-Some.is)) c.take_with.ensures.gives
