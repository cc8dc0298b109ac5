use Rattle.rds_session.specs.declared.talk.Side.TheVariants.{Client, Server}
use Rattle.rds_session.specs.declared.version.Version.TheVariants.{Two}
use Rattle.rds_meetings.proofs.pairing.meeting.meet.Goals as goal

pub returns-clause-client : goal.returns-clause-client
returns-clause-client g c = c.leave.ensures.leaves (Client Two) c.args.first.now (c.talk.ensures.client (Client Two) c.args.first.now c.begin-client.ensures.end)

pub returns-clause-server : goal.returns-clause-server
returns-clause-server g c = c.leave-2.ensures.leaves Server c.args.second.now (c.talk.ensures.server Server c.args.second.now c.begin-server.ensures.end)
