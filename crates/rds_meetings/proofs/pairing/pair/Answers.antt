use Rattle.std.proofs.Common.{◌≡◌, ◌||◌, rules, subst}
use Rattle.rds_state.specs.Fits.{ReplicaValue}
use Rattle.rds_session.specs.declared.talk.Side.TheVariants.{Client, Server}
use Rattle.rds_session.specs.declared.version.Version.TheVariants.{Two}
use Rattle.rds_session.specs.Leaving.{Leaves}
use Rattle.rds_session.specs.Received.{delivery_of}
use Rattle.rds_meetings.specs.Pairing.{file_of}
use Rattle.rds_meetings.specs.Reports.{tells_fault, told_status}
use Rattle.rds_meetings.proofs.Paired.{both_written, told_of}
use Rattle.rds_meetings.proofs.pairing.pair.Goals as goal

pub returns-clause-written : goal.returns-clause-written
returns-clause-written g c =
    let one = told_of (Client Two) (file_of c.args.client) _ _ c.settle-first.result.settled c.settle-first.result.file (subst (λ (k : ReplicaValue). Leaves (Client Two) k (delivery_of c.meet-left.result.0.received c.meet-left.result.0.roster) c.meet-left.result.0.ended) c.kept.ensures c.meet-left.ensures.client) c.settle-first.ensures.settles in
    let two = told_of Server (file_of c.args.server) _ _ c.settle-second.result.settled c.settle-second.result.file (subst (λ (k : ReplicaValue). Leaves Server k (delivery_of c.meet-left.result.1.received c.meet-left.result.1.roster) c.meet-left.result.1.ended) c.kept-2.ensures c.meet-left.ensures.server) c.settle-second.ensures.settles in
    let due : c.from.result ≡ told_status (tells_fault c.settle-first.result.settled c.meet-left.result.0.ended || tells_fault c.settle-second.result.settled c.meet-left.result.1.ended || c.end_forked-forked.result) = search rules in
    both_written _ _ (g.W.Write.contents c.args.writer.now.inner) (g.W.Write.contents c.write_both.new.writer.inner) _ _ _ _ _ _ c.end_forked-forked.result one two c.end_forked-forked.ensures
    c.args.writer.now.failed c.write_both.new.writer.failed c.from.result c.status_of.result c.write_both.result
    c.write_both.ensures.bytes c.write_both.ensures.counted due c.status_of.ensures
