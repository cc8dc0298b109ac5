use Rattle.std.proofs.Common.{◌≡◌, refl, sym, ◌∙◌, arith, rules}
use Rattle.rds_session.specs.declared.talk.Side.TheVariants.{Server}
use Rattle.rds_output.proofs.Failing.{failed_by}
use Rattle.rds_meetings.proofs.Serving.{none_served, more_served, last_served, all_served}
use Rattle.rds_meetings.proofs.syncing.serve.Goals as goal

pub sessions-init : goal.sessions-init
sessions-init g c = record {
  served = none_served Server c.args.path.now (g.W.Write.contents c.args.writer.now.inner);
  steady = refl;
}

pub returns-then-is_unkept-clause-written : goal.returns-then-is_unkept-clause-written
returns-then-is_unkept-clause-written g c = λ _.
    last_served Server c.args.sessions c.args.path.now c.sessions.path c.meet_next-met.new.path c.sessions.counter c.sessions.told _ _ _ c.meet_next-met.result.settled c.meet_next-met.result.ended
    c.sessions.invariant.served c.meet_next-met.ensures c.in-Ok.ensures.bytes (sym c.is_unkept.ensures ∙ c.if-is_unkept.true) c.sessions-test.true

pub sessions-preserved : goal.sessions-preserved
sessions-preserved g c =
    let more = more_served Server c.args.path.now c.sessions.path c.meet_next-met.new.path c.sessions.counter c.sessions.told _ _ _ c.meet_next-met.result.settled c.meet_next-met.result.ended
    c.sessions.invariant.served c.meet_next-met.ensures c.in-Ok.ensures.bytes (sym c.is_unkept.ensures ∙ c.if-is_unkept.false) in
    record {
      served = rw c.tells_fault-told.ensures more;
      steady = c.in-Ok.ensures.steady ∙ c.sessions.invariant.steady;
    }

pub returns-clause-written : goal.returns-clause-written
returns-clause-written g c = λ _.
    let count : c.sessions.counter ≡ c.args.sessions = omega arith in
    all_served Server c.args.sessions c.args.path.now c.sessions.path c.sessions.told (g.W.Write.contents c.args.writer.now.inner) (g.W.Write.contents c.sessions.writer.inner) c.from.result (rw (← count) c.sessions.invariant.served) (search rules)

pub returns-in-Err-clause-written : goal.returns-in-Err-clause-written
returns-in-Err-clause-written g c = λ wrote.
    absurd (wrote (failed_by c.args.writer.now.failed c.sessions.writer.failed c.write_report.new.writer.failed c.sessions.invariant.steady c.in-Err.ensures.counted))
