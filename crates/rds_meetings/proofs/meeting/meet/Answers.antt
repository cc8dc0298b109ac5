use Rattle.std.proofs.Common.{◌≡◌, inr, rules}
use Rattle.rds_meetings.proofs.meeting.meet.Goals as goal

pub returns-in-Ok : goal.returns-in-Ok
returns-in-Ok g c =
    let lent : c.new-in-Ok.result.inner.stream.now ≡ c.args.stream = search rules in
    inr (
      g.T.Read.remaining c.exchange_over-settled.new.reader.inner.stream.now,
      g.T.Write.contents c.new-in-Ok-3.result.inner.stream.now,
      g.T.Write.contents c.exchange_over-settled.new.writer.inner.stream.now,
      rw (← lent) c.exchange_over-settled.ensures.session,
    )
