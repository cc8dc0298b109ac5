use Rattle.std.proofs.Common.{inr, rules}
use Rattle.rds_meetings.proofs.piping.pipe_file.Goals as goal

pub returns-in-Ok-clause-pipes : goal.returns-in-Ok-clause-pipes
returns-in-Ok-clause-pipes g c = inr (record {
  file = c.in-Ok.file;
  read = c.in-Ok.ensures.read;
  settled = c.exchange_over-settled.result.0;
  ended = c.exchange_over-settled.result.1;
  session = c.exchange_over-settled.ensures.session;
  told = search rules;
})
