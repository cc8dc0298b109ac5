use Rattle.std.proofs.Common.{inl, refl}
use Rattle.rds_commands.proofs.session_words.sync_site.Goals as goal

pub returns-in-Some-clause-written : goal.returns-in-Some-clause-written
returns-in-Some-clause-written g c = λ wrote. inl (
  c.in-Some.ensures.file refl,
  record {
    taken = c.sync_site-visit.result.taken;
    fault = c.sync_site-visit.result.fault;
    brought = c.sync_site-visit.ensures.taken;
    written = c.write_visit.ensures.written wrote;
  },
)
