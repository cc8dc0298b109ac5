use Rattle.std.proofs.Common.{◌∙◌, inr, sym}
use Rattle.rds_commands.proofs.offline.run_init_from.Goals as goal

pub returns-then-is_site-clause-written : goal.returns-then-is_site-clause-written
returns-then-is_site-clause-written g c = λ wrote. inr (sym c.is_site.ensures ∙ c.if-is_site.true, c.init_from_site.ensures.written wrote)
