use Rattle.std.proofs.Common.{◌∙◌, inl, inr, sym}
use Rattle.rds_commands.proofs.session_words.run_sync.Goals as goal

pub returns-then-is_site-clause-written : goal.returns-then-is_site-clause-written
returns-then-is_site-clause-written g c = λ wrote. inr (inl (sym c.is_site.ensures ∙ c.if-is_site.true, c.sync_site.ensures.written wrote))
