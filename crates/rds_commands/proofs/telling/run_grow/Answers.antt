use Rattle.std.proofs.Common.{◌∙◌, inr, sym}
use Rattle.rds_commands.proofs.Growing.{told_by_site}
use Rattle.rds_commands.proofs.telling.run_grow.Goals as goal

pub returns-then-is_site-clause-written : goal.returns-then-is_site-clause-written
returns-then-is_site-clause-written g c = λ wrote. inr (
  sym c.is_site.ensures ∙ c.if-is_site.true,
  told_by_site c.args.words.now c.grow_site.result _ _ _ c.grow_site.ensures.names c.grow_site.ensures.told (c.write_reply.ensures.written wrote),
)
