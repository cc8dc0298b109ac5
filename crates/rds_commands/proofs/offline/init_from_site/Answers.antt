use Rattle.std.proofs.Common.{inl, refl}
use Rattle.rds_output.specs.declared.reply.Reply.TheVariants.{Done}
use Rattle.rds_commands.proofs.offline.init_from_site.Goals as goal

pub returns-in-Ok-clause-written : goal.returns-in-Ok-clause-written
returns-in-Ok-clause-written g c = λ wrote. inl (c.in-Ok._file, Done, (c.in-Ok.ensures.made, refl), c.write_reply.ensures.written wrote)
