use Rattle.std.proofs.Common.{◌∙◌, inl, sym}
use Rattle.rds_commands.proofs.session_words.run_serve.Goals as goal

pub returns-clause-written : goal.returns-clause-written
returns-clause-written g c = λ wrote. inl (sym c.eq.ensures ∙ c.if-eq.false, c.serve_at.ensures.written wrote)
