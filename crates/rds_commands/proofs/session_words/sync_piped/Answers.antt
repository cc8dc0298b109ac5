use Rattle.std.proofs.Common.{inr, refl}
use Rattle.std.proofs.KnownBytes.{Appends-nil}
use Rattle.rds_commands.proofs.session_words.sync_piped.Goals as goal

pub returns-in-None-clause-written : goal.returns-in-None-clause-written
returns-in-None-clause-written g c =
    inr (c.in-None.ensures.none refl, (Appends-nil (g.W.Write.contents c.args.writer.now.inner), c.status_for.ensures.status))
