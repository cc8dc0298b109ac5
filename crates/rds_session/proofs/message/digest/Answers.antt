use Rattle.std.proofs.Common.{refl, sym, ◌∙◌}
use Rattle.rds_session.proofs.message.digest.Goals as goal

pub returns-else-says_briefs : goal.returns-else-says_briefs
returns-else-says_briefs g c =
    rw c.new-else-says_briefs.ensures (λ hashed. (c.args.version, hashed, refl, sym c.says_briefs.ensures ∙ c.if-says_briefs.false, refl))
