use Rattle.std.proofs.Common.{sym, ◌∙◌}
use Rattle.rds_session.proofs.Sendings.{encoded}
use Rattle.rds_session.proofs.digests.digest_body.Goals as goal

pub returns-then-says_briefs : goal.returns-then-says_briefs
returns-then-says_briefs g c =
    let says = sym c.says_briefs.ensures ∙ c.if-says_briefs.true in
    rw says (encoded _ _ c.encode_brief.ensures)

pub returns-else-says_briefs : goal.returns-else-says_briefs
returns-else-says_briefs g c =
    let says = sym c.says_briefs.ensures ∙ c.if-says_briefs.false in
    rw says (encoded _ _ c.encode_digest.ensures.text)
