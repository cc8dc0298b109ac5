use Rattle.std.proofs.Common.{ℕ, List, [], subst}
use Rattle.rds_dots.specs.Runs.{runs_of}
use Rattle.rds_codec.specs.Writing.{Encodes}
use Rattle.rds_briefs.specs.BriefTexts.{runs_text}
use Rattle.rds_briefs.proofs.DigestsRead.{brief_is}
use Rattle.rds_briefs.proofs.briefs.encode_brief.Goals as goal

pub returns : goal.returns
returns g c =
    let seen = g.S.DotSet.contents c.seen.result.now in
    let live = g.S.DotSet.contents c.live.result.now in
    let counts = c.counts.result.now in
    subst (λ (t : List ℕ). Encodes t c.with_counters.result) (brief_is c.args.digest.now seen live counts c.seen.ensures.dots c.live.ensures c.counts.ensures)
    (c.with_counters.ensures (runs_text live (runs_of seen)) (c.put_runs.ensures [] c.new-text.ensures))
