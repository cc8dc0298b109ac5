use Rattle.std.proofs.Common.{rules}
use Rattle.rds_packed.proofs.Steps.{dot_fails, dot_after}
use Rattle.rds_packed.proofs.dots.read_dot.Goals as goal

pub returns-in_err-distance : goal.returns-in_err-distance
returns-in_err-distance g c =
    let failed = dot_fails (g.S.DotSet.contents c.args.seen.now) c.args.before.now c.args.bytes.now c.in_err-distance.field-0.0 c.in_err-distance.ensures.read in
    search rules

pub returns : goal.returns
returns g c =
    let found = dot_after (g.S.DotSet.contents c.args.seen.now) c.args.before.now c.args.bytes.now c.in_ok-distance.distance c.in_ok-distance.rest.now c.in_ok-distance.ensures.read in
    let from = c.dot_before.ensures in
    rw (found, ← from) c.read_after.ensures
