use Rattle.std.proofs.Common.{true, false, arith, rules}
use Rattle.std.proofs.lemmas.Grind.{common_steps}
use Rattle.rds_life.proofs.LivedLemmas.{fits_tell}
use Rattle.rds_life.proofs.rows.are_rows.Goals as goal

pub returns : goal.returns
returns g c = fits_tell true (g.S.DotSet.contents c.args.seen.now) c.args.rows.now (grind (arith, common_steps))

pub returns-then-not-contains : goal.returns-then-not-contains
returns-then-not-contains g c = fits_tell false (g.S.DotSet.contents c.args.seen.now) c.args.rows.now (search rules)

pub returns-then-not-is_before : goal.returns-then-not-is_before
returns-then-not-is_before g c = fits_tell false (g.S.DotSet.contents c.args.seen.now) c.args.rows.now (search rules)
