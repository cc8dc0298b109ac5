use Rattle.std.proofs.Common.{◌∙◌, ap}
use Rattle.std.specs.FinSet as set
use Rattle.rds_life.specs.Added.{gone_rows}
use Rattle.rds_life.proofs.Deaths.{gone_are_dead}
use Rattle.rds_life.proofs.lives.Lives.rows_dead_in.Goals as goal

pub returns-clause-ok : goal.returns-clause-ok
returns-clause-ok g c =
    let s = g.S.DotSet.contents c.other.inside.seen in
    c.in_ok-rows.ensures.ok
    ∙ ap (gone_rows (set.contains s) c.other.inside.rows) c.live.ensures.rows
    ∙ gone_are_dead s c.other.inside.rows c.args.other.now c.other.view_is _
