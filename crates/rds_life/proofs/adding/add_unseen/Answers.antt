use Rattle.std.specs.FinSet as set
use Rattle.rds_life.proofs.Additions.{undone}
use Rattle.rds_life.proofs.adding.add_unseen.Goals as goal

pub returns-in-Err-clause-err : goal.returns-in-Err-clause-err
returns-in-Err-clause-err g c =
    undone (set.contains (g.S.DotSet.contents c.args.seen.now)) c.args.other.now c.args.rows.now c.add_each.new.rows c.drop_unseen.new.rows c.requires.seen c.len-in_order.ensures.rise c.len-still_in_order.ensures.rise c.in-Err.ensures.some c.drop_unseen.ensures
