use Rattle.rds_life.proofs.GapRows.{begins_later, ends_before, no_end}
use Rattle.rds_life.proofs.gone.gap_end.Goals as goal

pub overflow_sub-result : goal.overflow_sub-result
overflow_sub-result g c = begins_later (g.S.DotSet.contents c.args.seen.now) (g.met.S.DotSet.within c.args.seen.now) c.args.dot c.in-Some.run' c.in-Some.ensures

pub returns-in-Some : goal.returns-in-Some
returns-in-Some g c = ends_before (g.S.DotSet.contents c.args.seen.now) (g.met.S.DotSet.within c.args.seen.now) c.args.dot c.in-Some.run' c.in-Some.ensures

pub returns-in-None : goal.returns-in-None
returns-in-None g c = no_end (g.S.DotSet.contents c.args.seen.now) (g.met.S.DotSet.within c.args.seen.now) c.args.dot _ c.in-None.ensures
