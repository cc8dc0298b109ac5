use Rattle.rds_delta.proofs.PartLemmas.{no_part, run_top, run_ends, part_is}
use Rattle.rds_delta.proofs.stretches.part_after.Goals as goal

pub first_seq-requires-clause-fits : goal.first_seq-requires-clause-fits
first_seq-requires-clause-fits g c = run_top (g.S.DotSet.contents c.args.set.now) (g.met.S.DotSet.within c.args.set.now) c.args.after c.in-Some.run' c.in-Some.ensures

pub first_seq-requires-clause-ends : goal.first_seq-requires-clause-ends
first_seq-requires-clause-ends g c = run_ends (g.S.DotSet.contents c.args.set.now) (g.met.S.DotSet.within c.args.set.now) c.args.after c.in-Some.run' c.in-Some.ensures

pub returns-in-None : goal.returns-in-None
returns-in-None g c = no_part (g.S.DotSet.contents c.args.set.now) (g.met.S.DotSet.within c.args.set.now) c.args.after c.in-None.ensures

pub returns-in-Some : goal.returns-in-Some
returns-in-Some g c = part_is (g.S.DotSet.contents c.args.set.now) (g.met.S.DotSet.within c.args.set.now) c.args.after c.in-Some.run' c.in-Some.ensures c.first_seq.result c.first_seq.ensures
