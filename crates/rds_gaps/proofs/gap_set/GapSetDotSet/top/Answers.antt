use Rattle.std.proofs.Common.{subst}
use Rattle.rds_gaps.specs.Lookup.{IsTopOf}
use Rattle.rds_gaps.proofs.Tops.{top_set}
use Rattle.rds_gaps.proofs.gap_set.GapSetDotSet.top.Goals as goal

pub returns : goal.returns
returns c = top_set c.args.self.now.runs.items c.args.replica c.top.result (subst (λ rs. IsTopOf rs c.args.replica c.top.result) c.deref.ensures.value c.top.ensures)
