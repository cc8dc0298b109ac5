use Rattle.std.proofs.Common.{rules}
use Rattle.rds_gaps.proofs.Sets.{set_of-none}
use Rattle.rds_gaps.proofs.gap_set.GapSetDotSet.empty.Goals as goal

pub returns : goal.returns
returns c = search (rules, set_of-none)
