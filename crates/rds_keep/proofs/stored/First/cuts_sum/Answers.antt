use Rattle.std.proofs.Common.{rules}
use Rattle.rds_keep.proofs.stored.First.cuts_sum.Goals as goal

pub returns-then-not-may_cut_sum-clause-none : goal.returns-then-not-may_cut_sum-clause-none
returns-then-not-may_cut_sum-clause-none g c = λ no cuts.
    let yes = c.may_cut_sum.ensures.cuts _ cuts in
    search rules
