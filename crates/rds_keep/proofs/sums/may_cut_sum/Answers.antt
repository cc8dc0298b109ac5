use Rattle.std.proofs.Common.{rules}
use Rattle.rds_keep.proofs.SumTexts.{cut_short}
use Rattle.rds_keep.proofs.sums.may_cut_sum.Goals as goal

pub returns-else-behind-lt-SUM_LENGTH-clause-cuts : goal.returns-else-behind-lt-SUM_LENGTH-clause-cuts
returns-else-behind-lt-SUM_LENGTH-clause-cuts c = λ bytes cuts.
    let short = cut_short bytes c.args.behind.now cuts in
    let some = cuts.some in
    search rules
