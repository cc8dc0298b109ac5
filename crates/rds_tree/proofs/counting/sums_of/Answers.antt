use Rattle.std.proofs.Common.{◌∙◌}
use Rattle.rds_tree.proofs.CountedKeys.{sums_whole}
use Rattle.rds_tree.proofs.counting.sums_of.Goals as goal

pub returns-clause-ok : goal.returns-clause-ok
returns-clause-ok c =
    c.from_rows.ensures ∙ sums_whole c.args.counts.now c.rows-rest.result.now c.adding.rest.now c.adding.sums.items _ c.rows-rest.ensures.are_rows c.rows-rest.ensures.value c.in_default.ensures.cases c.adding.invariant
