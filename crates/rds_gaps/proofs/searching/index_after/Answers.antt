use Rattle.std.proofs.Common.{Some, not, rules}
use Rattle.std.proofs.lemmas.List.Sorted.{IsPartitionPoint-from_clause}
use Rattle.rds_dots.specs.Dots.{last_of, comes_after}
use Rattle.rds_gaps.proofs.Searches.{ends_in_order, parted_at_point, found_in}
use Rattle.rds_gaps.proofs.searching.index_after.Goals as goal

pub returns-clause-parted : goal.returns-clause-parted
returns-clause-parted c =
    let point = IsPartitionPoint-from_clause (λ r. not (comes_after (Some c.args.dot) (last_of r))) c.args.runs.now _ c.partition_point.ensures.partitioned (ends_in_order (Some c.args.dot) c.args.runs.now c.requires) (λ a r f' called. (search rules, search rules)) in
    parted_at_point (Some c.args.dot) c.args.runs.now _ point

pub returns-clause-found : goal.returns-clause-found
returns-clause-found c = found_in (Some c.args.dot) c.args.runs.now _ c.partition_point.ensures.bound (returns-clause-parted c)
