use Rattle.std.proofs.Common.{not, rules}
use Rattle.std.proofs.lemmas.List.Sorted.{IsPartitionPoint-from_clause}
use Rattle.rds_dots.specs.Ascending.{is_above}
use Rattle.rds_dots.proofs.Splits.{parted, at_most_is, front_upto, back_after, all_after}
use Rattle.rds_dots.proofs.lists.split_after.Goals as goal

pub returns-in-None-clause-later : goal.returns-in-None-clause-later
returns-in-None-clause-later c = rw c.in-None.is (all_after c.split_at.result.1.now)

pub returns-in-Some-clause-upto : goal.returns-in-Some-clause-upto
returns-in-Some-clause-upto c =
    let point = IsPartitionPoint-from_clause (λ d. not (is_above c.in-Some.last d)) c.args.dots.now _ c.partition_point.ensures.partitioned (parted c.args.dots.now c.requires c.in-Some.last) (λ a r f' called. let e = at_most_is a.0.now c.in-Some.last in (search (rules, at_most_is), search rules)) in
    rw (c.split_at-in-Some.ensures.front, c.in-Some.is) (front_upto c.args.dots.now c.in-Some.last _ point)

pub returns-in-Some-clause-later : goal.returns-in-Some-clause-later
returns-in-Some-clause-later c =
    let point = IsPartitionPoint-from_clause (λ d. not (is_above c.in-Some.last d)) c.args.dots.now _ c.partition_point.ensures.partitioned (parted c.args.dots.now c.requires c.in-Some.last) (λ a r f' called. let e = at_most_is a.0.now c.in-Some.last in search (rules, e)) in
    rw (c.split_at-in-Some.ensures.back, c.in-Some.is) (back_after c.args.dots.now c.in-Some.last _ point)
