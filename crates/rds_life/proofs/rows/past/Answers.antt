use Rattle.std.proofs.Common.{◌∙◌, not, rules}
use Rattle.std.proofs.lemmas.List.Sorted.{IsPartitionPoint-from_clause}
use Rattle.rds_dots.specs.Ascending.{is_above}
use Rattle.rds_dots.proofs.Splits.{at_most_is}
use Rattle.rds_life.proofs.PastRows.{past_at, parted_past}
use Rattle.rds_life.proofs.rows.past.Goals as goal

pub returns : goal.returns
returns c =
    let rows = c.args.rows.now in
    let d = c.args.dot in
    let point = IsPartitionPoint-from_clause (λ r. not (is_above d r.0)) rows _ c.partition_point.ensures.partitioned (parted_past rows c.requires d) (λ a r f' called. let e = at_most_is a.0.now.0 d in search (rules, e)) in
    c.split_at.ensures.back ∙ past_at d rows _ point
