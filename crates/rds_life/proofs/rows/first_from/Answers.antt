use Rattle.std.proofs.Common.{◌∙◌, ap, sym, rules}
use Rattle.std.proofs.lemmas.List.Sorted.{IsPartitionPoint-from_clause}
use Rattle.rds_dots.specs.Ascending.{is_above}
use Rattle.rds_life.specs.Past.{first_row}
use Rattle.rds_life.proofs.PastRows.{from_at, length_none, parted_from}
use Rattle.rds_life.proofs.rows.first_from.Goals as goal

pub returns-in-Some : goal.returns-in-Some
returns-in-Some c =
    let rows = c.args.rows.now in
    let d = c.args.dot in
    let point = IsPartitionPoint-from_clause (λ r. is_above r.0 d) rows _ c.partition_point.ensures.partitioned (parted_from rows c.requires d) (λ a r f' called. search rules) in
    ap first_row (sym c.in-Some.ensures.cases.0 ∙ c.split_at.ensures.back ∙ from_at d rows _ point)

pub returns-in-None : goal.returns-in-None
returns-in-None c =
    let rows = c.args.rows.now in
    let d = c.args.dot in
    let point = IsPartitionPoint-from_clause (λ r. is_above r.0 d) rows _ c.partition_point.ensures.partitioned (parted_from rows c.requires d) (λ a r f' called. search rules) in
    ap first_row (sym (length_none _ c.in-None.ensures.cases) ∙ c.split_at.ensures.back ∙ from_at d rows _ point)
