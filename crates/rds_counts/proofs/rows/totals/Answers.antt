use Rattle.std.proofs.Common.{◌∙◌, ◌≤◌, ◌*◌, subst, sym, rules}
use Rattle.std.specs.Ordering.{nat_cmp, is_lt}
use Rattle.std.specs.Cmp.Lexicographic.{slice_cmp}
use Rattle.std.proofs.lemmas.Fn.{always_returns_same}
use Rattle.rds_counts.specs.declared.row.Which.TheVariants.{P, N}
use Rattle.rds_counts.specs.declared.row.CountRow.{CountRow}
use Rattle.rds_counts.specs.declared.row.TheConstants.{MAX_COUNT}
use Rattle.rds_counts.proofs.Totals.{keys_part, first_total-total, total_within}
use Rattle.rds_counts.proofs.rows.totals.Goals as goal

pub first_totals-requires : goal.first_totals-requires
first_totals-requires c =
    let part = c.partition_point-from.ensures.partitioned (λ (r : CountRow). is_lt (slice_cmp nat_cmp r.key c.args.key.now)) (always_returns_same _ _ _ (λ a r g called. search rules)) (keys_part c.args.key.now c.args.rows.now c.requires.rise) in
    record { fit = λ which. subst (λ n. n ≤ 256 * MAX_COUNT) (sym (first_total-total which c.args.key.now c.args.rows.now c.requires c.partition_point-from.result c.partition_point-from.ensures.bound part)) (total_within which c.args.key.now c.args.rows.now c.requires) }

pub returns-clause-p : goal.returns-clause-p
returns-clause-p c =
    let part = c.partition_point-from.ensures.partitioned (λ (r : CountRow). is_lt (slice_cmp nat_cmp r.key c.args.key.now)) (always_returns_same _ _ _ (λ a r g called. search rules)) (keys_part c.args.key.now c.args.rows.now c.requires.rise) in
    c.first_totals.ensures.p ∙ first_total-total P c.args.key.now c.args.rows.now c.requires c.partition_point-from.result c.partition_point-from.ensures.bound part

pub returns-clause-n : goal.returns-clause-n
returns-clause-n c =
    let part = c.partition_point-from.ensures.partitioned (λ (r : CountRow). is_lt (slice_cmp nat_cmp r.key c.args.key.now)) (always_returns_same _ _ _ (λ a r g called. search rules)) (keys_part c.args.key.now c.args.rows.now c.requires.rise) in
    c.first_totals.ensures.n ∙ first_total-total N c.args.key.now c.args.rows.now c.requires c.partition_point-from.result c.partition_point-from.ensures.bound part
