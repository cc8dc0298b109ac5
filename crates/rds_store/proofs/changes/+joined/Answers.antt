use Rattle.std.proofs.Common.{length, ◌/◌}
use Rattle.rds_store.proofs.ChangeLemmas.{both_halves}
use Rattle.rds_store.proofs.changes.+joined.Goals as goal

pub returns : goal.returns
returns t c =
    both_halves (length c.args.deltas.now / 2) c.split_at.result.0.now c.split_at.result.1.now c.args.deltas.now c.in_ok-all.all c.in_ok-joined.field-0 c.merge.new.self c.split_at.ensures.front c.split_at.ensures.back
    c.in_ok-all.ensures c.in_ok-joined.ensures c.in_ok-merge.ensures.ok
