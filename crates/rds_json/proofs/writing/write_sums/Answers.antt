use Rattle.rds_json.proofs.Ascending.{sums_in_order}
use Rattle.rds_json.proofs.Tokens.{begun}
use Rattle.rds_json.proofs.writing.write_sums.Goals as goal

pub loop-row-init : goal.loop-row-init
loop-row-init c = record {
  before = c.in_ok-begin_rows.ensures.ok.0;
  told = begun _ c.args.rows.now _ _ _ c.in_ok-begin_rows.ensures.ok.1 (sums_in_order c.args.rows.now c.in_ok-begin_rows.ensures.ascend);
}
