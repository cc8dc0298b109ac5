use Rattle.std.proofs.Common.{◌∙◌}
use Rattle.rds_tree.specs.View.{same_key}
use Rattle.rds_tree.proofs.CountedKeys.{any_counted}
use Rattle.rds_tree.proofs.one_key.is_counted.Goals as goal

pub returns : goal.returns
returns c = c.has_key.ensures ∙ any_counted (same_key c.args.key.now) c.args.counts.now c.rows.result.now c.rows.ensures.are_rows c.rows.ensures.value
