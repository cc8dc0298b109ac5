use Rattle.rds_tree.proofs.Deltas.{adds_one}
use Rattle.rds_tree.proofs.taking.add_leaves.Goals as goal

pub adding-preserved : goal.adding-preserved
adding-preserved c = adds_one c.args.rows.now c.adding.rest.now c.in-Some.later.now c.in-Some.row.now c.args.tree.now c.adding.tree c.add_leaf.new.tree c.in-Some.ensures.cases.0 c.adding.invariant c.in_ok-add_leaf.ensures.ok
