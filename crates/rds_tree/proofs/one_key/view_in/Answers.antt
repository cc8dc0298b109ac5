use Rattle.std.proofs.Common.{◌∙◌, ap, sym}
use Rattle.rds_tree.specs.Gathered.{view_under}
use Rattle.rds_tree.proofs.OneKey.{under_nothing}
use Rattle.rds_tree.proofs.one_key.view_in.Goals as goal

pub returns-in-Some-clause-ok : goal.returns-in-Some-clause-ok
returns-in-Some-clause-ok c = c.in_ok-view.ensures.ok ∙ ap (view_under c.args.key.now c.args.counters) c.in-Some.ensures

pub returns-clause-ok : goal.returns-clause-ok
returns-clause-ok c = c.of_counters.ensures ∙ under_nothing c.args.key.now c.args.counters ∙ ap (view_under c.args.key.now c.args.counters) (sym c.in_default.ensures)
