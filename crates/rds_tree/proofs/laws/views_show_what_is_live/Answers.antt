use Rattle.std.proofs.Common.{refl}
use Rattle.rds_tree.proofs.ScalarOrder.{scalars_total}
use Rattle.rds_tree.specs.View.{entries_view}
use Rattle.rds_tree.proofs.InOrder.{in_order}
use Rattle.rds_tree.proofs.MapsShown.{maps_shown}
use Rattle.rds_tree.proofs.Shows.{regs_shown, sets_shown, sums_shown}
use Rattle.rds_tree.proofs.laws.views_show_what_is_live.Goals as goal

pub returns-clause-regs : goal.returns-clause-regs
returns-clause-regs c = regs_shown

pub returns-clause-sets : goal.returns-clause-sets
returns-clause-sets c = sets_shown

pub returns-clause-maps : goal.returns-clause-maps
returns-clause-maps c = maps_shown

pub returns-clause-root : goal.returns-clause-root
unfolding entries_view
returns-clause-root c v = sums_shown v

pub returns-clause-below_root : goal.returns-clause-below_root
unfolding entries_view
returns-clause-below_root c v key path = refl

pub returns-clause-order : goal.returns-clause-order
returns-clause-order c = in_order

pub returns-clause-scalars : goal.returns-clause-scalars
returns-clause-scalars c = record {
  null = λ b. refl;
  truth = refl;
  truths = λ b n. refl;
  sizes = λ m n. refl;
  integers = λ n t. refl;
  bytes = λ s t. refl;
  total = scalars_total;
}
