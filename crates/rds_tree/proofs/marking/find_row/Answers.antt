use Rattle.std.proofs.Common.{rules}
use Rattle.std.proofs.lemmas.Fn.{always_returns_same}
use Rattle.rds_counts.specs.Search.{spot_cmp}
use Rattle.rds_tree.proofs.marking.find_row.Goals as goal

pub returns : goal.returns
returns c = record {
  bound = c.binary_search_by.ensures.bound;
  position = c.binary_search_by.ensures.position (spot_cmp c.args.key.now c.args.replica) (always_returns_same _ _ _ (λ a r g called. search rules));
}
