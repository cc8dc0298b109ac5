use Rattle.rds_dots.specs.Merges.{merged_end}
use Rattle.rds_dots.proofs.lists.union_of.Goals as goal

-- nothing is left on the right
pub returns-in_default-split_first : goal.returns-in_default-split_first
returns-in_default-split_first c =
    let e = merged_end c.merging.left.now c.merging.right.now c.in_default-split_first.ensures.cases in
    cc (e, c.in_ok-extend_from_slice-2.ensures.items, c.merging.invariant)
