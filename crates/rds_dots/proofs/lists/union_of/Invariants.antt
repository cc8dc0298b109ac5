use Rattle.std.proofs.Common.{◌≡◌, ◌+◌, ◌++◌, length}
use Rattle.rds_dots.specs.Merged.{merge_of}
use Rattle.rds_dots.proofs.lists.union_of.Given as goal

-- what was drawn so far, and what is left to be drawn
abbrev pub invariant-merging : goal.invariant-merging
invariant-merging l = l.dots.items ++ merge_of l.left l.right ≡ merge_of l.fn.left l.fn.right

abbrev pub decreases-merging : goal.decreases-merging
decreases-merging l = length l.left + length l.right
