use Rattle.std.proofs.Common.{◌≡◌, ◌+◌, ◌++◌, length, true}
use Rattle.rds_dots.specs.Ascending.{ascends}
use Rattle.rds_dots.specs.Listed.{without}
use Rattle.rds_dots.proofs.lists.difference_of.Given as goal

-- what was taken so far, and what is left to be taken
abbrev pub invariant-taking : goal.invariant-taking
invariant-taking l = record {
  whole : l.dots.items ++ without l.left l.right ≡ without l.fn.left l.fn.right;
  left : ascends l.left ≡ true;
  right : ascends l.right ≡ true;
}

abbrev pub decreases-taking : goal.decreases-taking
decreases-taking l = length l.left + length l.right
