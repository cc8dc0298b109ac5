use Rattle.std.proofs.Common.{◌≡◌, ◌+◌, ◌-◌, ◌≤◌, length, drop}
use Rattle.rds_packed.specs.FrontTexts.{shared}
use Rattle.rds_packed.proofs.fronts.shared.Given as goal

-- so many are shared, and what is shared after them
abbrev pub invariant-sharing : goal.invariant-sharing
invariant-sharing l =
    ((l.count ≤ length l.before) × (l.count ≤ length l.key)) × (shared l.before l.key ≡ l.count + shared (drop l.count l.before) (drop l.count l.key))

abbrev pub decreases-sharing : goal.decreases-sharing
decreases-sharing l = length l.key - l.count
