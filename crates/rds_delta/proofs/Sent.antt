-- The sets of a delta.
use Rattle.std.proofs.Common.{◌≡◌, not, ◌&&◌, ◌||◌}
use Rattle.std.specs.Prelude.{is_some}
use Rattle.std.specs.FinMap as map
use Rattle.std.specs.FinSet as set
use Rattle.rds_dots.specs.declared.dot.Dot.{Dot}
use Rattle.rds_dots.specs.Dots.{Dots}
use Rattle.rds_dots.specs.Order.{dots_total}
use Rattle.rds_life.specs.Life.{Lived, seen_of}
use Rattle.rds_life.proofs.Views.{contains-seen_of}

pub in_union : (s t : Dots) (d : Dot) → set.contains (set.union s t) d ≡ (set.contains s d || set.contains t d)
in_union s t d = set.contains-union dots_total s t d

pub in_difference : (s t : Dots) (d : Dot) → set.contains (set.difference s t) d ≡ (set.contains s d && not (set.contains t d))
in_difference s t d = set.contains-difference dots_total s t d

pub in_seen : (v : Lived) (d : Dot) → set.contains (seen_of v) d ≡ is_some (map.get v d)
in_seen v d = contains-seen_of v d

pub ruleset sets = (in_union, in_difference, in_seen)
