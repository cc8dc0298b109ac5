-- The dead dots of lives, where they are kept.
use Rattle.std.specs.Prelude.{◌≡◌, Bool, ◌||◌, List, Option, Some, None}
use Rattle.std.specs.FinMap as map
use Rattle.std.specs.FinSet as set
use Rattle.rds_names.specs.declared.entry.Entry.{Entry}
use Rattle.rds_dots.specs.declared.dot.Dot.{Dot}
use Rattle.rds_dots.specs.Dots.{Dots}
use Rattle.rds_life.specs.Life.{Lived, AreRows, lives_of, is_dead}

-- where there is a set, it has the dead dots and no others
abbrev pub KnowsDead : Lived → Option Dots → Type 0
KnowsDead v None = Unit {0}
KnowsDead v (Some dead) = (d : Dot) → set.contains dead d ≡ is_dead (map.get v d)

-- where there is a set, it is an earlier one with the dots that pass
abbrev pub HasMore : (Dot → Bool) → Option Dots → Option Dots → Type 0
HasMore more old None = Unit {0}
HasMore more None (Some new) = ⊥
HasMore more (Some old) (Some new) = (d : Dot) → set.contains new d ≡ (more d || set.contains old d)

-- the rows fit the seen dots, and the dead dots are known, if they are kept
pub record AreKept (seen : Dots) (live : List (Dot × Entry)) (known : Option Dots) : Type 0 where
  pub rows : AreRows seen live
  pub dead : KnowsDead (lives_of seen live) known
