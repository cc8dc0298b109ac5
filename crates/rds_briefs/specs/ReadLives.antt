-- What reading the lives of dots does to a set.
use Rattle.std.specs.Prelude.{◌≡◌, ◌==◌, ℕ, ◌+◌, Bool, ◌&&◌, ◌||◌, nat_le, nat_lt}
use Rattle.std.specs.FinSet as set
use Rattle.rds_dots.specs.declared.dot.Dot.{Dot}
use Rattle.rds_dots.specs.Dots.{Dots}
use Rattle.rds_briefs.specs.Lives.{Lives}

-- whether the dot is one of k of a replica from p on
abbrev pub is_in_stretch : ℕ → ℕ → ℕ → Dot → Bool
is_in_stretch replica p k d = (d.replica == replica) && nat_le p d.seq && nat_lt d.seq (p + k)

-- the live ones of k dots of a replica from p on came to the set, and no others
abbrev pub HasLives : Lives → ℕ → ℕ → ℕ → Dots → Dots → Type 0
HasLives f replica p k old new =
    (d : Dot) → set.contains new d ≡ (set.contains old d || (is_in_stretch replica p k d && f d.seq))
