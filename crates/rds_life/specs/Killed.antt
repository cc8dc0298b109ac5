-- Lives of which some live dots have died.
use Rattle.std.specs.Prelude.{Bool, cond, not, ◌&&◌, ◌==◌, Option, Some, None}
use Rattle.std.specs.Ordering.{eq_by_cmp}
use Rattle.rds_names.specs.declared.entry.Entry.{Entry}
use Rattle.rds_dots.specs.declared.dot.Dot.{Dot}
use Rattle.rds_dots.specs.Dots.{dot_cmp}
use Rattle.rds_life.specs.Life.{Life, Live, Dead}

-- a live dot that passes the test is dead, and any other life stays
abbrev pub killed_by : (Dot → Entry → Bool) → Dot → Option Life → Option Life
killed_by test d None = None
killed_by test d (Some (Live e)) = cond (test d e) (Some Dead) (Some (Live e))
killed_by test d (Some Dead) = Some Dead

-- the dot itself, whatever its entry
abbrev pub is_the : Dot → Dot → Entry → Bool
is_the dot d e = eq_by_cmp dot_cmp dot d

-- whether two dots are one
abbrev pub is_same : Dot → Dot → Bool
is_same a b = (a.replica == b.replica) && (a.seq == b.seq)

-- what passes the test, but a dot that is to stay
abbrev pub but_for : Option Dot → (Dot → Entry → Bool) → Dot → Entry → Bool
but_for None test d e = test d e
but_for (Some stays) test d e = not (is_same stays d) && test d e
