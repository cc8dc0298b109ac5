-- The rows of a state that are above a digest.
use Rattle.std.specs.Prelude.{ℕ, Bool, not, ◌||◌, ◌&&◌, Option, is_some, cond, nat_lt, List, [], ◌∷◌}
use Rattle.std.specs.List.{filter}
use Rattle.rds_dots.specs.declared.dot.Dot.{Dot}
use Rattle.rds_life.specs.Life.{Life, is_dead}
use Rattle.rds_counts.specs.declared.row.Which.TheVariants.{P, N}
use Rattle.rds_counts.specs.declared.row.CountRow.{CountRow}
use Rattle.rds_counts.specs.Place.{Place}
use Rattle.rds_counts.specs.Counted.{place}

-- the number where it is above the peer's, and else 0
abbrev pub higher : ℕ → ℕ → ℕ
higher own peer = cond (nat_lt peer own) own 0

abbrev pub higher_row : (Place → ℕ) → CountRow → CountRow
higher_row peer r = record { key = r.key; replica = r.replica; p = higher r.p (peer (place r.key r.replica P)); n = higher r.n (peer (place r.key r.replica N)) }

-- the row, unless both its numbers are 0
abbrev pub kept_row : CountRow → List CountRow → List CountRow
kept_row r rs = cond (nat_lt 0 r.p || nat_lt 0 r.n) (r ∷ rs) rs

-- the numbers that are above the peer's, and 0 in place of the others
abbrev pub higher_rows : (Place → ℕ) → List CountRow → List CountRow
higher_rows peer [] = []
higher_rows peer (r ∷ rs) = kept_row (higher_row peer r) (higher_rows peer rs)

-- the rows whose dots aren't seen there
abbrev pub unseen_rows : {X : Type 0} → (Dot → Bool) → List (Dot × X) → List (Dot × X)
unseen_rows seen rows = filter (λ r. not (seen r.0)) rows

-- a dot that isn't seen there, or that is dead here and live there
abbrev pub is_sent : Option Life → Bool → Bool → Bool
is_sent life seen live = (is_some life && not seen) || (is_dead life && live)
