-- A list of dots as a set, and the dots of a run in order.
use Rattle.std.specs.Prelude.{ℕ, zero, suc, ◌+◌, ◌-◌, Bool, not, List, [], ◌∷◌}
use Rattle.std.specs.List.{list_any, filter}
use Rattle.std.specs.Ordering.{eq_by_cmp}
use Rattle.rds_dots.specs.declared.dot.Dot.{Dot}
use Rattle.rds_dots.specs.declared.dot.Run.{Run}
use Rattle.rds_dots.specs.Dots.{dot_cmp}

-- whether the list has the dot
abbrev pub lists : List Dot → Dot → Bool
lists ds d = list_any (eq_by_cmp dot_cmp d) ds

-- n dots of a replica from lo on
abbrev pub dots_from : ℕ → ℕ → ℕ → List Dot
dots_from replica lo zero = []
dots_from replica lo (suc n) = record { replica = replica; seq = lo } ∷ dots_from replica (lo + 1) n

-- the dots of a run, in order
abbrev pub dots_of : Run → List Dot
dots_of r = dots_from r.replica r.lo (r.hi + 1 - r.lo)

-- the dots of the first list that the second lacks
abbrev pub without : List Dot → List Dot → List Dot
without ds es = filter (λ d. not (lists es d)) ds
