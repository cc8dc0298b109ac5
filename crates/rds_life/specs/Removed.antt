-- Rows without those of a dot.
use Rattle.std.specs.Prelude.{not, List}
use Rattle.std.specs.List.{filter}
use Rattle.std.specs.Ordering.{eq_by_cmp}
use Rattle.rds_dots.specs.declared.dot.Dot.{Dot}
use Rattle.rds_dots.specs.Dots.{dot_cmp}

-- all rows but the dot's
abbrev pub rows_without : {X : Type 0} → Dot → List (Dot × X) → List (Dot × X)
rows_without d rows = filter (λ r. not (eq_by_cmp dot_cmp d r.0)) rows
