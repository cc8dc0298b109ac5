-- A list without what repeats the one before it.
use Rattle.std.specs.Prelude.{Bool, false, List, [], ◌∷◌, Option, Some, None, if◌then◌else◌}
use Rattle.std.specs.Ordering.{eq_by_cmp}
use Rattle.std.specs.declared.cmp.Ordering.{Ordering}

-- whether the value is the last one
abbrev pub is_last : {K : Type 0} → (K → K → Ordering) → Option K → K → Bool
is_last R None x = false
is_last R (Some last) x = eq_by_cmp R last x

-- the values, without one that repeats the last
abbrev pub distinct : {K : Type 0} → (K → K → Ordering) → Option K → List K → List K
distinct R last [] = []
distinct R last (x ∷ xs) = if is_last R last x then distinct R last xs else x ∷ distinct R (Some x) xs
