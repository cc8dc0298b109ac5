-- What stands at a key of a view, as JSON.
use Rattle.std.specs.Prelude.{ℕ, ℤ, List, [], ◌∷◌, codes, Option, Some, None, if◌then◌else◌}
use Rattle.std.specs.Str.{bytes_eq}
use Rattle.serde_json.specs.Data.{Data, null, number, object, no_members, put}
use Rattle.serde_json.specs.Find.{of_integer}
use Rattle.rds_names.specs.declared.scalar.Scalar.{Scalar}
use Rattle.rds_tree.specs.Shown.{Shown, shows}
use Rattle.rds_json.specs.Show.{scalars_data}

-- the values under a key, none where it has none
abbrev pub values_at : List ℕ → List (List ℕ × List Scalar) → List Scalar
values_at key [] = []
values_at key (r ∷ rows) = if bytes_eq r.0 key then r.1 else values_at key rows

-- what the counter of a key stands at
abbrev pub sum_standing : List ℕ → List (List ℕ × ℤ) → Option ℤ
sum_standing key [] = None
sum_standing key (r ∷ rows) = if bytes_eq r.0 key then Some r.1 else sum_standing key rows

-- at the root alone there are counters
abbrev pub counter_standing : List ℕ → Option (List (List ℕ × ℤ)) → Option ℤ
counter_standing key None = None
counter_standing key (Some sums) = sum_standing key sums

abbrev pub counter_data : Option ℤ → Data
counter_data None = null
counter_data (Some z) = number (of_integer z)

-- the counter, the values of the register and those of the set
abbrev pub standing_data : List ℕ → Shown → Data
standing_data key (shows maps regs sets counters) =
    object (put (codes "set") (scalars_data (values_at key sets))
    (put (codes "reg") (scalars_data (values_at key regs))
    (put (codes "counter") (counter_data (counter_standing key counters)) no_members)))
