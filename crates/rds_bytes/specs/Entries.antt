-- An entry by its parts.
use Rattle.std.specs.Prelude.{ℕ, List, Option}
use Rattle.rds_names.specs.Entry.{entry_from_parts}
use Rattle.rds_names.specs.declared.entry.Entry.{Entry}
use Rattle.rds_names.specs.declared.entry.Kind.{Kind}
use Rattle.rds_names.specs.declared.scalar.Scalar.{Scalar}

-- a path, a kind and a value
abbrev pub EntryTuple : Type 0
EntryTuple = List (List ℕ) × (Kind × Scalar)

abbrev pub tuple_of : Entry → EntryTuple
tuple_of e = (e.path, (e.kind, e.value))

-- the entry, where the path has one key at least and 8 at most
abbrev pub entry_of_tuple : EntryTuple → Option Entry
entry_of_tuple p = entry_from_parts p.0 p.1.0 p.1.1
