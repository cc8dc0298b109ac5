-- The document of a state: its live entries, and what its counters stand at.
use Rattle.std.specs.Prelude.{ℕ, ℤ, List, map as each}
use Rattle.std.specs.FinMap as map
use Rattle.std.specs.Ordering.{nat_cmp}
use Rattle.std.specs.Cmp.Lexicographic.{slice_cmp}
use Rattle.std.specs.declared.cmp.Ordering.{Ordering}
use Rattle.rds_names.specs.declared.scalar.Scalar.{Scalar}
use Rattle.rds_names.specs.declared.entry.Kind.{Kind}
use Rattle.rds_names.specs.declared.entry.Entry.{Entry}
use Rattle.rds_names.specs.Key.{key_cmp}
use Rattle.rds_dots.specs.declared.dot.Dot.{Dot}
use Rattle.rds_life.specs.Life.{live_rows}
use Rattle.rds_counts.specs.Counted.{Counted}
use Rattle.rds_counts.specs.Value.{value_of}
use Rattle.rds_state.specs.Value.{StateValue}
use Rattle.rds_tree.specs.Once.{once}

-- an entry, seen from a path above it: the keys that are left, its kind and its value
pub record Placed : Type 0 where
  pub path : List (List ℕ)
  pub kind : Kind
  pub value : Scalar

pub record Document : Type 0 where
  pub entries : List Placed
  pub sums : List (List ℕ × ℤ)

-- each key once, ascending
abbrev pub keys_once : List (List ℕ) → List (List ℕ)
keys_once ks = once key_cmp ks

-- a live dot's entry, seen from the root
abbrev pub entry_placed : Dot × Entry → Placed
entry_placed r = record { path = r.1.path; kind = r.1.kind; value = r.1.value }

-- the entries of live dots
abbrev pub entries_in : List (Dot × Entry) → List Placed
entries_in rows = each entry_placed rows

-- the keys of which some number is above 0
abbrev pub counted_keys : Counted → List (List ℕ)
counted_keys m = keys_once (each (λ e. e.0.key) (map.entries m))

-- what each counter stands at of which some number is above 0
abbrev pub sums_of : Counted → List (List ℕ × ℤ)
sums_of m = each (λ k. (k, value_of m k)) (counted_keys m)

abbrev pub document : StateValue → Document
document v = record { entries = entries_in (live_rows v.lives); sums = sums_of v.counts }
