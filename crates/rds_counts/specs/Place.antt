-- Where a number stands: a key, a replica, and P or N.
use Rattle.std.specs.Prelude.{ℕ, List}
use Rattle.std.specs.Ordering.{nat_cmp, ordering_then}
use Rattle.std.specs.Cmp.Lexicographic.{slice_cmp}
use Rattle.std.specs.declared.cmp.Ordering.{Ordering}
use Rattle.rds_counts.specs.declared.row.Which.{Which}
use Rattle.rds_counts.specs.declared.row.Which.TheVariants.{P, N}

pub record Place : Type 0 where
  pub key : List ℕ
  pub replica : ℕ
  pub which : Which

-- P before N
abbrev pub index_of : Which → ℕ
index_of P = 0
index_of N = 1

-- by key, then replica, then which
abbrev pub place_cmp : Place → Place → Ordering
place_cmp a b = ordering_then (slice_cmp nat_cmp a.key b.key) (ordering_then (nat_cmp a.replica b.replica) (nat_cmp (index_of a.which) (index_of b.which)))
