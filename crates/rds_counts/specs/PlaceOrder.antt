-- The order of places.
use Rattle.std.proofs.Common.{ℕ, List, refl, ap}
use Rattle.std.specs.Cmp.{IsTotalOrder, nat_cmp_total}
use Rattle.std.specs.Cmp.Lexicographic.{slice_cmp, nat_list_cmp_total}
use Rattle.std.specs.Ordering.{nat_cmp, ordering_then}
use Rattle.std.specs.declared.cmp.Ordering.{Ordering}
use Rattle.std.specs.FinSet.{IsAntisymmetric}
use Rattle.std.proofs.lemmas.Cmp.{on_total, then_total}
use Rattle.std.proofs.lemmas.Map.Lookups.{exact_pairs, exact_unsigned, exact_bytes}
use Rattle.rds_counts.specs.declared.row.Which.{Which}
use Rattle.rds_counts.specs.declared.row.Which.TheVariants.{P, N}
use Rattle.rds_counts.specs.Place.{Place, place_cmp, index_of}

pub place_total : IsTotalOrder place_cmp
place_total = then_total (on_total (λ (q : Place). q.key) nat_list_cmp_total) (then_total (on_total (λ (q : Place). q.replica) nat_cmp_total) (on_total (λ (q : Place). index_of q.which) nat_cmp_total))

which_cmp : Which → Which → Ordering
which_cmp a b = nat_cmp (index_of a) (index_of b)

exact_which : IsAntisymmetric which_cmp
unfolding which_cmp
exact_which P P e = refl
exact_which P N e = cc e
exact_which N P e = cc e
exact_which N N e = refl

-- places that compare alike are one
pub place_exact : IsAntisymmetric place_cmp
unfolding which_cmp
place_exact a b h = ap (λ (p : List ℕ × (ℕ × Which)). let q : Place = record { key = p.0; replica = p.1.0; which = p.1.1 } in q)
    (exact_pairs (slice_cmp nat_cmp) (λ (x y : ℕ × Which). ordering_then (nat_cmp x.0 y.0) (which_cmp x.1 y.1)) exact_bytes (exact_pairs nat_cmp which_cmp exact_unsigned exact_which)
    (a.key, (a.replica, a.which)) (b.key, (b.replica, b.which)) h)
