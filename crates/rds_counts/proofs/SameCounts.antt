-- Counters with the same numbers are equal.
use Rattle.std.proofs.Common.{◌≡◌, refl, ap, arith, Option, Some, None}
use Rattle.std.specs.FinMap as map
use Rattle.rds_counts.specs.Place.{Place}
use Rattle.rds_counts.specs.PlaceOrder.{place_total, place_exact}
use Rattle.rds_counts.specs.Counted.{Above, Counted, number, number_from}

same_above : (x y : Option Above) → number_from x ≡ number_from y → x ≡ y
same_above None None e = refl
same_above None (Some b) e = absurd (omega arith)
same_above (Some a) None e = absurd (omega arith)
same_above (Some a) (Some b) e =
    let k : a.before ≡ b.before = omega arith in
    ap (λ n. let x : Above = record { before = n } in Some x) k

pub same_counts : (a b : Counted) → ((q : Place) → number a q ≡ number b q) → a ≡ b
same_counts a b same = map.same_map place_total place_exact a b (λ q. same_above _ _ (same q))
