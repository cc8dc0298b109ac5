-- The test of a replica holds of replicas, and of them alone.
use Rattle.std.proofs.Common.{◌≡◌, ℕ, ◌<◌, Bool, true, false, ◌||◌, List, [], ◌∷◌, length, Option, Some, None, Result, Ok, refl, sym, ap, ◌∙◌, inr, arith}
use Rattle.std.specs.Prelude.{nat_lt, is_some}
use mathlib.Core.Bool.{false≢true}
use Rattle.std.specs.List.{list_all, list_any}
use Rattle.std.specs.Ordering.{eq_by_cmp}
use Rattle.std.specs.declared.cmp.Ordering.{Ordering}
use Rattle.std.specs.Cmp.{IsTotalOrder, eq_by_cmp_equiv}
use Rattle.std.specs.FinMap as map
use Rattle.std.proofs.lemmas.Bool.{lt-ltb, ltb-true}
use Rattle.rds_names.specs.declared.fault.Fault.{Fault}
use Rattle.rds_names.specs.declared.fault.Fault.TheVariants.{Bad}
use Rattle.rds_names.specs.Conditions.{and_true, and_left, and_right, equal_of}
use Rattle.rds_dots.specs.declared.dot.Dot.{Dot}
use Rattle.rds_dots.specs.Dots.{dot_cmp}
use Rattle.rds_dots.specs.Order.{dots_total, dots_exact}
use Rattle.rds_counts.specs.Place.{Place, place_cmp}
use Rattle.rds_counts.specs.PlaceOrder.{place_total, place_exact}
use Rattle.rds_counts.specs.Counted.{Above, number_from}
use Rattle.rds_state.specs.Value.{StateValue, coordinates}
use Rattle.rds_state.specs.Fits.{Fits, ReplicaValue, IsReplica}
use Rattle.rds_codec.specs.FormatTexts.{Snapshot}
use Rattle.rds_codec.specs.declared.formats.Format.{Format}
use Rattle.rds_feeds.specs.Parts.{RefusesValue}
use Rattle.rds_codec.specs.Openings.{Opening, replica_by, snapshot_of_parts}
use Rattle.rds_codec.specs.Replicas.{is_within, is_replica}
use Rattle.rds_codec.proofs.Parts.{bad_is_not_cut}

or_left : (a b : Bool) → a ≡ true → (a || b) ≡ true
or_left true b h = refl
or_left false b h = absurd (false≢true h)

or_right : (a b : Bool) → b ≡ true → (a || b) ≡ true
or_right true b h = refl
or_right false b h = h

-- a test that the keys of a map pass
module _ {K : Type 0} (R : K → K → Ordering) (total : IsTotalOrder R) (exact : map.IsAntisymmetric R) (p : K → Bool) where
  one_passes : (ks : List K) → list_all p ks ≡ true → (q : K) → list_any (eq_by_cmp R q) ks ≡ true → p q ≡ true
  one_passes [] all q has = absurd (false≢true has)
  one_passes (k ∷ ks) all q has = elim (eq_by_cmp R q k) as (λ b. eq_by_cmp R q k ≡ b → (b || list_any (eq_by_cmp R q) ks) ≡ true → p q ≡ true) [
    | true ↦ λ is more. ap p (exact q k (equal_of _ is)) ∙ and_left (p k) _ all
    | false ↦ λ is more. one_passes ks (and_right (p k) _ all) q more
  ] refl has

  all_pass : (ks : List K) → ((q : K) → list_any (eq_by_cmp R q) ks ≡ true → p q ≡ true) → list_all p ks ≡ true
  all_pass [] each = refl
  all_pass (k ∷ ks) each =
      and_true _ _ (each k (or_left (eq_by_cmp R k k) _ ((eq_by_cmp_equiv total).refl k))) (all_pass ks (λ q has. each q (or_right (eq_by_cmp R q k) _ has)))

  pub key_passes : {X : Type 0} (m : map.FinMap R X) → list_all p (map.keys m) ≡ true → (q : K) → is_some (map.get m q) ≡ true → p q ≡ true
  key_passes m all q has = one_passes (map.keys m) all q (sym (map.contains_key-keys m q) ∙ has)

  pub keys_pass : {X : Type 0} (m : map.FinMap R X) → ((q : K) → is_some (map.get m q) ≡ true → p q ≡ true) → list_all p (map.keys m) ≡ true
  keys_pass m each = all_pass (map.keys m) (λ q has. each q (map.contains_key-keys m q ∙ has))

is_there : (o : Option Above) → 0 < number_from o → is_some o ≡ true
is_there None h = absurd (omega (arith, h))
is_there (Some a) h = refl

is_counted : (o : Option Above) → is_some o ≡ true → 0 < number_from o
is_counted None h = absurd (false≢true h)
is_counted (Some a) h = omega arith

module _ (replicas : ℕ) where
  abbrev dot_below : Dot → Bool
  dot_below d = nat_lt d.replica replicas

  abbrev place_below : Place → Bool
  place_below q = nat_lt q.replica replicas

  within_fits : (v : StateValue) → is_within replicas v ≡ true → Fits replicas (coordinates v)
  within_fits v all = record {
    dots = λ d has. ltb-true d.replica replicas (key_passes dot_cmp dots_total dots_exact dot_below v.lives (and_left (list_all dot_below (map.keys v.lives)) _ all) d has);
    numbers = λ q has. ltb-true q.replica replicas
        (key_passes place_cmp place_total place_exact place_below v.counts (and_right (list_all dot_below (map.keys v.lives)) _ all) q (is_there (map.get v.counts q) has));
  }

  fits_within : (v : StateValue) → Fits replicas (coordinates v) → is_within replicas v ≡ true
  fits_within v fits =
      and_true _ _ (keys_pass dot_cmp dots_total dots_exact dot_below v.lives (λ d has. lt-ltb d.replica replicas (fits.dots d has)))
      (keys_pass place_cmp place_total place_exact place_below v.counts (λ q has. lt-ltb q.replica replicas (fits.numbers q (is_counted (map.get v.counts q) has))))

is_one : (v : ReplicaValue) → IsReplica v → is_replica v ≡ true
unfolding is_replica
is_one v is = and_true _ _ (lt-ltb v.own (length v.roster.names) is.own) (fits_within (length v.roster.names) v.state is.fits)

one_is : (v : ReplicaValue) → is_replica v ≡ true → IsReplica v
unfolding is_replica
one_is v test = record {
  own = ltb-true v.own (length v.roster.names) (and_left (nat_lt v.own (length v.roster.names)) _ test);
  fits = within_fits (length v.roster.names) v.state (and_right (nat_lt v.own (length v.roster.names)) _ test);
}

is_none : (v : ReplicaValue) → (IsReplica v → ⊥) → (b : Bool) → is_replica v ≡ b → is_replica v ≡ false
is_none v other true e = absurd (other (one_is v e))
is_none v other false e = e

-- ---- what is made of an opening and a state

pub made_replica : (p : Opening × StateValue) → IsReplica (replica_by p) → snapshot_of_parts p ≡ Ok (p.0.0, replica_by p)
made_replica p is = let test : is_replica (replica_by p) ≡ true = is_one (replica_by p) is in rw test refl

abbrev beside : Format → ReplicaValue → Result Snapshot Fault
beside f v = Ok (f, v)

pub made_of_parts : (p : Opening × StateValue) (v : ReplicaValue) → IsReplica (replica_by p) → (v.roster ≡ p.0.1.0) × ((v.own ≡ p.0.1.1) × (v.state ≡ p.1)) → snapshot_of_parts p ≡ Ok (p.0.0, v)
made_of_parts p v is same = made_replica p is ∙ (λ i. beside p.0.0 (record { roster = sym same.0 i; own = sym same.1.0 i; state = sym same.1.1 i }))

pub no_replica : (p : Opening × StateValue) → (IsReplica (replica_by p) → ⊥) → RefusesValue (snapshot_of_parts p) Bad
no_replica p other =
    let test : is_replica (replica_by p) ≡ false = is_none (replica_by p) other (is_replica (replica_by p)) refl in
    inr (bad_is_not_cut, rw test refl)
