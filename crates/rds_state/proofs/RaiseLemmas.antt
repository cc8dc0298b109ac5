-- What a raise leaves, and when it is refused.
use Rattle.std.proofs.Common.{◌≡◌, ℕ, zero, suc, ◌+◌, ◌<◌, Bool, true, false, cond, Result, Ok, Err, OnOk, refl, sym}
use Rattle.std.proofs.Common.{◌∙◌, ap, subst, arith}
use Rattle.std.specs.Prelude.{◌≢◌, IsOk}
use mathlib.Core.Bool.{false≢true}
use Rattle.std.specs.Ordering.{eq_by_cmp, is_eq}
use Rattle.std.specs.Cmp.{tied_itself}
use Rattle.std.proofs.lemmas.Bool.Decides.{nat_tests}
use Rattle.rds_names.specs.declared.fault.Fault.{Fault}
use Rattle.rds_names.specs.declared.fault.Fault.TheVariants.{Memory}
use Rattle.rds_counts.specs.Place.{Place, place_cmp}
use Rattle.rds_counts.specs.PlaceOrder.{place_total, place_exact}
use Rattle.rds_counts.specs.Counted.{Counted, number}
use Rattle.rds_names.specs.Conditions.{equal_of}
use Rattle.rds_state.specs.Chosen.{AreRaised}
use Rattle.rds_state.specs.Edit.{makes_pair}

at_place : (a b : Counted) (at : Place) (by : ℕ) → number b at ≡ number a at + by → ((q : Place) → ¬ (q ≡ at) → number b q ≡ number a q) → (q : Place) (t : Bool) → eq_by_cmp place_cmp q at ≡ t → number b q ≡ cond t (number a q + by) (number a q)
at_place a b at by raised others q true is =
    let same : q ≡ at = place_exact q at (equal_of _ is) in
    ap (number b) same ∙ raised ∙ sym (ap (λ x. number a x + by) same)
at_place a b at by raised others q false is = others q (λ same. false≢true (sym is ∙ ap (λ x. eq_by_cmp place_cmp x at) same ∙ ap is_eq (tied_itself place_total at)))

pub are_raised : (a b : Counted) (at : Place) (by : ℕ) (r : Result (Unit {0}) Fault) → OnOk r (number b at ≡ number a at + by) → OnOk r ((q : Place) → ¬ (q ≡ at) → number b q ≡ number a q) → OnOk r (AreRaised a at by b)
are_raised a b at by (Ok x) raised others = λ q. at_place a b at by raised others q (eq_by_cmp place_cmp q at) refl
are_raised a b at by (Err f) raised others = tt

-- a raise takes no memory, but where it makes a pair
pub raise_has_room : (p n by : ℕ) (r : Result (Unit {0}) Fault) → (by ≡ 0 → IsOk r) → (0 < p → r ≢ Err Memory) → (0 < n → r ≢ Err Memory) → makes_pair p n by ≡ false → r ≢ Err Memory
raise_has_room p n zero r nothing there_p there_n no_room is = let ok = subst (λ (x : Result (Unit {0}) Fault). IsOk x) is (nothing refl) in absurd (cc ok)
raise_has_room zero zero (suc by) r nothing there_p there_n no_room is = absurd (false≢true (sym no_room ∙ makes by))
  where
    makes : (n : ℕ) → makes_pair 0 0 (suc n) ≡ true
    makes n = grind (arith, nat_tests)
raise_has_room zero (suc n) (suc by) r nothing there_p there_n no_room is = there_n (omega arith) is
raise_has_room (suc p) n (suc by) r nothing there_p there_n no_room is = there_p (omega arith) is
