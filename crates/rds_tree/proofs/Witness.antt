-- What some entry of a finite map passes.
use Rattle.std.proofs.Common.{◌≡◌, Bool, true, false, cond, ◌||◌, List, [], ◌∷◌, refl, sym, ◌∙◌, ap}
use Rattle.std.specs.Prelude.{Some, None}
use Rattle.std.specs.List.{list_any}
use Rattle.std.specs.Ordering.{eq_by_cmp, is_eq, is_lt}
use Rattle.std.specs.declared.cmp.Ordering.{Ordering}
use Rattle.std.specs.declared.cmp.Ordering.TheVariants.{Less, Equal, Greater}
use Rattle.std.specs.Cmp.{IsTotalOrder, tied_itself}
use Rattle.std.specs.FinMap as map_of
use Rattle.rds_names.specs.Conditions.{true_of, and_left, and_right, equal_of}

-- two tests that follow from each other are one
pub both_ways : (a b : Bool) → (a ≡ true → b ≡ true) → (b ≡ true → a ≡ true) → a ≡ b
both_ways true b f g = sym (f refl)
both_ways false true f g = g refl
both_ways false false f g = refl

differs : (o : Ordering) → is_lt o ≡ true → is_eq o ≡ false
differs Less h = refl
differs Equal h = absurd (cc)
differs Greater h = absurd (cc)

pub or_right : (a b : Bool) → b ≡ true → (a || b) ≡ true
or_right true b h = refl
or_right false b h = h

pub or_left : (a b : Bool) → a ≡ true → (a || b) ≡ true
or_left true b h = refl
or_left false b h = absurd (cc)

no_value : {X : Type 0} (x : X) → None ≡ Some x → ⊥
no_value x h = cc

module _ {K X : Type 0} {R : K → K → Ordering} (total : IsTotalOrder R) (exact : map_of.IsAntisymmetric R) where
  find_below : (k : K) (es : List (K × X)) → map_of.Entries.below_all R k es ≡ true → map_of.find R k es ≡ None
  find_below k [] all = refl
  find_below k (e ∷ es) all = ap (λ b. cond b (Some e.1) (map_of.find R k es)) (differs _ (and_left (is_lt (R k e.0)) _ all)) ∙ find_below k es (and_right (is_lt (R k e.0)) _ all)

  -- an entry that passes
  abbrev Passing : (K × X → Bool) → List (K × X) → Type 0
  Passing t es = (k : K) × ((x : X) × ((map_of.find R k es ≡ Some x) × (t (k, x) ≡ true)))

  later : (t : K × X → Bool) (e : K × X) (es : List (K × X)) → map_of.Entries.below_all R e.0 es ≡ true → Passing t es → Passing t (e ∷ es)
  later t e es below p = (
    p.0,
    (
      p.1.0,
      (
        elim (eq_by_cmp R p.0 e.0) as (λ b. eq_by_cmp R p.0 e.0 ≡ b → cond b (Some e.1) (map_of.find R p.0 es) ≡ Some p.1.0) [
          | true ↦ λ is. absurd (no_value p.1.0 (sym (find_below e.0 es below) ∙ ap (λ q. map_of.find R q es) (sym (exact p.0 e.0 (equal_of _ is))) ∙ p.1.1.0))
          | false ↦ λ is. p.1.1.0
        ] refl,
        p.1.1.1,
      ),
    ),
  )

  passing : (t : K × X → Bool) (es : List (K × X)) → map_of.is_sorted R es ≡ true → list_any t es ≡ true → Passing t es
  passing t [] rise h = absurd (cc)
  passing t (e ∷ es) rise h =
      elim (t e) as (λ b. t e ≡ b → (b || list_any t es) ≡ true → Passing t (e ∷ es)) [
        | true ↦ λ is _. (e.0, (e.1, (ap (λ o. cond (is_eq o) (Some e.1) (map_of.find R e.0 es)) (tied_itself total e.0), is)))
        | false ↦ λ is g. later t e es (and_left (map_of.Entries.below_all R e.0 es) _ rise) (passing t es (and_right (map_of.Entries.below_all R e.0 es) _ rise) g)
      ] refl h

  same_some : (a b : X) → Some a ≡ Some b → a ≡ b
  same_some a b h = cc

  found_passes : (t : K × X → Bool) (k : K) (x : X) (es : List (K × X)) → map_of.find R k es ≡ Some x → t (k, x) ≡ true → list_any t es ≡ true
  found_passes t k x [] found h = absurd (cc)
  found_passes t k x (e ∷ es) found h =
      elim (eq_by_cmp R k e.0) as (λ b. eq_by_cmp R k e.0 ≡ b → cond b (Some e.1) (map_of.find R k es) ≡ Some x → (t e || list_any t es) ≡ true) [
        | true ↦ λ is g. or_left (t e) _ (ap (λ q. t (q, e.1)) (sym (exact k e.0 (equal_of _ is))) ∙ ap (λ y. t (k, y)) (same_some e.1 x g) ∙ h)
        | false ↦ λ is g. or_right (t e) _ (found_passes t k x es g h)
      ] refl found

  pub entry_passes : (t : K × X → Bool) (m : map_of.FinMap R X) → list_any t (map_of.entries m) ≡ true → (k : K) × ((x : X) × ((map_of.get m k ≡ Some x) × (t (k, x) ≡ true)))
  entry_passes t m h = let p = passing t (map_of.entries m) (rising m) h in (p.0, (p.1.0, (map_of.get-entries m p.0 ∙ p.1.1.0, p.1.1.1)))
    where
      rising : (m : map_of.FinMap R X) → map_of.is_sorted R (map_of.entries m) ≡ true
      rising m = true_of _ (map_of.entries_sorted m)

  pub passes_entry : (t : K × X → Bool) (m : map_of.FinMap R X) (k : K) (x : X) → map_of.get m k ≡ Some x → t (k, x) ≡ true → list_any t (map_of.entries m) ≡ true
  passes_entry t m k x got h = found_passes t k x (map_of.entries m) (sym (map_of.get-entries m k) ∙ got) h
