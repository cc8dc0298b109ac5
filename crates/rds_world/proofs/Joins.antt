-- The join of a set of states, coordinate by coordinate.
use Rattle.std.proofs.Common.{◌≡◌, ℕ, Bool, true, ◌||◌, max, refl, sym, ◌∙◌, subst, inl, inr, ◌⊎◌, arith, ◌==◌, Option}
use Rattle.std.proofs.Common.{Some, None}
use Rattle.std.proofs.lemmas.Bool.Decides.{nat_tests}
use Rattle.rds_dots.specs.declared.dot.Dot.{Dot}
use Rattle.rds_counts.specs.Place.{Place}
use Rattle.rds_life.specs.Life.{Life, Live, Dead, IsNoLater, join_life}
use Rattle.rds_state.specs.Coordinates.{Coordinates, AtMost, AreCompatible, join}
use Rattle.rds_state.proofs.JoinLaws.{reflexive, transitive, antisymmetric, above_left, above_right}
use Rattle.rds_world.specs.World.{empty}
use Rattle.rds_world.specs.Held.{none, in_one_of}
use Rattle.rds_world.specs.Updates.{IsJoinOf}

-- The state is above each of the set, and at each coordinate it is unseen or 0, or what one of them has.
pub record IsGathered (E : ℕ → Coordinates) (S : ℕ → Bool) (a : Coordinates) : Type 0 where
  pub above : (u : ℕ) → S u ≡ true → AtMost (E u) a
  pub lives : (d : Dot) → (a.life d ≡ None) ⊎ ((u : ℕ) × (S u ≡ true) × ((E u).life d ≡ a.life d))
  pub numbers : (q : Place) → (a.number q ≡ 0) ⊎ ((u : ℕ) × (S u ≡ true) × ((E u).number q ≡ a.number q))

-- it is below each state that is above them all
pub gathered_below : (E : ℕ → Coordinates) (S : ℕ → Bool) (a b : Coordinates) → IsGathered E S a → ((u : ℕ) → S u ≡ true → AtMost (E u) b) → AtMost a b
gathered_below E S a b j h = record {
  lives = λ d. elim (j.lives d) [
    | inl u ↦ subst (λ x. IsNoLater x (b.life d)) (sym u) tt
    | inr x ↦ subst (λ l. IsNoLater l (b.life d)) x.2 ((h x.0 x.1).lives d)
  ];
  numbers = λ q. elim (j.numbers q) [
    | inl u ↦ omega (arith, u)
    | inr x ↦ omega (arith, x.2, (h x.0 x.1).numbers q)
  ];
}

pub gathered_is_join : (E : ℕ → Coordinates) (S : ℕ → Bool) (a : Coordinates) → IsGathered E S a → IsJoinOf E S a
gathered_is_join E S a j = record { above = j.above; least = λ b h. gathered_below E S a b j h }

pub gathered_smaller : (E : ℕ → Coordinates) (S U : ℕ → Bool) (a b : Coordinates) → IsGathered E S a → IsGathered E U b → ((u : ℕ) → S u ≡ true → U u ≡ true) → AtMost a b
gathered_smaller E S U a b j k h = gathered_below E S a b j (λ u s. k.above u (h u s))

-- there is one
pub gathered_one : (E : ℕ → Coordinates) (S : ℕ → Bool) (a b : Coordinates) → IsGathered E S a → IsGathered E S b → a ≡ b
gathered_one E S a b j k = antisymmetric a b (gathered_smaller E S S a b j k (λ u s. s)) (gathered_smaller E S S b a k j (λ u s. s))

pub gathered_none : (E : ℕ → Coordinates) → IsGathered E none empty
gathered_none E = record { above = λ u s. cc; lives = λ d. inl refl; numbers = λ q. inl refl }

is_same : (i n : ℕ) → (i == n) ≡ true → i ≡ n
is_same i n h = grind (arith, nat_tests)

same_is : (n : ℕ) → (n == n) ≡ true
same_is n = grind (arith, nat_tests)

pub gathered_single : (E : ℕ → Coordinates) (n : ℕ) → IsGathered E (λ u. u == n) (E n)
gathered_single E n = record {
  above = λ u s. subst (λ m. AtMost (E u) (E m)) (is_same u n s) (reflexive (E u));
  lives = λ d. inr (n, same_is n, refl);
  numbers = λ q. inr (n, same_is n, refl);
}

pub in_either : (a b : Bool) → (a || b) ≡ true → (a ≡ true) ⊎ (b ≡ true)
in_either a b h = grind arith

pub in_left : (a b : Bool) → a ≡ true → (a || b) ≡ true
in_left a b h = grind arith

pub in_right : (a b : Bool) → b ≡ true → (a || b) ≡ true
in_right a b h = grind arith

-- the join of two lives is one of them
join_is : (a b : Option Life) → (join_life a b ≡ a) ⊎ (join_life a b ≡ b)
join_is None b = inr refl
join_is (Some (Live e)) None = inl refl
join_is (Some (Live e)) (Some (Live f)) = inl refl
join_is (Some (Live e)) (Some Dead) = inr refl
join_is (Some Dead) b = inl refl

max_is : (a b : ℕ) → (max a b ≡ a) ⊎ (max a b ≡ b)
max_is a b = grind arith

-- what one of two sets gathers at a place, the greater set does too
gathered_in : {A : Type 0} (at : ℕ → A) (S V : ℕ → Bool) (none here joined : A) → ((u : ℕ) → S u ≡ true → V u ≡ true) → joined ≡ here → (here ≡ none) ⊎ ((u : ℕ) × (S u ≡ true) × (at u ≡ here)) → (joined ≡ none) ⊎ ((u : ℕ) × (V u ≡ true) × (at u ≡ joined))
gathered_in at S V none here joined within is gathered = elim gathered [
  | inl u ↦ inl (is ∙ u)
  | inr x ↦ inr (x.0, within x.0 x.1, x.2 ∙ sym is)
]

module _ (E : ℕ → Coordinates) (S U : ℕ → Bool) (a b : Coordinates) (j : IsGathered E S a) (k : IsGathered E U b) where
  abbrev LifeGathered : Dot → Type 0
  LifeGathered d = (join_life (a.life d) (b.life d) ≡ None) ⊎ ((u : ℕ) × (in_one_of S U u ≡ true) × ((E u).life d ≡ join_life (a.life d) (b.life d)))

  left_life : (d : Dot) → join_life (a.life d) (b.life d) ≡ a.life d → LifeGathered d
  left_life d h = gathered_in (λ u. (E u).life d) S (in_one_of S U) None (a.life d) (join_life (a.life d) (b.life d)) (λ u. in_left (S u) (U u)) h (j.lives d)

  right_life : (d : Dot) → join_life (a.life d) (b.life d) ≡ b.life d → LifeGathered d
  right_life d h = gathered_in (λ u. (E u).life d) U (in_one_of S U) None (b.life d) (join_life (a.life d) (b.life d)) (λ u. in_right (S u) (U u)) h (k.lives d)

  abbrev NumberGathered : Place → Type 0
  NumberGathered q = (max (a.number q) (b.number q) ≡ 0) ⊎ ((u : ℕ) × (in_one_of S U u ≡ true) × ((E u).number q ≡ max (a.number q) (b.number q)))

  left_number : (q : Place) → max (a.number q) (b.number q) ≡ a.number q → NumberGathered q
  left_number q h = gathered_in (λ u. (E u).number q) S (in_one_of S U) 0 (a.number q) (max (a.number q) (b.number q)) (λ u. in_left (S u) (U u)) h (j.numbers q)

  right_number : (q : Place) → max (a.number q) (b.number q) ≡ b.number q → NumberGathered q
  right_number q h = gathered_in (λ u. (E u).number q) U (in_one_of S U) 0 (b.number q) (max (a.number q) (b.number q)) (λ u. in_right (S u) (U u)) h (k.numbers q)

  -- of two sets together
  pub gathered_both : AreCompatible a b → IsGathered E (in_one_of S U) (join a b)
  gathered_both h = record {
    above = λ u s. elim (in_either (S u) (U u) s) [
      | inl p ↦ transitive _ _ _ (j.above u p) (above_left a b)
      | inr p ↦ transitive _ _ _ (k.above u p) (above_right a b h)
    ];
    lives = λ d. elim (join_is (a.life d) (b.life d)) [ inl p ↦ left_life d p | inr p ↦ right_life d p ];
    numbers = λ q. elim (max_is (a.number q) (b.number q)) [ inl p ↦ left_number q p | inr p ↦ right_number q p ];
  }
