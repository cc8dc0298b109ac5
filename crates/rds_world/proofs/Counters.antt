-- A counter's numbers in a state are sums over the updates that it holds.
use Rattle.std.proofs.Common.{◌≡◌, ℕ, ◌+◌, ◌≤◌, ◌<◌, suc, zero, Bool, true, cond, List, refl, sym, ap, ◌∙◌, subst, inl}
use Rattle.std.proofs.Common.{inr, ◌⊎◌, arith, ◌==◌, ◌&&◌}
use Rattle.std.specs.Prelude.{pos, ◌-ℤ◌}
use Rattle.std.specs.List.{sum_by, range_with_len}
use Rattle.std.proofs.lemmas.Bool.Decides.{nat_tests}
use Rattle.rds_counts.specs.declared.row.Which.{Which}
use Rattle.rds_counts.specs.declared.row.Which.TheVariants.{P, N}
use Rattle.rds_counts.specs.Place.{Place}
use Rattle.rds_counts.specs.Counted.{place}
use Rattle.rds_state.specs.Coordinates.{Coordinates}
use Rattle.rds_counts.specs.Value.{total_by}
use Rattle.rds_state.specs.Document.{IsCounted, value_in}
use Rattle.rds_world.specs.World.{World}
use Rattle.rds_world.specs.Held.{Update, Holdings, amount, share, ChangesCounter, total_of, counter_value}
use Rattle.rds_world.specs.Coherent.{Store, state_in}
use Rattle.rds_world.specs.Law.{held_in}
use Rattle.rds_world.specs.Updates.{effect_of, ShowsUpdates}
use Rattle.rds_world.proofs.Effects.{effect_number, effect_adds}
use Rattle.rds_world.proofs.Joins.{IsGathered}
use Rattle.rds_world.proofs.Invariant.{Lawful}
use Rattle.rds_world.proofs.Facts.{store_gathered, store_few, store_own, store_closed, shows}
use Rattle.rds_world.proofs.Sums.{sum_below, sum_is, sum_next, sum_nothing, sum_up, sum_longer, sum_add, sum_one}
use Rattle.rds_world.proofs.Sums.{sum_same, sum_swap, sum_within, sum_some, sum_has}

-- the set's updates of one replica
abbrev of_replica : (ℕ → Update) → (ℕ → Bool) → ℕ → ℕ → Bool
of_replica T S s u = S u && (T u).replica == s

-- what is known of one member by its tests
member_share : (a b : Bool) (n : ℕ) → cond (a && b) n 0 ≡ 0 ⊎ ((a ≡ true) × (b ≡ true) × (0 < n) × (cond (a && b) n 0 ≡ n))
member_share a b n = grind arith

is_same : (i n : ℕ) → (i == n) ≡ true → i ≡ n
is_same i n h = grind (arith, nat_tests)

same_is : (i n : ℕ) → i ≡ n → (i == n) ≡ true
same_is i n h = grind (arith, nat_tests)

outside : (a b : Bool) (n : ℕ) → (a ≡ true → ⊥) → cond (a && b) n 0 ≡ 0
outside a b n p = grind arith

same_or_not : (t r : ℕ) → (t ≡ r) ⊎ (t ≡ r → ⊥)
same_or_not t r = grind arith

elsewhere : (i n a : ℕ) → (i ≡ n → ⊥) → cond (i == n) a 0 ≡ 0
elsewhere i n a d = grind (arith, nat_tests)

here : (n a : ℕ) → cond (n == n) a 0 ≡ a
here n a = grind (arith, nat_tests)

share_there : (a b : Bool) (n : ℕ) → a ≡ true → b ≡ true → cond (a && b) n 0 ≡ n
share_there a b n p q = grind arith

less_or_here : (i n : ℕ) → i < suc n → (i < n) ⊎ (i ≡ n)
less_or_here i n h = grind arith

module _ (T : ℕ → Update) (B : ℕ → Coordinates) (h : Holdings) (w : World) (l : Lawful T B h w) (key : List ℕ) (which : Which) (s : ℕ) where
  abbrev at : Place
  at = place key s which

  -- how much an update of the set adds, if it is of the replica
  abbrev part : (ℕ → Bool) → ℕ → ℕ
  part S = share T (of_replica T S s) key which

  abbrev added : ℕ → ℕ
  added u = amount (T u).command key which

  -- A set with its join, where of two members of one replica the later held the earlier.
  module _ (S : ℕ → Bool) (a : Coordinates) (j : IsGathered (effect_of T B) S a) (m : ℕ) (few : (i : ℕ) → S i ≡ true → i < m) (some : m ≤ h.size)
      (closed : (i n : ℕ) → S i ≡ true → (T i).past n ≡ true → S n ≡ true)
      (line : (i n : ℕ) → S i ≡ true → S n ≡ true → (T i).replica ≡ (T n).replica → i < n → (T n).past i ≡ true)
      (bases : (i : ℕ) → i < m → (B i).number at ≡ sum_below (part (T i).past) h.size) where
    smaller : (n : ℕ) → S n ≡ true → (T n).replica ≡ s → (i : ℕ) → i < n → part S i ≤ part (T n).past i
    smaller n p e i lt = elim (member_share (S i) ((T i).replica == s) (added i)) [
      | inl z ↦ omega (arith, z)
      | inr x ↦
          let q : (T n).past i ≡ true = line i n x.0 p (is_same (T i).replica s x.1 ∙ sym e) lt in
          let y = share_there ((T n).past i) ((T i).replica == s) (added i) q x.1 in
          omega (arith, x.3, y)
    ]

    -- the effect of a member has what its base has, and what it adds
    member_number : (n : ℕ) → (T n).replica ≡ s → 0 < added n → (effect_of T B n).number at ≡ (B n).number at + added n
    member_number n e lt = subst (λ t. (effect_of T B n).number (place key t which) ≡ (B n).number (place key t which) + added n) e (effect_adds (B n) (T n).replica (T n).command key which lt)

    lower : (n : ℕ) → n ≤ h.size → sum_below (part S) n ≤ a.number at
    lower zero q = omega (arith, sum_nothing (part S))
    lower (suc n) q = elim (member_share (S n) ((T n).replica == s) (added n)) [
      | inl z ↦ let x : sum_below (part S) n ≤ a.number at = lower n (omega arith) in omega (arith, z, sum_next (part S) n)
      | inr x ↦
          let e : (T n).replica ≡ s = is_same (T n).replica s x.1 in
          let y : sum_below (part S) n ≤ sum_below (part (T n).past) n = sum_up (part S) (part (T n).past) n (smaller n x.0 e) in
          let z : sum_below (part (T n).past) n ≤ sum_below (part (T n).past) h.size = sum_longer (part (T n).past) n h.size (omega arith) in
          let c : (B n).number at ≡ sum_below (part (T n).past) h.size = bases n (few n x.0) in
          let d : (effect_of T B n).number at ≡ (B n).number at + added n = member_number n e x.2 in
          let g : (effect_of T B n).number at ≤ a.number at = (j.above n x.0).numbers at in
          omega (arith, x.3, sum_next (part S) n)
    ]

    at_self : (n : ℕ) → S n ≡ true → (T n).replica ≡ s → part (T n).past n + cond (n == n) (added n) 0 ≤ part S n
    at_self n p e =
        let lt : n < m = few n p in
        let past : (T n).past n ≡ true → n < n = (l.recorded n (omega arith)).earlier n in
        let z = outside ((T n).past n) ((T n).replica == s) (added n) (λ x. let y : n < n = past x in omega arith) in
        let y = share_there (S n) ((T n).replica == s) (added n) p (same_is (T n).replica s e) in
        let x : cond (n == n) (added n) 0 ≡ added n = here n (added n) in
        omega (arith, x, y, z)

    with_one : (n : ℕ) → S n ≡ true → (T n).replica ≡ s → (i : ℕ) → i < h.size → part (T n).past i + cond (i == n) (added n) 0 ≤ part S i
    with_one n p e i lt = elim (same_or_not i n) [
      | inl q ↦ subst (λ u. part (T n).past u + cond (u == n) (added n) 0 ≤ part S u) (sym q) (at_self n p e)
      | inr d ↦
          let z : cond (i == n) (added n) 0 ≡ 0 = elsewhere i n (added n) d in
          elim (member_share ((T n).past i) ((T i).replica == s) (added i)) [
            | inl y ↦ omega (arith, y)
            | inr x ↦ let y = share_there (S i) ((T i).replica == s) (added i) (closed n i p x.0) x.1 in omega (arith, x.3, y)
          ]
    ]

    upper_by : (n : ℕ) → S n ≡ true → (T n).replica ≡ s → (effect_of T B n).number at ≡ (B n).number at + added n → (effect_of T B n).number at ≡ a.number at → a.number at ≤ sum_below (part S) h.size
    upper_by n p e x q =
        let lt : n < m = few n p in
        let b : (B n).number at ≡ sum_below (part (T n).past) h.size = bases n lt in
        let c : sum_below (λ i. part (T n).past i + cond (i == n) (added n) 0) h.size ≤ sum_below (part S) h.size =
        sum_up (λ i. part (T n).past i + cond (i == n) (added n) 0) (part S) h.size (with_one n p e) in
        let d : sum_below (λ i. part (T n).past i + cond (i == n) (added n) 0) h.size ≡ sum_below (part (T n).past) h.size + sum_below (λ i. cond (i == n) (added n) 0) h.size =
        sum_add (part (T n).past) (λ i. cond (i == n) (added n) 0) h.size in
        let g : sum_below (λ i. cond (i == n) (added n) 0) h.size ≡ added n = sum_one n (added n) h.size (omega arith) in
        omega (arith, x, b, c, d, g, q)

    upper : a.number at ≤ sum_below (part S) h.size
    upper = elim (j.numbers at) [
      | inl z ↦ omega (arith, z)
      | inr y ↦ elim (effect_number (B y.0) (T y.0).replica (T y.0).command key s which) [
        | inl z ↦ omega (arith, z, y.2)
        | inr x ↦ upper_by y.0 y.1 x.0 x.1 y.2
      ]
    ]

    number_is : a.number at ≡ sum_below (part S) h.size
    number_is = let x = upper in let y = lower h.size (omega arith) in omega (arith, x, y)

  base_from : (m : ℕ) → m < h.size → ((i : ℕ) → i < m → (B i).number at ≡ sum_below (part (T i).past) h.size) → (B m).number at ≡ sum_below (part (T m).past) h.size
  base_from m q ih = let rec = l.recorded m q in number_is (T m).past (B m) rec.base m rec.earlier (omega arith) rec.closed rec.line ih

  base_or : (m : ℕ) → m < h.size → ((i : ℕ) → i < m → (B i).number at ≡ sum_below (part (T i).past) h.size) → (i : ℕ) → (i < m) ⊎ (i ≡ m) → (B i).number at ≡ sum_below (part (T i).past) h.size
  base_or m q ih i (inl x) = ih i x
  base_or m q ih i (inr e) = subst (λ u. (B u).number at ≡ sum_below (part (T u).past) h.size) (sym e) (base_from m q ih)

  -- each base has what its past adds up to
  base_numbers : (m : ℕ) → m ≤ h.size → (i : ℕ) → i < m → (B i).number at ≡ sum_below (part (T i).past) h.size
  base_numbers zero q i lt = absurd (omega arith)
  base_numbers (suc m) q i lt = base_or m q (base_numbers m (omega arith)) i (less_or_here i m lt)

  store_number : (x : Store) (r : ℕ) → (state_in w x r).number at ≡ sum_below (part (held_in h x r)) h.size
  store_number x r = number_is (held_in h x r) (state_in w x r) (store_gathered T B h w l x r) h.size (store_few T B h w l x r) (omega arith) (store_closed T B h w l x r)
      (λ i n p q e lt. l.line (T n).replica i n (subst (λ t. h.memory t i ≡ true) e (store_own T B h w l x r i p)) (store_own T B h w l x r n q) e refl lt)
      (base_numbers h.size (omega arith))

-- ---- over all replicas

one_share : (a : Bool) (j s n : ℕ) → cond (a && (j == s)) n 0 ≡ cond (s == j) (cond a n 0) 0
one_share a j s n = grind (arith, nat_tests)

share_over : (T : ℕ → Update) (S : ℕ → Bool) (key : List ℕ) (which : Which) (R i : ℕ) → (T i).replica < R → sum_below (λ s. share T (of_replica T S s) key which i) R ≡ share T S key which i
share_over T S key which R i lt =
    sum_same (λ s. share T (of_replica T S s) key which i) (λ s. cond (s == (T i).replica) (share T S key which i) 0) R (λ s. one_share (S i) (T i).replica s (amount (T i).command key which))
    ∙ sum_one (T i).replica (share T S key which i) R lt

total_is : (a : Coordinates) (key : List ℕ) (which : Which) (R : ℕ) → R ≡ 256 → total_by a.number key which ≡ sum_by (λ s. a.number (place key s which)) (range_with_len 0 R)
unfolding total_by
total_is a key which R e = ap (λ n. sum_by (λ s. a.number (place key s which)) (range_with_len 0 n)) (sym e)

parts_of_share : (a : Bool) (n : ℕ) → 0 < cond a n 0 → (a ≡ true) × (0 < n)
parts_of_share a n h = grind arith

first_part : (a b : Bool) → (a && b) ≡ true → a ≡ true
first_part a b h = grind arith

module _ (T : ℕ → Update) (B : ℕ → Coordinates) (h : Holdings) (w : World) (l : Lawful T B h w) (x : Store) (r : ℕ) (key : List ℕ) where
  store_sum : (which : Which) (R : ℕ) → w.replicas ≤ R → sum_below (λ s. (state_in w x r).number (place key s which)) R ≡ sum_below (share T (held_in h x r) key which) h.size
  store_sum which R le =
      sum_same (λ s. (state_in w x r).number (place key s which)) (λ s. sum_below (share T (of_replica T (held_in h x r) s) key which) h.size) R (λ s. store_number T B h w l key which s x r)
      ∙ (sum_swap (λ i s. share T (of_replica T (held_in h x r) s) key which i) h.size R
      ∙ sum_within (λ i. sum_below (λ s. share T (of_replica T (held_in h x r) s) key which i) R) (share T (held_in h x r) key which) h.size (λ i lt. share_over T (held_in h x r) key which R i (let p = l.placed i lt in omega (arith, p, le))))

  store_total : (R : ℕ) → R ≡ 256 → w.replicas ≤ R → (which : Which) → total_by (state_in w x r).number key which ≡ total_of T h.size (held_in h x r) key which
  store_total R e le which =
      total_is (state_in w x r) key which R e
      ∙ sum_is (λ s. (state_in w x r).number (place key s which)) R
      ∙ store_sum which R le
      ∙ sym (sum_is (share T (held_in h x r) key which) h.size)

  store_value : (R : ℕ) → R ≡ 256 → w.replicas ≤ R → value_in (state_in w x r) key ≡ counter_value T h.size (held_in h x r) key
  store_value R e le = λ i. pos (store_total R e le P i) -ℤ pos (store_total R e le N i)

  counted_changed : IsCounted (state_in w x r) key → ChangesCounter T (held_in h x r) key
  counted_changed c =
      let e = store_number T B h w l key c.1 c.0 x r in
      let p : 0 < (state_in w x r).number (place key c.0 c.1) = c.2 in
      let u = sum_some (share T (of_replica T (held_in h x r) c.0) key c.1) h.size (omega (arith, e)) in
      let s = parts_of_share (of_replica T (held_in h x r) c.0 u.0) (amount (T u.0).command key c.1) u.2 in
      (u.0, c.1, first_part (held_in h x r u.0) ((T u.0).replica == c.0) s.0, s.1)

  changed_counted : ChangesCounter T (held_in h x r) key → IsCounted (state_in w x r) key
  changed_counted u =
      let s = (T u.0).replica in
      let e = store_number T B h w l key u.1 s x r in
      let p = sum_has (share T (of_replica T (held_in h x r) s) key u.1) h.size u.0 (store_few T B h w l x r u.0 u.2) in
      let q = share_there (held_in h x r u.0) (s == s) (amount (T u.0).command key u.1) u.2 (same_is s s refl) in
      let z : 0 < amount (T u.0).command key u.1 = u.3 in
      (s, u.1, omega (arith, e, p, q))

pub store_shows : (T : ℕ → Update) (B : ℕ → Coordinates) (h : Holdings) (w : World) → Lawful T B h w → (R : ℕ) → R ≡ 256 → w.replicas ≤ R → (x : Store) (r : ℕ) → ShowsUpdates T h.size (held_in h x r) (state_in w x r)
store_shows T B h w l R e le x r = record {
  entries = shows T B h w l x r;
  keys = λ key. (counted_changed T B h w l x r key, changed_counted T B h w l x r key);
  values = λ key. store_value T B h w l x r key R e le;
}
