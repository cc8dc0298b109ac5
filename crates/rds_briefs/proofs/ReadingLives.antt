-- Lives that are read stretch by stretch.
use Rattle.std.proofs.Common.{◌≡◌, ℕ, zero, suc, ◌+◌, ◌-◌, ◌*◌, ◌/◌, ◌%◌, ◌<◌, ◌≤◌, Bool, true, false, ◌&&◌, ◌||◌, eqb, leb, ltb, refl, sym, ◌∙◌, ap, arith}
use Rattle.std.specs.FinSet as set
use mathlib.Core.Bool.{false≢true}
use Rattle.std.proofs.lemmas.Bool.Decides.{nat_tests}
use Rattle.rds_dots.specs.declared.dot.Dot.{Dot}
use Rattle.rds_dots.specs.declared.dot.Run.{Run}
use Rattle.rds_dots.specs.Dots.{Dots, in_run}
use Rattle.rds_briefs.specs.Lives.{Lives, bit, byte_from}
use Rattle.rds_briefs.specs.ReadLives.{is_in_stretch, HasLives}
use Rattle.rds_briefs.proofs.BitSteps.{byte_more}

-- ---- dots among others

more_among : (a r s p j m : ℕ) → (eqb a r && leb p s && ltb s (p + (j + m))) ≡ ((eqb a r && leb p s && ltb s (p + j)) || (eqb a r && leb (p + j) s && ltb s ((p + j) + m)))
more_among a r s p j m = grind (arith, nat_tests)

none_among : (a r s p : ℕ) → (eqb a r && leb p s && ltb s (p + 0)) ≡ false
none_among a r s p = grind (arith, nat_tests)

run_among : (a r s p m : ℕ) → 0 < m → (eqb a r && leb p s && leb s (p + m - 1)) ≡ (eqb a r && leb p s && ltb s (p + m))
run_among a r s p m h = grind (arith, nat_tests)

pub among_from : (a r s p m : ℕ) → (eqb a r && leb p s && ltb s (p + m)) ≡ true → p ≤ s
among_from a r s p m h = grind (arith, nat_tests)

pub among_to : (a r s p m : ℕ) → (eqb a r && leb p s && ltb s (p + m)) ≡ true → s < p + m
among_to a r s p m h = grind (arith, nat_tests)

-- ---- steps

both : (o a b x y : Bool) → (b ≡ true → y ≡ x) → ((o || (a && x)) || (b && y)) ≡ (o || ((a || b) && x))
both true a b x y h = refl
both false true true x y h = cc_or x y (h refl)
  where
    cc_or : (x y : Bool) → y ≡ x → (x || y) ≡ x
    cc_or true y e = refl
    cc_or false y e = e
both false true false x y h = or_none x
  where
    or_none : (x : Bool) → (x || false) ≡ x
    or_none true = refl
    or_none false = refl
both false false true x y h = h refl
both false false false x y h = refl

or_nothing : (o a x : Bool) → a ≡ false → o ≡ (o || (a && x))
or_nothing true a x h = refl
or_nothing false true x h = absurd (false≢true (sym h))
or_nothing false false x h = refl

module _ (f : Lives) (replica p : ℕ) where
  -- nothing came to the set as yet
  pub lives_begin : (s : Dots) (k : ℕ) → k ≡ 0 → HasLives f replica p k s s
  lives_begin s k h d = or_nothing (set.contains s d) (is_in_stretch replica p k d) (f d.seq) (ap (λ n. is_in_stretch replica p n d) h ∙ none_among d.replica replica d.seq p)

  -- so many more, of which the lives are known
  pub lives_more : (q j m : ℕ) (old now new : Dots) (y : Lives) → q ≡ p + j → HasLives f replica p j old now → HasLives y replica q m now new → ((i : ℕ) → q ≤ i → i < q + m → y i ≡ f i) → HasLives f replica p (j + m) old new
  lives_more q j m old now new y at before then same d =
      let there : is_in_stretch replica q m d ≡ is_in_stretch replica (p + j) m d = ap (λ n. is_in_stretch replica n
      m d) at in
      then d
      ∙ ap (λ b. b || (is_in_stretch replica q m d && y d.seq)) (before d)
      ∙ both (set.contains old d) (is_in_stretch replica p j d) (is_in_stretch replica q m d) (f d.seq) (y d.seq) (λ h. same d.seq (among_from d.replica replica d.seq q m h) (among_to d.replica replica d.seq q m h))
      ∙ ap (λ b. set.contains old d || ((is_in_stretch replica p j d || b) && f d.seq)) there
      ∙ ap (λ b. set.contains old d || (b && f d.seq)) (sym (more_among d.replica replica d.seq p j m))

-- ---- a stretch that was put into the set

or_swap : (a b : Bool) → (a || b) ≡ (b || (a && true))
or_swap true true = refl
or_swap true false = refl
or_swap false true = refl
or_swap false false = refl

or_dead : (o a : Bool) → o ≡ (o || (a && false))
or_dead true a = refl
or_dead false true = refl
or_dead false false = refl

pub run_put : (replica p m : ℕ) (old new : Dots) → 0 < m → (let run : Run = record { replica = replica; lo = p; hi = p + m - 1 } in (d : Dot) → set.contains new d ≡ (in_run run d || set.contains old d)) → HasLives (λ _. true) replica p m old new
run_put replica p m old new h put d = put d ∙ ap (λ b. b || set.contains old d) (run_among d.replica replica d.seq p m h) ∙ or_swap (is_in_stretch replica p m d) (set.contains old d)

pub none_put : (replica p m : ℕ) (b : Bool) (s : Dots) → (b && ltb 0 m) ≡ false → HasLives (λ _. b) replica p m s s
none_put replica p zero b s h d = or_nothing (set.contains s d) (is_in_stretch replica p 0 d) b (none_among d.replica replica d.seq p)
none_put replica p (suc m) false s h d = or_dead (set.contains s d) (is_in_stretch replica p (suc m) d)
none_put replica p (suc m) true s h d = absurd (false≢true (sym h ∙ positive m))
  where
    positive : (m : ℕ) → ltb 0 (suc m) ≡ true
    positive m = grind arith

-- ---- bits

pub lowest : (f : Lives) (p k bits : ℕ) → 0 < k → bits ≡ byte_from f p k → f p ≡ eqb (bits % 2) 1
lowest f p k bits some is =
    let one : k ≡ suc (k - 1) = omega arith in
    let all : bits ≡ bit (f p) + 2 * byte_from f (p + 1) (k - 1) = is ∙ ap (byte_from f p) one ∙ byte_more f p (k - 1) in
    told (f p) bits (byte_from f (p + 1) (k - 1)) all
  where
    told : (b : Bool) (n m : ℕ) → n ≡ bit b + 2 * m → b ≡ eqb (n % 2) 1
    told true n m h = (let e : n % 2 ≡ 1 = omega arith in sym (ap (λ x. eqb x 1) e))
    told false n m h = (let e : n % 2 ≡ 0 = omega arith in sym (ap (λ x. eqb x 1) e))

pub higher : (f : Lives) (p k bits : ℕ) → 0 < k → bits ≡ byte_from f p k → bits / 2 ≡ byte_from f (p + 1) (k - 1)
higher f p k bits some is =
    let one : k ≡ suc (k - 1) = omega arith in
    let all : bits ≡ bit (f p) + 2 * byte_from f (p + 1) (k - 1) = is ∙ ap (byte_from f p) one ∙ byte_more f p (k - 1) in
    halved (f p) bits (byte_from f (p + 1) (k - 1)) all
  where
    halved : (b : Bool) (n m : ℕ) → n ≡ bit b + 2 * m → n / 2 ≡ m
    halved true n m h = omega arith
    halved false n m h = omega arith
