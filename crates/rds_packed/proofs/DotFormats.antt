-- Dots, each told from the one before it, are a format.
use Rattle.std.proofs.Common.{◌≡◌, ℕ, ◌+◌, ◌-◌, ◌<◌, ◌≤◌, ◌⊎◌, inl, inr, Bool, true, false, cond, eqb, ltb, ◌&&◌, List, [], ◌++◌, Option, Some, None, refl, sym, ap, subst, ◌∙◌, arith}
use Rattle.std.specs.FinSet as set
use Rattle.std.specs.Ordering.{is_lt, nat_cmp, ordering_then}
use Rattle.std.proofs.lemmas.Bool.{ltb-true, lt-ltb}
use Rattle.std.proofs.lemmas.Bool.Decides.{nat_tests}
use Rattle.rds_names.specs.Conditions.{and_true, and_left, and_right}
use Rattle.rds_names.specs.declared.entry.Entry.{Entry}
use Rattle.rds_dots.specs.declared.dot.Dot.{Dot}
use Rattle.rds_dots.specs.Dots.{Dots, is_dot, comes_after}
use Rattle.rds_dots.specs.Sets.{dot_limits}
use Rattle.rds_bytes.specs.OneText.{HasOneText}
use Rattle.rds_bytes.specs.Packed.{packed_at, packed_text, HasPackedText}
use Rattle.rds_bytes.specs.Reading.{pair_at, when_at, byte_at, dot_by, dot_of_row, last}
use Rattle.rds_bytes.specs.Spelling.{byte_text}
use Rattle.rds_bytes.proofs.Format.{IsFormat, byte_format, then_format, pair_format, made_format, when_format, refit}
use Rattle.rds_bytes.proofs.LiveFormats.{AreOnlyDots}
use Rattle.rds_packed.specs.GoOn.{IsPast, past_comes}
use Rattle.rds_packed.specs.PackedReading as read
use Rattle.rds_packed.specs.PackedReading.{given_at, dot_before, place_after, step_by}
use Rattle.rds_packed.specs.PackedTexts.{dot_or_zeroth, dot_distance, other_place_text, dot_step_text}
use Rattle.rds_packed.proofs.Combined.{packed_format, given_format}

-- what may follow a distance
abbrev Follows : Dot → ℕ → Bool → ℕ × ℕ → Type 0
Follows from n true p = ((p.0 < 256) × (ltb from.replica p.0 ≡ true)) × HasPackedText p.1
Follows from n false p = p ≡ (from.replica, from.seq + n)

abbrev Step : Type 0
Step = ℕ × (ℕ × ℕ)

abbrev IsStep : Dot → Step → Type 0
IsStep from p = HasPackedText p.0 × Follows from p.0 (eqb p.0 0) p.1

abbrev step_of : Dot → Dot → Step
step_of from d = (dot_distance from d, (d.replica, d.seq))

-- ---- a step and the dot that it leads to

-- the dot is past the other, and within the limits
abbrev CanFollow : Dot → Dot → Type 0
CanFollow from d = IsPast from d × ((d.replica < 256) × HasPackedText d.seq)

near_step : (from d : Dot) (same : Bool) → eqb d.replica from.replica ≡ same → CanFollow from d → (zeroed : Bool) → eqb (cond same (d.seq - from.seq) 0) 0 ≡ zeroed
    → HasPackedText (cond same (d.seq - from.seq) 0) × Follows from (cond same (d.seq - from.seq) 0) zeroed (d.replica, d.seq)
near_step from d true e (inl above, within) zeroed z = absurd (let less = above in grind (arith, nat_tests))
near_step from d true e (inr later, within) true z = absurd (let less = later.1 in grind (arith, nat_tests))
near_step from d true e (inr later, within) false z =
    let less = later.1 in
    let most = within.1 in
    let sum : d.seq ≡ from.seq + (d.seq - from.seq) = omega (arith, less) in
    (omega (arith, most), λ i. (later.0 i, sum i))
near_step from d false e (inl above, within) true z = (omega arith, ((within.0, lt-ltb from.replica d.replica above), within.1))
near_step from d false e (inl above, within) false z = absurd cc
near_step from d false e (inr later, within) zeroed z = absurd (let same = later.0 in grind (arith, nat_tests))

is_step_of : (from d : Dot) → CanFollow from d → IsStep from (step_of from d)
is_step_of from d h = near_step from d (eqb d.replica from.replica) refl h (eqb (dot_distance from d) 0) refl

some_is : (n : ℕ) → eqb n 0 ≡ false → 0 < n
some_is n e = grind (arith, nat_tests)

zero_is : (n : ℕ) → eqb n 0 ≡ true → n ≡ 0
zero_is n e = grind (arith, nat_tests)

not_same : (a b : ℕ) → a < b → eqb b a ≡ false
not_same a b lt = grind (arith, nat_tests)

is_same : (a : ℕ) → eqb a a ≡ true
is_same a = grind (arith, nat_tests)

-- the step to the dot that a step leads to
step_back : (from : Dot) (n : ℕ) (p : ℕ × ℕ) (b : Bool) → eqb n 0 ≡ b → Follows from n b p → IsPast from (dot_by p) × (dot_distance from (dot_by p) ≡ n)
step_back from n p true e h =
    let above : from.replica < p.0 = ltb-true from.replica p.0 h.0.1 in
    (inl above, ap (λ b. cond b (p.1 - from.seq) 0) (not_same from.replica p.0 above) ∙ sym (zero_is n e))
step_back from n p false e h =
    let some = some_is n e in
    let replica : p.0 ≡ from.replica = ap (λ (q : ℕ × ℕ). q.0) h in
    let seq : p.1 ≡ from.seq + n = ap (λ (q : ℕ × ℕ). q.1) h in
    let less : from.seq < p.1 = omega (arith, seq, some) in
    let far : p.1 - from.seq ≡ n = omega (arith, seq) in
    (inr (replica, less), ap (λ b. cond b (p.1 - from.seq) 0) (ap (λ r. eqb r from.replica) replica ∙ is_same from.replica) ∙ far)

-- ---- formats

abbrev DotOf : Dot → Dot → Type 0
DotOf from d = IsPast from d × IsStep from (step_of from d)

module _ (one : HasOneText packed_at packed_text HasPackedText) where
  place_format : (from : Dot) (n : ℕ) (b : Bool)
      → IsFormat (cond b (pair_at (when_at (ltb from.replica) byte_at) packed_at) (given_at (from.replica, from.seq + n))) (λ p. cond b (byte_text p.0 ++ packed_text p.1) []) (Follows from n b)
  place_format from n true = pair_format _ _ _ _ _ _ (when_format (ltb from.replica) _ _ _ byte_format) (packed_format one)
  place_format from n false = given_format (from.replica, from.seq + n)

  step_there : (from d : Dot) → DotOf from d → IsStep from (step_of from d) × (step_by (step_of from d) ≡ d)
  step_there from d h = (h.1, refl)

  steps_back : (from : Dot) (p : Step) → IsStep from p → DotOf from (step_by p) × (step_of from (step_by p) ≡ p)
  steps_back from p h =
      let is = step_back from p.0 p.1 (eqb p.0 0) refl h.1 in
      let same : step_of from (step_by p) ≡ p = λ i. (is.1 i, p.1) in
      ((is.0, subst (IsStep from) (sym same) h), same)

  step_format : (from : Dot) → IsFormat (read.dot_step_at from) (dot_step_text from) (DotOf from)
  unfolding read.dot_step_at
  step_format from =
      made_format step_by (step_of from) _ (λ p. packed_text p.0 ++ other_place_text p.0 p.1) (IsStep from) (DotOf from) (step_there from) (steps_back from)
      (then_format packed_at (place_after from) packed_text other_place_text HasPackedText (λ n. Follows from n (eqb n 0)) (packed_format one) (λ n _. place_format from n (eqb n 0)))

  -- a dot that comes after one is past it, as each dot is past what the first is told from
  past_of : (a s b t : ℕ) → is_lt (ordering_then (nat_cmp a b) (nat_cmp s t)) ≡ true → (a < b) ⊎ ((b ≡ a) × (s < t))
  past_of a s b t h = grind (arith, nat_tests)

  first_past : (r n : ℕ) → 1 ≤ n → (b : Bool) → eqb r 0 ≡ b → (0 < r) ⊎ ((r ≡ 0) × (0 < n))
  first_past r n some true e = inr (zero_is r e, some)
  first_past r n some false e = inl (some_is r e)

  is_past : (before : Option Dot) (d : Dot) → is_dot d ≡ true → comes_after before d ≡ true → IsPast (dot_or_zeroth before) d
  is_past None d is h = (let limits = dot_limits d is in first_past d.replica d.seq limits.from_one (eqb d.replica 0) refl)
  is_past (Some a) d is h = past_of a.replica a.seq d.replica d.seq h

  pub dot_format : (s : Dots) → AreOnlyDots s → (before : List (Dot × Entry)) → IsFormat (read.packed_dot_at s before) (dot_step_text (dot_before before)) (λ d. (comes_after (dot_of_row (last before)) d && set.contains s d) ≡ true)
  unfolding read.packed_dot_at
  dot_format s dots before =
      let from = dot_before before in
      let prior = dot_of_row (last before) in
      refit _ _ (λ d. DotOf from d × (set.contains s d ≡ true)) (λ d. (comes_after prior d && set.contains s d) ≡ true)
      (λ d h. and_true _ _ (past_comes prior d h.0.0) h.1)
      (λ d h.
      let has = and_right (comes_after prior d) (set.contains s d) h in
      let is = dots d has in
      let limits = dot_limits d is in
      let small = limits.small in
      let within = limits.within in
      let past = is_past prior d is (and_left (comes_after prior d) (set.contains s d) h) in
      ((past, is_step_of from d (past, (omega (arith, small), omega (arith, within)))), has))
      (when_format (set.contains s) (read.dot_step_at from) (dot_step_text from) (DotOf from) (step_format from))
