-- The lengths of stretches, one after the other.
use Rattle.std.proofs.Common.{◌≡◌, ℕ, ◌+◌, ◌-◌, ◌*◌, ◌<◌, ◌≤◌, Bool, true, false, cond, not, eqb, List, [], ◌++◌, refl, sym, ◌∙◌, ap, arith}
use Rattle.std.specs.List.{flat_map}
use Rattle.std.proofs.lemmas.List.Concat.{flat_map-cons}
use Rattle.rds_bytes.specs.Packed.{packed_text}
use Rattle.rds_briefs.specs.Lives.{Lives, alike, stretch_at, lengths_after}
use Rattle.rds_briefs.proofs.StretchLemmas.{lengths_open, left_after, stretch_of, alike_itself, alike_other}

abbrev pub lengths_left : Lives → Bool → ℕ → ℕ → List ℕ
lengths_left f b p k = cond (eqb k 0) [] (flat_map packed_text (lengths_after f b 0 p k))

-- 1 where the next stretch has no numbers
abbrev pub is_none : Lives → Bool → ℕ → ℕ
is_none f b p = cond (alike b (f p)) 0 1

some : (k : ℕ) → 0 < k → eqb k 0 ≡ false
some k h = grind arith

nothing_left : (m k : ℕ) → m ≤ k → eqb m k ≡ eqb (k - m) 0
nothing_left m k h = grind arith

of_either : (t : Bool) (l : List ℕ) → flat_map packed_text (cond t [] l) ≡ cond t [] (flat_map packed_text l)
of_either true l = refl
of_either false l = refl

at_most_one : (f : Lives) (b : Bool) (p : ℕ) → is_none f b p ≤ 1
at_most_one f b p = elim (alike b (f p)) as (λ t. cond t 0 1 ≤ 1) [ true ↦ omega arith | false ↦ omega arith ]

module _ (f : Lives) (b : Bool) (p k : ℕ) (h : 0 < k) where
  abbrev m : ℕ
  m = stretch_at f b p k

  pub all_lengths : lengths_left f b p k ≡ flat_map packed_text (lengths_after f b 0 p k)
  all_lengths = ap (λ t. cond t [] (flat_map packed_text (lengths_after f b 0 p k))) (some k h)

  pub next_length : lengths_left f b p k ≡ packed_text m ++ lengths_left f (not b) (p + m) (k - m)
  next_length =
      let within = (stretch_of f b p k).within in
      let first : 0 + m ≡ m = omega arith in
      all_lengths
      ∙ ap (λ (l : List ℕ). flat_map packed_text l) (lengths_open f b 0 p k)
      ∙ flat_map-cons packed_text (0 + m) (left_after f b p k m)
      ∙ (λ i. packed_text (first i) ++ of_either (eqb m k) (lengths_after f (not b) 0 (p + m) (k - m)) i)
      ∙ ap (λ t. packed_text m ++ cond t [] (flat_map packed_text (lengths_after f (not b) 0 (p + m) (k - m)))) (nothing_left m k within)

  pub fewer_left : 2 * (k - m) + is_none f (not b) (p + m) < 2 * k + is_none f b p
  fewer_left =
      let s = stretch_of f b p k in
      let within = s.within in
      let one = at_most_one f (not b) (p + m) in
      elim (eqb m 0) as (λ t. eqb m 0 ≡ t → 2 * (k - m) + is_none f (not b) (p + m) < 2 * k + is_none f b p) [
        | true ↦ λ is.
            let zero_is : m ≡ 0 = grind arith in
            let at : p + m ≡ p = omega arith in
            let there : f (p + m) ≡ not b = s.ends (omega arith) in
            let none : is_none f b p ≡ 1 = ap (λ c. cond (alike b c) 0 1) (ap f (sym at) ∙ there) ∙ ap (λ t. cond t 0 1) (alike_other b) in
            let some : is_none f (not b) (p + m) ≡ 0 = ap (λ c. cond (alike (not b) c) 0 1) there ∙ ap (λ t. cond t 0 1) (alike_itself (not b)) in
            omega (arith, none, some, zero_is)
        | false ↦ λ is. (let positive : 0 < m = grind arith in omega (arith, one, within, positive))
      ] refl

pub no_lengths : (f : Lives) (b : Bool) (p k : ℕ) → k ≡ 0 → lengths_left f b p k ≡ []
no_lengths f b p k h = ap (lengths_left f b p) h
