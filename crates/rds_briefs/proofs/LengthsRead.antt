-- Lengths of stretches that are read again.
use Rattle.std.proofs.Common.{◌≡◌, ℕ, ◌+◌, ◌-◌, ◌<◌, ◌≤◌, Bool, true, not, List, ◌++◌, sym, subst, ◌∙◌, ap, arith, append_assoc}
use Rattle.rds_dots.specs.Dots.{Dots}
use Rattle.rds_dots.specs.declared.dot.TheConstants.{MAX_SEQ}
use Rattle.rds_bytes.specs.declared.packed.TheConstants.{MAX_PACKED}
use Rattle.rds_bytes.specs.Packed.{packed_text}
use Rattle.rds_briefs.specs.Lives.{Lives, stretch_at}
use Rattle.rds_briefs.specs.BriefTexts.{lengths_text}
use Rattle.rds_briefs.specs.ReadLives.{HasLives}
use Rattle.rds_briefs.proofs.StretchLemmas.{stretch_of}
use Rattle.rds_briefs.proofs.LengthSteps.{lengths_left, all_lengths, next_length, no_lengths}
use Rattle.rds_briefs.proofs.ReadingLives.{lives_begin, lives_more}

-- lengths that were read up to a number, and those that are left
pub record AreLengthsRead (f : Lives) (replica p : ℕ) (old now : Dots) (rest end : List ℕ) (b : Bool) (seq left : ℕ) : Type 0 where
  pub bytes : rest ≡ lengths_left f b seq left ++ end
  pub lives : HasLives f replica p (seq - p) old now

pub lengths_begin : (f : Lives) (replica p k : ℕ) (s : Dots) (bytes end : List ℕ) → 1 ≤ k → bytes ≡ lengths_text f p k ++ end → AreLengthsRead f replica p s s bytes end true p k
lengths_begin f replica p k s bytes end some is =
    record { bytes = is ∙ ap (λ (l : List ℕ). l ++ end) (sym (all_lengths f true p k (omega arith))); lives = lives_begin f replica p s (p - p) (omega arith) }

module _ (f : Lives) (replica p : ℕ) (old now : Dots) (rest end : List ℕ) (b : Bool) (seq left : ℕ) (is : AreLengthsRead f replica p old now rest end b seq left) where
  abbrev m : ℕ
  m = stretch_at f b seq left

  abbrev pub left_behind : ℕ → List ℕ
  left_behind n = lengths_left f (not b) (seq + n) (left - n) ++ end

  pub front : 0 < left → rest ≡ packed_text m ++ left_behind m
  front some = is.bytes ∙ ap (λ (l : List ℕ). l ++ end) (next_length f b seq left some) ∙ append_assoc (packed_text m) (lengths_left f (not b) (seq + m) (left - m)) end

  pub is_packed : (k : ℕ) → seq + left ≡ p + k → p + k ≤ MAX_SEQ + 1 → m ≤ MAX_PACKED
  is_packed k place most = (let within = (stretch_of f b seq left).within in omega arith)

  pub within : (n : ℕ) → n ≡ m → left < n → ⊥
  within n e lt = (let w = (stretch_of f b seq left).within in omega arith)

  pub goes_on : (n : ℕ) (after : List ℕ) (new : Dots) → p ≤ seq → n ≡ m → after ≡ left_behind m → HasLives (λ _. b) replica seq n now new → AreLengthsRead f replica p old new after end (not b) (seq + n) (left - n)
  goes_on n after new from e rests put =
      let s = stretch_of f b seq left in
      let at : seq ≡ p + (seq - p) = omega arith in
      let far : (seq - p) + n ≡ (seq + n) - p = omega arith in
      record {
        bytes = rests ∙ ap left_behind (sym e);
        lives = subst (λ (j : ℕ). HasLives f replica p j old new) far (lives_more f replica p seq (seq - p) n old now new (λ _. b) at is.lives put (λ i q r. sym (s.all i q (let lt : i < seq + n = r in omega (arith, lt, e)))));
      }

  pub ended : (k : ℕ) → left ≡ 0 → seq + left ≡ p + k → (rest ≡ end) × HasLives f replica p k old now
  ended k none place =
      let far : seq - p ≡ k = omega arith in
      (is.bytes ∙ ap (λ (l : List ℕ). l ++ end) (no_lengths f b seq left none), subst (λ (j : ℕ). HasLives f replica p j old now) far is.lives)
