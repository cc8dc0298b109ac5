-- Which of two forms is the shorter, by their lengths alone.
use Rattle.std.proofs.Common.{◌≡◌, ℕ, ◌+◌, ◌-◌, ◌/◌, ◌<◌, ◌≤◌, false, cond, leb, List, [], ◌∷◌, ◌++◌, length, refl, ◌∙◌, ap, arith, inl, inr}
use Rattle.std.proofs.lemmas.Bool.{cases_lt, le-ltb, lt-ltb, le-leb}
use Rattle.std.proofs.lemmas.Bool.Decides.{nat_tests}
use Rattle.rds_dots.specs.declared.dot.Run.{Run}
use Rattle.rds_dots.specs.Dots.{Dots}
use Rattle.std.specs.List.{flat_map}
use Rattle.std.proofs.lemmas.List.Concat.{flat_map-cons}
use Rattle.rds_bytes.specs.Packed.{packed_text}
use Rattle.rds_briefs.specs.declared.text.Text.{Text}
use Rattle.rds_briefs.specs.Lives.{Lives, lives_in}
use Rattle.rds_briefs.specs.BriefTexts.{lengths_text, bits_text, lives_text, brief_run_text, runs_text}
use Rattle.rds_briefs.specs.Texts.{Extends, capped}
use Rattle.rds_briefs.proofs.BitSteps.{bytes_length}
use Rattle.rds_briefs.proofs.Putting.{extends_then}
use Rattle.std.proofs.Common.{append_assoc}

uncapped : (n : ℕ) → n < 18446744073709551615 → capped n ≡ n
uncapped n lt = ap (λ t. cond t n 18446744073709551615) (lt-ltb n 18446744073709551615 lt)

at_cap : (n : ℕ) → 18446744073709551615 ≤ n → capped n ≡ 18446744073709551615
at_cap n le = ap (λ t. cond t n 18446744073709551615) (le-ltb n 18446744073709551615 le)

counted_at_most : (n x k : ℕ) → x ≡ capped n → x ≤ (k + 7) / 8 → k < 18446744073709551616 → n ≤ (k + 7) / 8
counted_at_most n x k is le fits = elim (cases_lt n 18446744073709551615) [
  | inl lt ↦ (let e = uncapped n lt in omega (arith, e, is, le))
  | inr ge ↦ (let e = at_cap n ge in absurd (omega (arith, e, is, le, fits)))
]

counted_more : (n x k : ℕ) → x ≡ capped n → (k + 7) / 8 < x → (k + 7) / 8 < n
counted_more n x k is gt = elim (cases_lt n 18446744073709551615) [
  | inl lt ↦ (let e = uncapped n lt in omega (arith, e, is, gt))
  | inr ge ↦ (let e = at_cap n ge in omega (arith, e, is, gt, ge))
]

not_at_most : (a b : ℕ) → b < a → leb a b ≡ false
not_at_most a b h = grind (arith, nat_tests)

module _ (f : Lives) (p k x : ℕ) (is : x ≡ capped (length (lengths_text f p k))) where
  pub by_lengths : x ≤ (k + 7) / 8 → k < 18446744073709551616 → lives_text f p k ≡ 0 ∷ lengths_text f p k
  unfolding lives_text
  by_lengths le fits =
      let most = counted_at_most (length (lengths_text f p k)) x k is le fits in
      let bits = bytes_length f p ((k + 7) / 8) k in
      ap (λ t. cond t (0 ∷ lengths_text f p k) (1 ∷ bits_text f p k)) (le-leb _ _ (omega (arith, most, bits)))

  pub by_bits : (k + 7) / 8 < x → lives_text f p k ≡ 1 ∷ bits_text f p k
  unfolding lives_text
  by_bits gt =
      let more = counted_more (length (lengths_text f p k)) x k is gt in
      let bits = bytes_length f p ((k + 7) / 8) k in
      ap (λ t. cond t (0 ∷ lengths_text f p k) (1 ∷ bits_text f p k)) (not_at_most _ _ (omega (arith, more, bits)))

-- ---- runs

pub run_put : (live : Dots) (r : Run) (a b c d e : Text) → Extends a b (packed_text r.lo) → Extends b c (r.replica ∷ []) → Extends c d (packed_text (r.hi - r.lo))
    → Extends d e (lives_text (lives_in live r.replica) r.lo (r.hi + 1 - r.lo)) → Extends a e (brief_run_text live r)
unfolding brief_run_text
run_put live r a b c d e p q s t =
    let lives = lives_text (lives_in live r.replica) r.lo (r.hi + 1 - r.lo) in
    let more = packed_text (r.hi - r.lo) in
    extends_then a b e (packed_text r.lo) (r.replica ∷ (more ++ lives)) p (extends_then b c e (r.replica ∷ []) (more ++ lives) q (extends_then c d e more lives s t))

pub next_run_text : (live : Dots) (r : Run) (rs : List Run) → runs_text live (r ∷ rs) ≡ brief_run_text live r ++ runs_text live rs
unfolding runs_text
next_run_text live r rs = ap (λ (l : List ℕ). l ++ 0 ∷ []) (flat_map-cons (brief_run_text live) r rs) ∙ append_assoc (brief_run_text live r) (flat_map (brief_run_text live) rs) (0 ∷ [])

pub no_run_text : (live : Dots) → runs_text live [] ≡ 0 ∷ []
unfolding runs_text
no_run_text live = refl
