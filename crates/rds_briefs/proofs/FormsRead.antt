-- Which of two forms is read.
use Rattle.std.proofs.Common.{◌≡◌, ◌≢◌, ℕ, Bool, true, false, cond, leb, List, ◌∷◌, ◌++◌, length, ◌⊎◌, inl, inr, refl, sym, ◌∙◌, ap, arith}
use Rattle.rds_briefs.specs.Lives.{Lives}
use Rattle.rds_briefs.specs.BriefTexts.{lengths_text, bits_text, lives_text}

-- its form, and what is said in it
pub record IsForm (f : Lives) (p k : ℕ) (form : ℕ) (text : List ℕ) : Type 0 where
  pub whole : lives_text f p k ≡ form ∷ text
  pub which : ((form ≡ 0) × (text ≡ lengths_text f p k)) ⊎ ((form ≡ 1) × (text ≡ bits_text f p k))

abbrev form_of : Lives → ℕ → ℕ → Bool → ℕ
form_of f p k t = cond t 0 1

abbrev text_of : Lives → ℕ → ℕ → Bool → List ℕ
text_of f p k t = cond t (lengths_text f p k) (bits_text f p k)

parted : (f : Lives) (p k : ℕ) (t : Bool) → cond t (0 ∷ lengths_text f p k) (1 ∷ bits_text f p k) ≡ form_of f p k t ∷ text_of f p k t
parted f p k true = refl
parted f p k false = refl

either : (f : Lives) (p k : ℕ) (t : Bool) → ((form_of f p k t ≡ 0) × (text_of f p k t ≡ lengths_text f p k)) ⊎ ((form_of f p k t ≡ 1) × (text_of f p k t ≡ bits_text f p k))
either f p k true = inl (refl, refl)
either f p k false = inr (refl, refl)

abbrev pub test : Lives → ℕ → ℕ → Bool
test f p k = leb (length (lengths_text f p k)) (length (bits_text f p k))

pub form_is : (f : Lives) (p k : ℕ) → IsForm f p k (form_of f p k (test f p k)) (text_of f p k (test f p k))
unfolding lives_text
form_is f p k = record { whole = parted f p k (test f p k); which = either f p k (test f p k) }

module _ (f : Lives) (p k : ℕ) (bytes rest : List ℕ) (is : bytes ≡ lives_text f p k ++ rest) where
  pub form_front : bytes ≡ form_of f p k (test f p k) ∷ (text_of f p k (test f p k) ++ rest)
  form_front = is ∙ ap (λ (l : List ℕ). l ++ rest) (form_is f p k).whole

  module _ (form : ℕ) (after : List ℕ) (same : form ≡ form_of f p k (test f p k)) (got : after ≡ text_of f p k (test f p k) ++ rest) where
    pub by_first : form ≡ 0 → after ≡ lengths_text f p k ++ rest
    by_first h = elim (form_is f p k).which [
      | inl w ↦ got ∙ ap (λ (l : List ℕ). l ++ rest) w.1
      | inr w ↦ absurd (let e : 0 ≡ 1 = sym h ∙ same ∙ w.0 in omega arith)
    ]

    pub by_second : form ≡ 1 → after ≡ bits_text f p k ++ rest
    by_second h = elim (form_is f p k).which [
      | inl w ↦ absurd (let e : 1 ≡ 0 = sym h ∙ same ∙ w.0 in omega arith)
      | inr w ↦ got ∙ ap (λ (l : List ℕ). l ++ rest) w.1
    ]

    pub by_neither : form ≢ 0 → form ≢ 1 → ⊥
    by_neither first second = elim (form_is f p k).which [
      | inl w ↦ first (same ∙ w.0)
      | inr w ↦ second (same ∙ w.0)
    ]
