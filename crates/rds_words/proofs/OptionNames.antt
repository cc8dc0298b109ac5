-- Which words are options of a command.
use Rattle.std.proofs.Common.{◌≡◌, ◌⊎◌, ◌∙◌, ◌==◌, ◌||◌, ◌+◌, ℕ, Bool, true, false, not, [], ◌∷◌, ◌++◌, codes, drop, take, suc, None, refl, sym, ap, subst, inl, inr, arith}
use Rattle.std.specs.List.{after_first, before_first, prefix_len}
use Rattle.std.specs.Str.{bytes_eq}
use Rattle.std.proofs.lemmas.Bool.{cases_Bool, eqb-true}
use Rattle.std.proofs.lemmas.List.{append_assoc}
use Rattle.std.proofs.lemmas.Slice.Eq.{bytes_eq-Decides}
use Rattle.clap.specs.Lexer.{has_byte, name_and_value}
use Rattle.clap.specs.Words.{Shape, Text}
use Rattle.clap.specs.Faults.{long_fault, other_fault}
use Rattle.clap.specs.Walk.{Held, arg_by_long}
use Rattle.rds_words.proofs.PlanWalk.{IsThis}
use Rattle.rds_words.proofs.Refusing.{HasShortRequests, IsAlwaysRefused, IsOption, IsRefused, IsRequest, long_or_refused, long_refused}
use Rattle.rds_words.proofs.RowsById.{or_left, or_right}

pub or_false : (b : Bool) → (b || false) ≡ b
or_false true = refl
or_false false = refl

pub is_name : (known name : Text) → (bytes_eq known name || false) ≡ true → name ≡ known
is_name known name e = sym ((bytes_eq-Decides known name).0 (sym (or_false (bytes_eq known name)) ∙ e))

pub is_none : false ≡ true → ⊥
is_none e = absurd cc

-- ---- a text before and behind its first `=`

pub cut_one : (n x : ℕ) (xs : Text) → take (1 + n) (x ∷ xs) ≡ x ∷ take n xs
cut_one n x xs = (let e : 1 + n ≡ suc n = omega arith in ap (λ k. take k (x ∷ xs)) e)

-- a text without `=` is a name alone
pub no_cut : (xs : Text) → has_byte 61 xs ≡ false → before_first (λ x. x == 61) xs ≡ xs
no_cut [] none = refl
no_cut (x ∷ xs) none =
    rw (or_left (x == 61) _ none) (cut_one (prefix_len (λ y. not (y == 61)) xs) x xs ∙ ap (λ ys. x ∷ ys) (no_cut xs (or_right (x == 61) _ none)))

drop_one : (n x : ℕ) (xs : Text) → drop ((1 + n) + 1) (x ∷ xs) ≡ drop (n + 1) xs
drop_one n x xs = (let e : (1 + n) + 1 ≡ suc (n + 1) = omega arith in ap (λ k. drop k (x ∷ xs)) e)

-- a text with `=` is what stands before the first one, and what stands behind it
cut_at : (xs : Text) → has_byte 61 xs ≡ true → xs ≡ before_first (λ x. x == 61) xs ++ 61 ∷ after_first (λ x. x == 61) xs
cut_at [] has = absurd (is_none has)
cut_at (x ∷ xs) has = elim (cases_Bool (x == 61)) [
  | inl is ↦ rw is (ap (λ (y : ℕ). y ∷ xs) (eqb-true x 61 is))
  | inr other ↦
      let n = prefix_len (λ y. not (y == 61)) xs in
      let rest : has_byte 61 xs ≡ true = subst (λ (b : Bool). (b || has_byte 61 xs) ≡ true) other has in
      rw other (ap (λ ys. x ∷ ys) (cut_at xs rest) ∙ λ i. sym (cut_one n x xs) i ++ 61 ∷ sym (drop_one n x xs) i)
]

-- ---- options behind two hyphens, alone or with a value

module _ (s : Shape) (Opt : Type 0) (bare : Opt → Text) (long : (name : Text) → ((o : Opt) × (name ≡ bare o)) ⊎ IsRequest s (arg_by_long s.rules name)) (short : HasShortRequests s) where
  abbrev IsLong : Text → Opt → Type 0
  IsLong xs o = (xs ≡ bare o) ⊎ ((v : Text) × (xs ≡ bare o ++ codes "=" ++ v))

  long_told : (xs : Text) → ((o : Opt) × IsLong xs o)
      ⊎ ((h : Held) → IsRefused (long_fault s.rules s.args_override_self (arg_by_long s.rules (name_and_value xs).0) (name_and_value xs).1 h))
  long_told xs = elim (long (before_first (λ x. x == 61) xs)) [
    | inl this ↦ elim (cases_Bool (has_byte 61 xs)) [
      | inl has ↦ inl (
        this.0,
        inr (
          after_first (λ x. x == 61) xs,
          cut_at xs has ∙ ap (λ (n : Text). n ++ 61 ∷ after_first (λ x. x == 61) xs) this.1
              ∙ sym (append_assoc (bare this.0) (codes "=") (after_first (λ x. x == 61) xs)),
        ),
      )
      | inr none ↦ inl (this.0, inl (sym (no_cut xs none) ∙ this.1))
    ]
    | inr request ↦ inr (λ h. long_refused s (arg_by_long s.rules (name_and_value xs).0) request (name_and_value xs).1 h)
  ]

  -- an option is one of these, or is refused
  pub told : (word : Text) → IsOption word → ((o : Opt) × IsThis (codes "--" ++ bare o) word) ⊎ IsAlwaysRefused s word
  told word is = elim (long_or_refused s short word is) [
    | inl refused ↦ inr refused
    | inr found ↦ elim (long_told (found.0 ∷ found.1)) [
      | inl this ↦ elim this.1 [
        | inl name ↦ inl (this.0, inl (found.2 ∙ ap (λ xs. 45 ∷ 45 ∷ xs) name))
        | inr v ↦ inl (this.0, inr (v.0, found.2 ∙ ap (λ xs. 45 ∷ 45 ∷ xs) v.1))
      ]
      | inr refused ↦ inr (λ h skip. subst (λ (w : Text). IsRefused (other_fault s None w h)) (sym found.2) (refused h))
    ]
  ]
