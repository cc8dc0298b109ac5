-- A text that is cut at its '/', one piece after the other.
use Rattle.std.proofs.Common.{◌≡◌, ◌∙◌, refl, sym, ap, ℕ, ◌+◌, ◌≤◌, ◌<◌, Bool, true, false, cond, not, ltb, List, [], ◌∷◌, length, take, drop}
use Rattle.std.proofs.Common.{get_or, Option, Some, None, arith, ◌==◌}
use Rattle.std.proofs.lemmas.Bool.Decides.{nat_tests, Decides-eqb}
use Rattle.std.proofs.lemmas.List.Splits.{slice_split_first, slice_split-cons_no}
use Rattle.std.proofs.lemmas.List.Sums.{passes_at_first}
use Rattle.std.specs.List.{position_or_len, onto_first}
use Rattle.rds_names.specs.Path.{segments}

abbrev pub is_slash : ℕ → Bool
is_slash b = b == 47

-- where the first '/' is
abbrev pub place : List ℕ → ℕ
place bs = position_or_len is_slash bs

abbrev pub found : List ℕ → Option ℕ
found bs = cond (ltb (place bs) (length bs)) (Some (place bs)) None

picked : (m n at : ℕ) (b : Bool) → b ≡ ltb m n → cond b (Some m) None ≡ Some at → (m ≡ at) × (m < n)
picked m n at true is h = (cc, grind (arith, nat_tests, is))
picked m n at false is h = absurd (cc)

unpicked : (m n : ℕ) (b : Bool) → b ≡ ltb m n → cond b (Some m) None ≡ None → n ≤ m
unpicked m n true is h = absurd (cc)
unpicked m n false is h = grind (arith, nat_tests, is)

unslashed : (b : Bool) (x : ℕ) (xs : List ℕ) → is_slash x ≡ b → length (x ∷ xs) ≤ place (x ∷ xs) → (is_slash x ≡ false) × (length xs ≤ place xs)
unslashed true x xs is h = let at : place (x ∷ xs) ≡ 0 = ap (λ t. cond (not t) (1 + place xs) 0) is in absurd (omega arith)
unslashed false x xs is h = let at : place (x ∷ xs) ≡ 1 + place xs = ap (λ t. cond (not t) (1 + place xs) 0) is in (is, omega arith)

one_piece : (bs : List ℕ) → length bs ≤ place bs → segments bs ≡ bs ∷ []
one_piece [] h = refl
one_piece (b ∷ bs) h =
    let both = unslashed (is_slash b) b bs refl h in
    slice_split-cons_no is_slash b bs both.0 ∙ ap (onto_first b) (one_piece bs both.1)

-- a text with no '/' is its one piece
pub cut_none : (bs : List ℕ) → found bs ≡ None → segments bs ≡ bs ∷ []
cut_none bs none = one_piece bs (unpicked (place bs) (length bs) (ltb (place bs) (length bs)) refl none)

pub record CutAt (bs : List ℕ) (at : ℕ) : Type 0 where
  pub parts : segments bs ≡ take at bs ∷ segments (drop (at + 1) bs)
  pub within : at < length bs
  pub slash : get_or bs at 0 ≡ 47

-- otherwise its first piece ends there
pub cut_some : (bs : List ℕ) (at : ℕ) → found bs ≡ Some at → CutAt bs at
cut_some bs at some =
    let both = picked (place bs) (length bs) at (ltb (place bs) (length bs)) refl some in
    let lt : place bs < length bs = both.1 in
    record {
      parts = slice_split_first is_slash bs 0 lt ∙ ap (λ n. take n bs ∷ segments (drop (n + 1) bs)) both.0;
      within = omega (arith, both.0, both.1);
      slash = ap (λ n. get_or bs n 0) (sym both.0) ∙ (Decides-eqb _ 47).0 (passes_at_first is_slash bs 0 lt);
    }
