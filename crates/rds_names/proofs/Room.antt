-- The room of an inline key: a text, and zeros behind it.
use Rattle.std.proofs.Common.{◌≡◌, ◌∙◌, refl, sym, ap, subst, ℕ, zero, suc, ◌+◌, ◌-◌, ◌≤◌, ◌<◌, true, List, [], ◌∷◌}
use Rattle.std.proofs.Common.{◌++◌, length, take, drop, get_or, arith, IsTrue}
use Rattle.std.proofs.Math.ListN.{replicate}
use Rattle.std.proofs.Math.Seq.{take-append_seam, drop-append_seam}
use Rattle.std.proofs.lemmas.Bool.Decides.{nat_tests, Decides-and, Decides-like, Decides-eqb}
use Rattle.std.proofs.lemmas.Grind.{common_steps}
use Rattle.std.proofs.lemmas.List.{take-append-drop, take_all, length-take-le, length-drop, get_or-drop, drop-drop}
use Rattle.std.proofs.lemmas.Nat.{le_bytes_8}
use Rattle.std.proofs.lemmas.Slice.Eq.{bytes_eq-Decides}
use Rattle.std.specs.Bool.{Decides}
use Rattle.std.specs.Int.{w64, from_le_bytes}
use Rattle.std.specs.Prelude.{nat_le, nat_eq, ◌&&◌}
use Rattle.std.specs.Str.{is_utf8, bytes_eq}
use Rattle.rds_names.specs.Conditions.{and_true, and_left, and_right}
use Rattle.rds_names.specs.declared.key.Form.{Form}
use Rattle.rds_names.specs.declared.key.Form.TheVariants.{Inline}
use Rattle.rds_names.specs.Forms.{bytes_in, is_kept}
use Rattle.rds_names.specs.Key.{is_key}

within : (n : ℕ) → n ≤ 22 → nat_le n 22 ≡ true
within n h = grind (arith, nat_tests, h)

-- what a new key's room holds
pub filled : (text behind : List ℕ) → behind ≡ replicate (22 - length text) 0 → is_key text ≡ true → length text ≤ 22 → is_utf8 text ≡ true → IsTrue (is_key (take (length text) (text ++ behind))) × IsTrue (is_kept (Inline (text ++ behind) (length text)))
filled text behind zeros key short utf8 =
    let padded : bytes_eq (drop (length text) (text ++ behind)) (replicate (22 - length text) 0) ≡ true = (bytes_eq-Decides _ _).1 (drop-append_seam text behind ∙ zeros) in
    let whole : length (text ++ behind) ≡ 22 = grind (arith, common_steps, ap length zeros, short) in (
      rw (take-append_seam text behind) key,
      and_true _ _ ((Decides-eqb _ 22).1 whole) (and_true _ _ (within (length text) short) (and_true _ _ (rw (take-append_seam text behind) utf8) padded)),
    )

module _ (room : List ℕ) (n : ℕ) (kept : IsTrue (is_kept (Inline room n))) where
  pub fits : n ≤ 22
  fits = let short = and_left (nat_le n 22) _ (and_right (nat_eq (length room) 22) _ kept) in grind (arith, nat_tests, short)

  -- the text is as long as is reported
  pub text_length : length (take n room) ≡ n
  text_length =
      let long = (Decides-eqb _ 22).0 (and_left (nat_eq (length room) 22) _ kept) in
      length-take-le n room (omega (arith, fits, long))

  pub padded : take n room ++ replicate (22 - n) 0 ≡ room
  padded =
      let zeros = and_right (is_utf8 (take n room)) _ (and_right (nat_le n 22) _ (and_right (nat_eq (length room) 22) _ kept)) in
      ap (λ behind. take n room ++ behind) (sym ((bytes_eq-Decides _ _).0 zeros)) ∙ take-append-drop n room

module _ (room other : List ℕ) (n m : ℕ) (kept : IsTrue (is_kept (Inline room n))) (other_kept : IsTrue (is_kept (Inline other m))) where
  one_length : take n room ≡ take m other → n ≡ m
  one_length same = sym (text_length room n kept) ∙ ap length same ∙ text_length other m other_kept

  one_room : take n room ≡ take m other → room ≡ other
  one_room same = sym (padded room n kept) ∙ (λ i. same i ++ replicate (22 - one_length same i) 0) ∙ padded other m other_kept

  -- texts are equal where their lengths and their rooms are
  same_texts : Decides (nat_eq n m && bytes_eq room other) (take n room ≡ take m other)
  same_texts = Decides-like _ (λ both. (λ i. take (both.0 i) (both.1 i))) (λ same. (one_length same, one_room same)) (Decides-and _ _ (Decides-eqb n m) (bytes_eq-Decides room other))

-- so are inline keys
pub same_keys : (form other : Form) (room others : List ℕ) (n m : ℕ) (key that : List ℕ) → form ≡ Inline room n → other ≡ Inline others m → bytes_in form ≡ key → bytes_in other ≡ that → IsTrue (is_kept form) → IsTrue (is_kept other) → Decides (nat_eq n m && bytes_eq room others) (key ≡ that)
same_keys form other room others n m key that is other_is has other_has kept other_kept =
    let at : take n room ≡ key = sym (ap bytes_in is) ∙ has in
    let other_at : take m others ≡ that = sym (ap bytes_in other_is) ∙ other_has in
    Decides-like _ (λ same. sym at ∙ same ∙ other_at) (λ same. at ∙ same ∙ sym other_at) (same_texts room others n m (subst (λ f. IsTrue (is_kept f)) is kept) (subst (λ f. IsTrue (is_kept f)) other_is other_kept))

-- ---- eight bytes as a number

abbrev pub AreBytes : List ℕ → Type 0
AreBytes xs = (i : ℕ) → get_or xs i 0 < 256

pub first_bytes : (n : ℕ) (xs : List ℕ) → AreBytes xs → AreBytes (take n xs)
first_bytes zero xs bytes i = omega arith
first_bytes (suc n) [] bytes i = omega arith
first_bytes (suc n) (x ∷ xs) bytes zero = bytes 0
first_bytes (suc n) (x ∷ xs) bytes (suc i) = first_bytes n xs (λ j. bytes (suc j)) i

pub last_bytes : (n : ℕ) (xs : List ℕ) → AreBytes xs → AreBytes (drop n xs)
last_bytes n xs bytes i = rw (get_or-drop n xs i 0) (bytes (n + i))

-- eight bytes are those of their number
one_word : (xs ys : List ℕ) → length xs ≡ 8 → length ys ≡ 8 → AreBytes xs → AreBytes ys → from_le_bytes w64 xs ≡ from_le_bytes w64 ys → xs ≡ ys
one_word xs ys long other_long bytes other_bytes same = sym (le_bytes_8 xs _ long bytes refl) ∙ le_bytes_8 ys _ other_long other_bytes same

-- the last eight overlap those before
pub parts : (zs : List ℕ) → length zs ≡ 22 → take 8 (drop 0 zs) ++ (take 8 (drop 8 zs) ++ drop 2 (take 8 (drop 14 zs))) ≡ zs
parts zs is =
    let past : drop 2 (take 8 (drop 14 zs)) ≡ drop 8 (drop 8 zs) = ap (drop 2) (take_all 8 (drop 14 zs) (grind (arith, length-drop 14 zs, is))) ∙ drop-drop 2 14 zs ∙ sym (drop-drop 8 8 zs) in
    ap (λ ys. take 8 zs ++ (take 8 (drop 8 zs) ++ ys)) past ∙ ap (λ ys. take 8 zs ++ ys) (take-append-drop 8 (drop 8 zs)) ∙ take-append-drop 8 zs

module _ (xs ys : List ℕ) (long : length xs ≡ 22) (other_long : length ys ≡ 22) (bytes : AreBytes xs) (other_bytes : AreBytes ys) where
  abbrev pub word_at : List ℕ → ℕ → ℕ
  word_at zs at = from_le_bytes w64 (take 8 (drop at zs))

  one_part : (at : ℕ) → at ≤ 14 → word_at xs at ≡ word_at ys at → take 8 (drop at xs) ≡ take 8 (drop at ys)
  one_part at fits same =
      one_word _ _ (length-take-le 8 (drop at xs) (grind (arith, length-drop at xs, long))) (length-take-le 8 (drop at ys) (grind (arith, length-drop at ys, other_long))) (first_bytes 8 _ (last_bytes at xs bytes)) (first_bytes 8 _ (last_bytes at ys other_bytes)) same

  -- the numbers tell all bytes
  pub same_words : word_at xs 0 ≡ word_at ys 0 → word_at xs 8 ≡ word_at ys 8 → word_at xs 14 ≡ word_at ys 14 → xs ≡ ys
  same_words p q r =
      sym (parts xs long) ∙ (λ i. one_part 0 (omega arith) p i ++ (one_part 8 (omega arith) q i ++ drop 2 (one_part 14 (omega arith) r i))) ∙ parts ys other_long
