-- Rooms in the order of their bytes, by words.
use Rattle.std.proofs.Common.{◌≡◌, ◌∙◌, refl, sym, ap, subst, ℕ, zero, suc, ◌+◌, ◌-◌, ◌*◌, ◌≤◌, ◌<◌, List, [], ◌∷◌, ◌++◌}
use Rattle.std.proofs.Common.{length, take, drop, arith, IsTrue}
use Rattle.std.proofs.Math.ListN.{replicate}
use Rattle.std.proofs.Math.Nat.{mul-le-mul_right}
use Rattle.std.proofs.lemmas.Cmp.{by_ranked, tied_itself, nat_list_cmp_total}
use Rattle.std.proofs.lemmas.Grind.{common_steps}
use Rattle.std.proofs.lemmas.List.{take-append-drop, length-take-le, length-drop, drop-drop, take-take, drop-take}
use Rattle.std.specs.Cmp.{ranks, nat_cmp_is}
use Rattle.std.specs.Cmp.Lexicographic.{slice_cmp}
use Rattle.std.specs.FinMap.{nat_cmp-IsAntisymmetric, slice_cmp-IsAntisymmetric}
use Rattle.std.specs.Int.{w64, from_be_bytes}
use Rattle.std.specs.Ordering.{nat_cmp, ordering_then}
use Rattle.std.specs.declared.cmp.Ordering.{Ordering}
use Rattle.std.specs.declared.cmp.Ordering.TheVariants.{Less, Equal, Greater}
use Rattle.rds_names.specs.declared.key.Form.{Form}
use Rattle.rds_names.specs.declared.key.Form.TheVariants.{Inline}
use Rattle.rds_names.specs.Forms.{bytes_in, is_kept}
use Rattle.rds_names.proofs.Room.{AreBytes, first_bytes, last_bytes, text_length, padded, fits, parts}

abbrev bytewise : List ℕ → List ℕ → Ordering
bytewise = slice_cmp nat_cmp

-- ---- answers, one after the other

then_then : (a b c : Ordering) → ordering_then (ordering_then a b) c ≡ ordering_then a (ordering_then b c)
then_then Less b c = refl
then_then Equal b c = refl
then_then Greater b c = refl

-- an answer that isn't a tie stands
pub then_decided : (a b : Ordering) → (a ≡ Equal → ⊥) → a ≡ ordering_then a b
then_decided Less b untied = refl
then_decided Equal b untied = absurd (untied refl)
then_decided Greater b untied = refl

then_same : (a b c : Ordering) → (a ≡ Equal → b ≡ c) → ordering_then a b ≡ ordering_then a c
then_same Less b c same = refl
then_same Equal b c same = same refl
then_same Greater b c same = refl

-- lists of one length, cut at one place
cut_order : (vs ws xs ys : List ℕ) → length vs ≡ length ws → bytewise (vs ++ xs) (ws ++ ys) ≡ ordering_then (bytewise vs ws) (bytewise xs ys)
cut_order [] [] xs ys long = refl
cut_order [] (w ∷ ws) xs ys long = absurd (omega arith)
cut_order (v ∷ vs) [] xs ys long = absurd (omega arith)
cut_order (v ∷ vs) (w ∷ ws) xs ys long = ap (ordering_then (nat_cmp v w)) (cut_order vs ws xs ys (omega arith)) ∙ sym (then_then (nat_cmp v w) (bytewise vs ws) (bytewise xs ys))

-- ---- bytes as the digits of a number

abbrev above : List ℕ → ℕ
above [] = 1
above (x ∷ xs) = 256 * above xs

abbrev number : List ℕ → ℕ
number [] = 0
number (x ∷ xs) = x * above xs + number xs

one_above : (xs ys : List ℕ) → length xs ≡ length ys → above xs ≡ above ys
one_above [] [] long = refl
one_above [] (y ∷ ys) long = absurd (omega arith)
one_above (x ∷ xs) [] long = absurd (omega arith)
one_above (x ∷ xs) (y ∷ ys) long = ap (λ n. 256 * n) (one_above xs ys (omega arith))

number_below : (xs : List ℕ) → AreBytes xs → number xs < above xs
number_below [] bytes = omega arith
number_below (x ∷ xs) bytes =
    let rest : number xs < above xs = number_below xs (λ i. bytes (suc i)) in
    let digit : x * above xs ≤ 255 * above xs = mul-le-mul_right (above xs) (omega (arith, bytes 0)) in
    omega arith

-- numbers that stand as others do
same_rank : (a b c d : ℕ) → (a < b → c < d) → (a ≡ b → c ≡ d) → (b < a → d < c) → nat_cmp c d ≡ nat_cmp a b
same_rank a b c d less same more =
    by_ranked (a < b) (a ≡ b) (b < a) (nat_cmp a b) (ranks a b)
    (λ is l. sym (nat_cmp_is c d Less (less l)) ∙ sym is)
    (λ is e. sym (nat_cmp_is c d Equal (same e)) ∙ sym is)
    (λ is m. sym (nat_cmp_is c d Greater (more m)) ∙ sym is)

-- the first digit that differs decides
digit_first : (r a b x y : ℕ) → a < r → b < r → x < y → x * r + a < y * r + b
digit_first r a b x y a_fits b_fits less =
    let more : (x + 1) * r ≤ y * r = mul-le-mul_right r (omega arith) in
    omega arith

digit_order : (r a b x y : ℕ) → a < r → b < r → nat_cmp (x * r + a) (y * r + b) ≡ ordering_then (nat_cmp x y) (nat_cmp a b)
digit_order r a b x y a_fits b_fits =
    by_ranked (x < y) (x ≡ y) (y < x) (nat_cmp x y) (ranks x y)
    (λ is less. sym (nat_cmp_is (x * r + a) (y * r + b) Less (digit_first r a b x y a_fits b_fits less)) ∙ sym (ap (λ o. ordering_then o (nat_cmp a b)) is))
    (λ is same.
    let one : x * r ≡ y * r = ap (λ n. n * r) same in
    same_rank a b (x * r + a) (y * r + b) (λ l. omega arith) (λ e. omega arith) (λ m. omega arith) ∙ sym (ap (λ o. ordering_then o (nat_cmp a b)) is))
    (λ is more. sym (nat_cmp_is (x * r + a) (y * r + b) Greater (digit_first r b a y x b_fits a_fits more)) ∙ sym (ap (λ o. ordering_then o (nat_cmp a b)) is))

number_order : (xs ys : List ℕ) → length xs ≡ length ys → AreBytes xs → AreBytes ys → nat_cmp (number xs) (number ys) ≡ bytewise xs ys
number_order [] [] long bytes other_bytes = refl
number_order [] (y ∷ ys) long bytes other_bytes = absurd (omega arith)
number_order (x ∷ xs) [] long bytes other_bytes = absurd (omega arith)
number_order (x ∷ xs) (y ∷ ys) long bytes other_bytes =
    let one : above xs ≡ above ys = one_above xs ys (omega arith) in
    let fits : number ys < above xs = omega (arith, number_below ys (λ i. other_bytes (suc i))) in
    ap (λ r. nat_cmp (x * above xs + number xs) (y * r + number ys)) (sym one)
    ∙ digit_order (above xs) (number xs) (number ys) x y (number_below xs (λ i. bytes (suc i))) fits
    ∙ ap (ordering_then (nat_cmp x y)) (number_order xs ys (omega arith) (λ i. bytes (suc i)) (λ i. other_bytes (suc i)))

eight : (xs : List ℕ) → length xs ≡ 8 → from_be_bytes w64 xs ≡ number xs
eight [] long = absurd (omega arith)
eight (a ∷ []) long = absurd (omega arith)
eight (a ∷ b ∷ []) long = absurd (omega arith)
eight (a ∷ b ∷ c ∷ []) long = absurd (omega arith)
eight (a ∷ b ∷ c ∷ d ∷ []) long = absurd (omega arith)
eight (a ∷ b ∷ c ∷ d ∷ e ∷ []) long = absurd (omega arith)
eight (a ∷ b ∷ c ∷ d ∷ e ∷ f ∷ []) long = absurd (omega arith)
eight (a ∷ b ∷ c ∷ d ∷ e ∷ f ∷ g ∷ []) long = absurd (omega arith)
eight (a ∷ b ∷ c ∷ d ∷ e ∷ f ∷ g ∷ h ∷ []) long = omega arith
eight (a ∷ b ∷ c ∷ d ∷ e ∷ f ∷ g ∷ h ∷ x ∷ xs) long = absurd (omega arith)

word_order : (xs ys : List ℕ) → length xs ≡ 8 → length ys ≡ 8 → AreBytes xs → AreBytes ys → nat_cmp (from_be_bytes w64 xs) (from_be_bytes w64 ys) ≡ bytewise xs ys
word_order xs ys long other_long bytes other_bytes =
    (λ i. nat_cmp (eight xs long i) (eight ys other_long i)) ∙ number_order xs ys (long ∙ sym other_long) bytes other_bytes

-- ---- rooms, by their words

module _ (xs ys : List ℕ) (long : length xs ≡ 22) (other_long : length ys ≡ 22) (bytes : AreBytes xs) (other_bytes : AreBytes ys) where
  abbrev pub part : List ℕ → ℕ → List ℕ
  part zs at = take 8 (drop at zs)

  abbrev pub ordered_at : List ℕ → ℕ → ℕ
  ordered_at zs at = from_be_bytes w64 (part zs at)

  eight_long : (zs : List ℕ) (at : ℕ) → length zs ≡ 22 → at ≤ 14 → length (part zs at) ≡ 8
  eight_long zs at is fits = length-take-le 8 (drop at zs) (grind (arith, length-drop at zs, is))

  part_order : (at : ℕ) → at ≤ 14 → nat_cmp (ordered_at xs at) (ordered_at ys at) ≡ bytewise (part xs at) (part ys at)
  part_order at fits = word_order (part xs at) (part ys at) (eight_long xs at long fits) (eight_long ys at other_long fits) (first_bytes 8 _ (last_bytes at xs bytes)) (first_bytes 8 _ (last_bytes at ys other_bytes))

  abbrev tail : List ℕ → List ℕ
  tail zs = drop 2 (part zs 14)

  -- what the last word has of the one before it
  overlap : (zs : List ℕ) → length zs ≡ 22 → take 2 (part zs 14) ≡ drop 6 (part zs 8)
  overlap zs is = take-take 2 8 (drop 14 zs) (omega arith) ∙ ap (take 2) (sym (drop-drop 6 8 zs)) ∙ sym (drop-take 6 2 (drop 8 zs))

  last_order : bytewise (part xs 8) (part ys 8) ≡ Equal → bytewise (tail xs) (tail ys) ≡ bytewise (part xs 14) (part ys 14)
  last_order tied =
      let same : part xs 8 ≡ part ys 8 = slice_cmp-IsAntisymmetric nat_cmp-IsAntisymmetric _ _ tied in
      let shared : take 2 (part xs 14) ≡ take 2 (part ys 14) = overlap xs long ∙ ap (drop 6) same ∙ sym (overlap ys other_long) in
      let none : bytewise (take 2 (part xs 14)) (take 2 (part ys 14)) ≡ Equal = ap (λ zs. bytewise zs (take 2 (part ys 14))) shared ∙ tied_itself nat_list_cmp_total (take 2 (part ys 14)) in
      sym (
      (λ i. bytewise (sym (take-append-drop 2 (part xs 14)) i) (sym (take-append-drop 2 (part ys 14)) i))
      ∙ cut_order (take 2 (part xs 14)) (take 2 (part ys 14)) (tail xs) (tail ys) (ap length shared)
      ∙ ap (λ o. ordering_then o (bytewise (tail xs) (tail ys))) none)

  -- the first word that differs decides
  by_words : bytewise xs ys ≡ ordering_then (nat_cmp (ordered_at xs 0) (ordered_at ys 0)) (ordering_then (nat_cmp (ordered_at xs 8) (ordered_at ys 8)) (nat_cmp (ordered_at xs 14) (ordered_at ys 14)))
  by_words =
      (λ i. bytewise (sym (parts xs long) i) (sym (parts ys other_long) i))
      ∙ cut_order (part xs 0) (part ys 0) (part xs 8 ++ tail xs) (part ys 8 ++ tail ys) (eight_long xs 0 long (omega arith) ∙ sym (eight_long ys 0 other_long (omega arith)))
      ∙ ap (ordering_then (bytewise (part xs 0) (part ys 0))) (cut_order (part xs 8) (part ys 8) (tail xs) (tail ys) (eight_long xs 8 long (omega arith) ∙ sym (eight_long ys 8 other_long (omega arith))))
      ∙ ap (ordering_then (bytewise (part xs 0) (part ys 0))) (then_same (bytewise (part xs 8) (part ys 8)) (bytewise (tail xs) (tail ys)) (bytewise (part xs 14) (part ys 14)) last_order)
      ∙ sym (λ i. ordering_then (part_order 0 (omega arith) i) (ordering_then (part_order 8 (omega arith) i) (part_order 14 (omega arith) i)))

  abbrev pub word_cmp : ℕ → Ordering
  word_cmp at = nat_cmp (ordered_at xs at) (ordered_at ys at)

  pub by_first : (o : Ordering) → o ≡ word_cmp 0 → (o ≡ Equal → ⊥) → o ≡ bytewise xs ys
  by_first o is untied =
      let rest = ordering_then (word_cmp 8) (word_cmp 14) in
      then_decided o rest untied ∙ ap (λ first. ordering_then first rest) is ∙ sym by_words

  pub by_second : (o : Ordering) → Equal ≡ word_cmp 0 → o ≡ word_cmp 8 → (o ≡ Equal → ⊥) → o ≡ bytewise xs ys
  by_second o tied is untied =
      then_decided o (word_cmp 14) untied ∙ (λ i. ordering_then (tied i) (ordering_then (is i) (word_cmp 14))) ∙ sym by_words

  pub by_third : (o : Ordering) → Equal ≡ word_cmp 0 → Equal ≡ word_cmp 8 → o ≡ word_cmp 14 → o ≡ bytewise xs ys
  by_third o tied other_tied is = (λ i. ordering_then (tied i) (ordering_then (other_tied i) (is i))) ∙ sym by_words

-- ---- texts, by their rooms and lengths

abbrev zeros : ℕ → List ℕ
zeros n = replicate n 0

-- nothing is less than zeros
zeros_first : (n : ℕ) (ys : List ℕ) → length ys ≡ n → ordering_then (bytewise (zeros n) ys) Less ≡ Less
zeros_first zero [] long = refl
zeros_first zero (y ∷ ys) long = absurd (omega arith)
zeros_first (suc n) [] long = absurd (omega arith)
zeros_first (suc n) (zero ∷ ys) long = zeros_first n ys (omega arith)
zeros_first (suc n) (suc y ∷ ys) long = ap (λ o. ordering_then (ordering_then o (bytewise (zeros n) ys)) Less) (sym (nat_cmp_is 0 (suc y) Less (omega arith)))

zeros_last : (n : ℕ) (ys : List ℕ) → length ys ≡ n → ordering_then (bytewise ys (zeros n)) Greater ≡ Greater
zeros_last zero [] long = refl
zeros_last zero (y ∷ ys) long = absurd (omega arith)
zeros_last (suc n) [] long = absurd (omega arith)
zeros_last (suc n) (zero ∷ ys) long = zeros_last n ys (omega arith)
zeros_last (suc n) (suc y ∷ ys) long = ap (λ o. ordering_then (ordering_then o (bytewise ys (zeros n))) Greater) (sym (nat_cmp_is (suc y) 0 Greater (omega arith)))

longer : (m n : ℕ) → nat_cmp (suc m) (suc n) ≡ nat_cmp m n
longer m n = same_rank m n (suc m) (suc n) (λ l. omega arith) (λ e. omega arith) (λ o. omega arith)

-- zeros behind texts are undone by their lengths
text_order : (vs ws : List ℕ) (p q : ℕ) → length vs + p ≡ length ws + q → bytewise vs ws ≡ ordering_then (bytewise (vs ++ zeros p) (ws ++ zeros q)) (nat_cmp (length vs) (length ws))
text_order [] [] p q long =
    let same : q ≡ p = omega arith in
    sym (ap (λ o. ordering_then o Equal) (ap (λ n. bytewise (zeros p) (zeros n)) same ∙ tied_itself nat_list_cmp_total (zeros p)))
text_order [] (w ∷ ws) p q long =
    let whole : length ((w ∷ ws) ++ zeros q) ≡ p = grind (arith, common_steps, long) in
    sym (ap (ordering_then (bytewise (zeros p) ((w ∷ ws) ++ zeros q))) (sym (nat_cmp_is 0 (length (w ∷ ws)) Less (omega arith))) ∙ zeros_first p ((w ∷ ws) ++ zeros q) whole)
text_order (v ∷ vs) [] p q long =
    let whole : length ((v ∷ vs) ++ zeros p) ≡ q = grind (arith, common_steps, long) in
    sym (ap (ordering_then (bytewise ((v ∷ vs) ++ zeros p) (zeros q))) (sym (nat_cmp_is (length (v ∷ vs)) 0 Greater (omega arith))) ∙ zeros_last q ((v ∷ vs) ++ zeros p) whole)
text_order (v ∷ vs) (w ∷ ws) p q long =
    ap (ordering_then (nat_cmp v w)) (text_order vs ws p q (omega arith))
    ∙ sym (then_then (nat_cmp v w) (bytewise (vs ++ zeros p) (ws ++ zeros q)) (nat_cmp (length vs) (length ws)))
    ∙ ap (ordering_then (ordering_then (nat_cmp v w) (bytewise (vs ++ zeros p) (ws ++ zeros q)))) (sym (longer (length vs) (length ws)))

inline_order : (room others : List ℕ) (n m : ℕ) → IsTrue (is_kept (Inline room n)) → IsTrue (is_kept (Inline others m)) → bytewise (take n room) (take m others) ≡ ordering_then (bytewise room others) (nat_cmp n m)
inline_order room others n m kept other_kept =
    let long = text_length room n kept in
    let other_long = text_length others m other_kept in
    text_order (take n room) (take m others) (22 - n) (22 - m) (omega (arith, long, other_long, fits room n kept, fits others m other_kept))
    ∙ (λ i. ordering_then (bytewise (padded room n kept i) (padded others m other_kept i)) (nat_cmp (long i) (other_long i)))

-- inline keys, by their rooms and lengths
pub key_order : (form other : Form) (room others : List ℕ) (n m : ℕ) (key that : List ℕ) → form ≡ Inline room n → other ≡ Inline others m → bytes_in form ≡ key → bytes_in other ≡ that → IsTrue (is_kept form) → IsTrue (is_kept other) → bytewise key that ≡ ordering_then (bytewise room others) (nat_cmp n m)
key_order form other room others n m key that is other_is has other_has kept other_kept =
    (λ i. bytewise (sym has i) (sym other_has i))
    ∙ (λ i. bytewise (bytes_in (is i)) (bytes_in (other_is i)))
    ∙ inline_order room others n m (subst (λ f. IsTrue (is_kept f)) is kept) (subst (λ f. IsTrue (is_kept f)) other_is other_kept)
