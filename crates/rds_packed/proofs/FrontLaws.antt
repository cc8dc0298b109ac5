-- What keys share, and a table whose keys share their fronts xs a format.
use Rattle.std.proofs.Common.{◌≡◌, ℕ, zero, suc, ◌+◌, ◌-◌, ◌<◌, ◌≤◌, Bool, true, false, cond, eqb, leb, List, [], ◌∷◌, ◌++◌, length, take, drop, refl, sym, ap, ◌∙◌, arith}
use Rattle.std.specs.Str.{is_utf8}
use Rattle.std.proofs.lemmas.Bool.{leb-true, le-leb, eqb-true, eq-eqb}
use Rattle.std.proofs.lemmas.Bool.Decides.{nat_tests}
use Rattle.std.proofs.lemmas.List.{take-append-drop, length-append, length-take-le, length-drop, drop_at}
use Rattle.std.proofs.lemmas.List.Sums.{common_prefix_len-le}
use Rattle.rds_names.specs.Conditions.{and_true, and_left, and_right}
use Rattle.rds_names.specs.Key.{is_key}
use Rattle.rds_bytes.specs.OneText.{HasOneText}
use Rattle.rds_bytes.specs.Packed.{packed_at, packed_text, HasPackedText}
use Rattle.rds_bytes.specs.Reading.{byte_at, is_between, is_new, last, when_at}
use Rattle.rds_bytes.specs.Tabled.{IsShortTable}
use Rattle.rds_bytes.specs.Values.{is_key_text, IsKeyText}
use Rattle.rds_bytes.proofs.Format.{IsFormat, byte_format, then_format, made_format, when_format, refit}
use Rattle.rds_bytes.proofs.Lists.{string_format}
use Rattle.rds_bytes.proofs.PartFormats.{IsNewOf, all_pass, differ_of, new_of, last-push}
use Rattle.rds_bytes.proofs.TabledFormats.{one_text}
use Rattle.rds_packed.specs.FrontTexts as front
use Rattle.rds_packed.specs.FrontTexts.{shared, front_text, fronts_text, packed_table_text, FrontParts, own_at, parts_at, joined, is_front, or_nothing}
use Rattle.rds_packed.specs.PackedReading.{packed_u32_at}
use Rattle.rds_packed.proofs.Combined.{respell}
use Rattle.rds_packed.proofs.ListFormats.{texts_after, after_list_format}
use Rattle.rds_packed.proofs.RowFormats.{packed_u32_format}

-- ---- what is shared

pub shared_most : (before key : List ℕ) → (shared before key ≤ length before) × (shared before key ≤ length key)
shared_most before key = common_prefix_len-le eqb before key

same_head : (a b : ℕ) (front other : List ℕ) → eqb a b ≡ true → front ≡ other → a ∷ front ≡ b ∷ other
same_head a b front other e tail = λ i. eqb-true a b e i ∷ tail i

take_more : (n x : ℕ) (xs : List ℕ) → take (1 + n) (x ∷ xs) ≡ x ∷ take n xs
take_more n x xs = let one : 1 + n ≡ suc n = omega arith in ap (λ m. take m (x ∷ xs)) one

-- the front that they share is that of either
shared_front : (before key : List ℕ) → take (shared before key) before ≡ take (shared before key) key
shared_front [] key = refl
shared_front (a ∷ xs) [] = refl
shared_front (a ∷ xs) (b ∷ ys) = by (eqb a b) refl (shared_front xs ys)
  where
    by : (t : Bool) → eqb a b ≡ t → take (shared xs ys) xs ≡ take (shared xs ys) ys → take (cond t (1 + shared xs ys) 0) (a ∷ xs) ≡ take (cond t (1 + shared xs ys) 0) (b ∷ ys)
    by true e later = take_more (shared xs ys) a xs ∙ same_head a b (take (shared xs ys) xs) (take (shared xs ys) ys) e later ∙ sym (take_more (shared xs ys) b ys)
    by false e later = refl

-- what a key shares with the front of another and what follows it
pub shared_after : (before own : List ℕ) (n : ℕ) → n ≤ length before → shared before (take n before ++ own) ≡ n + shared (drop n before) own
shared_after before own zero le = omega arith
shared_after [] own (suc n) le = absurd (omega (arith, le))
shared_after (a ∷ xs) own (suc n) le =
    let same : eqb a a ≡ true = eq-eqb a a refl in
    let later = shared_after xs own n (omega (arith, le)) in
    ap (λ t. cond t (1 + shared xs (take n xs ++ own)) 0) same ∙ omega (arith, later)

-- a front is the whole of what is shared exactly where nothing follows that is
pub front_is : (before own : List ℕ) (n : ℕ) (b : Bool) → n ≤ length before → eqb (shared (drop n before) own) 0 ≡ b → is_front before (n, own) ≡ b
front_is before own n b le e =
    let all = shared_after before own n le in
    ap (λ m. eqb m n) all ∙ no_more n (shared (drop n before) own) ∙ e
  where
    no_more : (n k : ℕ) → eqb (n + k) n ≡ eqb k 0
    no_more n k = grind (arith, nat_tests)

-- what is counted is all that is shared, where either has no more
pub ends_before : (before key : List ℕ) (n : ℕ) → length before ≤ n → shared before key ≡ n + shared (drop n before) (drop n key) → n ≡ shared before key
ends_before before key n le is = let most = shared_most (drop n before) (drop n key) in let left = length-drop n before in omega (arith, most.0, left, le, is)

pub ends_key : (before key : List ℕ) (n : ℕ) → length key ≤ n → shared before key ≡ n + shared (drop n before) (drop n key) → n ≡ shared before key
ends_key before key n le is = let most = shared_most (drop n before) (drop n key) in let left = length-drop n key in omega (arith, most.1, left, le, is)

-- ---- a key after another

abbrev parts_of : List ℕ → List ℕ → FrontParts
parts_of before key = (shared before key, drop (shared before key) key)

abbrev IsOwn : ℕ → List ℕ → Type 0
IsOwn count own = (length own < 256) × (is_between 1 64 (count + length own) ≡ true)

abbrev AreParts : List ℕ → FrontParts → Type 0
AreParts before p = (((p.0 < 256) × (leb p.0 (length before) ≡ true)) × IsOwn p.0 p.1) × (is_front before p ≡ true)

abbrev IsWithin : List ℕ → Type 0
IsWithin key = is_between 1 64 (length key) ≡ true

parts_joined : (before key : List ℕ) → joined before (parts_of before key) ≡ key
parts_joined before key = ap (λ (t : List ℕ). t ++ drop (shared before key) key) (shared_front before key) ∙ take-append-drop (shared before key) key

parts_there : (before key : List ℕ) → IsWithin key → AreParts before (parts_of before key) × (joined before (parts_of before key) ≡ key)
parts_there before key within =
    let most = shared_most before key in
    let n = shared before key in
    let long = leb-true (length key) 64 (and_right (leb 1 (length key)) _ within) in
    let left = length-drop n key in
    let all : n + length (drop n key) ≡ length key = omega (arith, most.1, left) in
    let whole = parts_joined before key in (
      (
        (
          (omega (arith, most.1, long), le-leb n (length before) most.0),
          (omega (arith, long, all), ap (is_between 1 64) all ∙ within),
        ),
        eq-eqb _ n (ap (shared before) whole),
      ),
      whole,
    )

parts_back : (before : List ℕ) (p : FrontParts) → AreParts before p → IsWithin (joined before p) × (parts_of before (joined before p) ≡ p)
parts_back before p h =
    let le = leb-true p.0 (length before) h.0.0.1 in
    let front = length-take-le p.0 before le in
    let all : length (joined before p) ≡ p.0 + length p.1 = omega (arith, length-append (take p.0 before) p.1, front) in
    let count : shared before (joined before p) ≡ p.0 = eqb-true _ p.0 h.1 in
    (ap (is_between 1 64) all ∙ h.0.1.1, λ i. (count i, (ap (λ n. drop n (joined before p)) count ∙ drop_at (take p.0 before) p.1 p.0 front) i))

key_within : (key : List ℕ) → is_key_text key ≡ true → IsWithin key
key_within key is =
    let key_is = and_right (is_utf8 key) (is_key key) is in and_left (is_between 1 64 (length key)) _ key_is

own_format : (count : ℕ) → IsFormat (own_at count) (λ t. length t ∷ t) (IsOwn count)
own_format count = string_format _ _ _ (when_format (λ n. is_between 1 64 (count + n)) byte_at (λ b. b ∷ []) (λ b. b < 256) byte_format)

front_bytes_format : (before : List ℕ) → IsFormat (front.front_bytes_at before) (front_text before) IsWithin
unfolding front.front_bytes_at
front_bytes_format before =
    made_format (joined before) (parts_of before) (when_at (is_front before) (parts_at before)) (λ p. p.0 ∷ (length p.1 ∷ p.1)) (AreParts before) IsWithin (parts_there before) (parts_back before)
    (when_format (is_front before) (parts_at before) _ (λ p. ((p.0 < 256) × (leb p.0 (length before) ≡ true)) × IsOwn p.0 p.1)
    (then_format _ _ (λ b. b ∷ []) (λ _ t. length t ∷ t) _ IsOwn (when_format (λ n. leb n (length before)) byte_at (λ b. b ∷ []) (λ b. b < 256) byte_format) (λ count _. own_format count)))

front_key_format : (before : List ℕ) → IsFormat (front.front_key_at before) (front_text before) IsKeyText
unfolding front.front_key_at
front_key_format before =
    refit _ _ _ IsKeyText
    (λ key h. and_true (is_utf8 key) (is_key key) h.0.1 h.1)
    (λ key h. ((key_within key h, and_left (is_utf8 key) (is_key key) h), and_right (is_utf8 key) (is_key key) h))
    (when_format is_key _ (front_text before) _ (when_format is_utf8 _ (front_text before) IsWithin (front_bytes_format before)))

-- ---- a table

abbrev text_after : List (List ℕ) → List ℕ → List ℕ
text_after before key = front_text (or_nothing (last before)) key

keys_text : (keys before : List (List ℕ)) → texts_after text_after before keys ≡ fronts_text (or_nothing (last before)) keys
keys_text [] before = refl
keys_text (k ∷ keys) before =
    let now : or_nothing (last (before ++ k ∷ [])) ≡ k = ap or_nothing (last-push before k) in
    ap (λ (t : List ℕ). text_after before k ++ t) (keys_text keys (before ++ k ∷ []) ∙ ap (λ (b : List ℕ). fronts_text b keys) now)

new_front_format : (before : List (List ℕ)) → IsFormat (front.new_front_at before) (text_after before) (IsNewOf is_key_text before)
unfolding front.new_front_at
new_front_format before = when_format (is_new before) _ _ _ (front_key_format (or_nothing (last before)))

module _ (one : HasOneText packed_at packed_text HasPackedText) where
  table_format : IsFormat front.packed_table_at packed_table_text IsShortTable
  unfolding front.packed_table_at packed_table_text
  table_format =
      respell _ (λ table. packed_text (length table) ++ texts_after text_after [] table) (λ table. packed_text (length table) ++ fronts_text [] table) IsShortTable
      (λ table _. ap (λ (t : List ℕ). packed_text (length table) ++ t) (keys_text table []))
      (refit _ _ _ IsShortTable
      (λ table h. (h.0, record { texts = all_pass is_key_text table [] h.1; differ = differ_of is_key_text table [] refl h.1 }))
      (λ table h. (h.0, new_of is_key_text table [] h.1.differ h.1.texts))
      (after_list_format front.new_front_at text_after (IsNewOf is_key_text) new_front_format packed_u32_at packed_text _ (packed_u32_format one)))

  pub packed_table_one_text : HasOneText front.packed_table_at packed_table_text IsShortTable
  packed_table_one_text = one_text _ _ _ table_format
