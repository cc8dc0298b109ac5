-- What follows a tag is a format.
use Rattle.std.proofs.Common.{◌≡◌, ℕ, ◌^◌, ◌<◌, ◌≤◌, Bool, true, false, not, cond, eqb, leb, List, [], ◌++◌, length, ℤ, pos, negsuc, refl, sym, ap, subst, ◌∙◌, arith, rules}
use Rattle.std.specs.Prelude.{FitsSigned}
use Rattle.std.specs.Str.{is_utf8}
use Rattle.std.specs.Int.{w64, to_be_bytes, cast_signed, cast_unsigned}
use Rattle.std.proofs.lemmas.Bool.{eqb-true, leb-true, le-leb}
use Rattle.std.proofs.lemmas.Int.{to_z-of_z, of_z-to_z}
use Rattle.rds_names.specs.Conditions.{and_true}
use Rattle.rds_names.specs.declared.scalar.Scalar.{Scalar}
use Rattle.rds_names.specs.declared.scalar.Scalar.TheVariants.{Null, Bool as Truth, Int, Text}
use Rattle.rds_bytes.specs.declared.packed.TheConstants.{MAX_PACKED}
use Rattle.rds_bytes.specs.OneText.{HasOneText}
use Rattle.rds_bytes.specs.Packed.{packed_at, packed_text, HasPackedText}
use Rattle.rds_bytes.specs.Reading.{Reader, made_at, when_at, is_between, int_at, int_scalar, text_scalar}
use Rattle.rds_bytes.specs.Values.{IsScalar}
use Rattle.rds_bytes.proofs.Format.{IsFormat, number64, made_format, when_format, refit}
use Rattle.rds_bytes.proofs.Lists.{string_format}
use Rattle.rds_packed.specs.PackedReading.{given_at, packed_string_at, is_wide, wide_at, rising_scalar, falling_scalar, packed_text_scalar_at, payload_at}
use Rattle.rds_packed.specs.PackedTexts.{number_tag, value_tag, number_payload, payload_text}
use Rattle.rds_packed.proofs.Combined.{packed_format, given_format, respell, chosen_format, bad_format, image_format}

-- ---- whole numbers and texts

int_there : (z : ℤ) → FitsSigned w64 z → (cast_unsigned w64 z < 2 ^ 64) × (cast_signed w64 (cast_unsigned w64 z) ≡ z)
int_there z h = (search rules, to_z-of_z w64 z h)

int_back : (n : ℕ) → n < 2 ^ 64 → FitsSigned w64 (cast_signed w64 n) × (cast_unsigned w64 (cast_signed w64 n) ≡ n)
int_back n h = (search rules, of_z-to_z w64 n h)

abbrev bits_text : ℤ → List ℕ
bits_text z = to_be_bytes w64 (cast_unsigned w64 z)

int_format : IsFormat int_at bits_text (FitsSigned w64)
unfolding int_at
int_format = made_format (cast_signed w64) (cast_unsigned w64) _ _ _ _ int_there int_back number64

abbrev IsWideInt : ℤ → Type 0
IsWideInt z = FitsSigned w64 z × (is_wide z ≡ true)

wide_format : IsFormat wide_at bits_text IsWideInt
unfolding wide_at
wide_format = when_format is_wide int_at bits_text (FitsSigned w64) int_format

abbrev IsText : List ℕ → Type 0
IsText t = (length t ≤ 1024) × (is_utf8 t ≡ true)

-- ---- the values of a tag

abbrev pub Tagged : ℕ → Scalar → Type 0
Tagged k v = (value_tag v ≡ k) × IsScalar v

-- what a value with the tag is
abbrev Shape : ℕ → Scalar → Type 0
Shape k v =
    cond (eqb k 0) (v ≡ Null)
    (cond (eqb k 1) (v ≡ Truth false)
    (cond (eqb k 2) (v ≡ Truth true)
    (cond (eqb k 3) ((t : List ℕ) × IsText t × (text_scalar t ≡ v))
    (cond (eqb k 4) ((n : ℕ) × HasPackedText n × (rising_scalar n ≡ v))
    (cond (eqb k 5) ((n : ℕ) × HasPackedText n × (falling_scalar n ≡ v))
    (cond (eqb k 6) ((z : ℤ) × IsWideInt z × (int_scalar z ≡ v)) ⊥))))))

rising_shape : (n : ℕ) (b : Bool) → leb n MAX_PACKED ≡ b → FitsSigned w64 (pos n) → Shape (cond b 4 6) (Int (pos n))
rising_shape n true e fits = (n, leb-true n MAX_PACKED e, refl)
rising_shape n false e fits = (pos n, (fits, ap not e), refl)

falling_shape : (n : ℕ) (b : Bool) → leb n MAX_PACKED ≡ b → FitsSigned w64 (negsuc n) → Shape (cond b 5 6) (Int (negsuc n))
falling_shape n true e fits = (n, leb-true n MAX_PACKED e, refl)
falling_shape n false e fits = (negsuc n, (fits, ap not e), refl)

shape_of : (v : Scalar) → IsScalar v → Shape (value_tag v) v
shape_of Null is = refl
shape_of (Truth true) is = refl
shape_of (Truth false) is = refl
shape_of (Text t) is = (t, is, refl)
shape_of (Int (pos n)) is = rising_shape n (leb n MAX_PACKED) refl is
shape_of (Int (negsuc n)) is = falling_shape n (leb n MAX_PACKED) refl is

shaped : (k : ℕ) (v : Scalar) → Tagged k v → Shape k v
shaped k v h = subst (λ (n : ℕ). Shape n v) h.0 (shape_of v h.1)

-- ---- each tag

-- a tag that stands for the whole value
given_value : (k : ℕ) (v : Scalar) → payload_text v ≡ [] → Tagged k v → ((w : Scalar) → Tagged k w → w ≡ v) → IsFormat (given_at v) payload_text (Tagged k)
given_value k v none is only =
    refit (given_at v) payload_text (λ w. w ≡ v) (Tagged k) (λ w e. subst (Tagged k) (sym e) is) only
    (respell (given_at v) (λ _. []) payload_text (λ w. w ≡ v) (λ w e. sym (ap payload_text e ∙ none)) (given_format v))

module _ (one : HasOneText packed_at packed_text HasPackedText) where
  string_value_format : IsFormat (when_at (λ t. leb (length t) 1024) packed_string_at) (λ t. packed_text (length t) ++ t) IsText
  unfolding packed_string_at
  string_value_format =
      refit _ _ _ IsText
      (λ t h. (leb-true (length t) 1024 h.1, h.0.1))
      (λ t h. (let le = h.0 in (((omega arith, and_true _ _ (le-leb 0 (length t) (omega arith)) (le-leb (length t) 1024 le)), h.1), le-leb (length t) 1024 le)))
      (when_format (λ t. leb (length t) 1024) _ _ _ (when_format is_utf8 _ _ _ (string_format _ _ _ (when_format (is_between 0 1024) _ _ _ (packed_format one)))))

  text_value : IsFormat packed_text_scalar_at payload_text (Tagged 3)
  unfolding packed_text_scalar_at
  text_value = image_format text_scalar _ _ IsText payload_text (Tagged 3) (λ t h. ((refl, h), refl)) (shaped 3) string_value_format

  tag_below : (tag n : ℕ) → HasPackedText n → number_tag tag n ≡ tag
  tag_below tag n h = ap (λ b. cond b tag 6) (le-leb n MAX_PACKED h)

  payload_below : (n : ℕ) (z : ℤ) → HasPackedText n → packed_text n ≡ number_payload n z
  payload_below n z h = sym (ap (λ b. cond b (packed_text n) (bits_text z)) (le-leb n MAX_PACKED h))

  fits_up : (n : ℕ) → HasPackedText n → FitsSigned w64 (pos n)
  fits_up n h = search rules

  fits_down : (n : ℕ) → HasPackedText n → FitsSigned w64 (negsuc n)
  fits_down n h = search rules

  rising_value : IsFormat (made_at rising_scalar packed_at) payload_text (Tagged 4)
  rising_value =
      image_format rising_scalar packed_at packed_text HasPackedText payload_text (Tagged 4)
      (λ n h. ((tag_below 4 n h, fits_up n h), payload_below n (pos n) h)) (shaped 4) (packed_format one)

  falling_value : IsFormat (made_at falling_scalar packed_at) payload_text (Tagged 5)
  falling_value =
      image_format falling_scalar packed_at packed_text HasPackedText payload_text (Tagged 5)
      (λ n h. ((tag_below 5 n h, fits_down n h), payload_below n (negsuc n) h)) (shaped 5) (packed_format one)

-- ---- a number that isn't packed

wide_tag : (tag n : ℕ) (b : Bool) → leb n MAX_PACKED ≡ b → not b ≡ true → number_tag tag n ≡ 6
wide_tag tag n true e h = absurd cc
wide_tag tag n false e h = ap (λ b. cond b tag 6) e

wide_payload : (n : ℕ) (z : ℤ) (b : Bool) → leb n MAX_PACKED ≡ b → not b ≡ true → bits_text z ≡ number_payload n z
wide_payload n z true e h = absurd cc
wide_payload n z false e h = sym (ap (λ b. cond b (packed_text n) (bits_text z)) e)

wide_there : (z : ℤ) → IsWideInt z → Tagged 6 (int_scalar z) × (bits_text z ≡ payload_text (int_scalar z))
wide_there (pos n) h = ((wide_tag 4 n (leb n MAX_PACKED) refl h.1, h.0), wide_payload n (pos n) (leb n MAX_PACKED) refl h.1)
wide_there (negsuc n) h = ((wide_tag 5 n (leb n MAX_PACKED) refl h.1, h.0), wide_payload n (negsuc n) (leb n MAX_PACKED) refl h.1)

wide_value : IsFormat (made_at int_scalar wide_at) payload_text (Tagged 6)
wide_value = image_format int_scalar wide_at bits_text IsWideInt payload_text (Tagged 6) wide_there (shaped 6) wide_format

-- ---- any tag

retag : (tag k : ℕ) (f : Reader Scalar) → eqb tag k ≡ true → IsFormat f payload_text (Tagged k) → IsFormat f payload_text (Tagged tag)
retag tag k f e p = subst (λ (n : ℕ). IsFormat f payload_text (Tagged n)) (sym (eqb-true tag k e)) p

no_value : (tag : ℕ) → eqb tag 0 ≡ false → eqb tag 1 ≡ false → eqb tag 2 ≡ false → eqb tag 3 ≡ false → eqb tag 4 ≡ false → eqb tag 5 ≡ false → eqb tag 6 ≡ false → (v : Scalar) → Tagged tag v → ⊥
no_value tag e0 e1 e2 e3 e4 e5 e6 v h = (let shape = shaped tag v h in rw (e0, e1, e2, e3, e4, e5, e6) at shape)

pub payload_format : HasOneText packed_at packed_text HasPackedText → (tag : ℕ) → IsFormat (payload_at tag) payload_text (Tagged tag)
unfolding payload_at
payload_format one tag =
    chosen_format (eqb tag 0) _ _ payload_text (Tagged tag) (λ e. retag tag 0 _ e (given_value 0 Null refl (refl, tt) (shaped 0)))
    (λ e0. chosen_format (eqb tag 1) _ _ payload_text (Tagged tag) (λ e. retag tag 1 _ e (given_value 1 (Truth false) refl (refl, tt) (shaped 1)))
    (λ e1. chosen_format (eqb tag 2) _ _ payload_text (Tagged tag) (λ e. retag tag 2 _ e (given_value 2 (Truth true) refl (refl, tt) (shaped 2)))
    (λ e2. chosen_format (eqb tag 3) _ _ payload_text (Tagged tag) (λ e. retag tag 3 _ e (text_value one))
    (λ e3. chosen_format (eqb tag 4) _ _ payload_text (Tagged tag) (λ e. retag tag 4 _ e (rising_value one))
    (λ e4. chosen_format (eqb tag 5) _ _ payload_text (Tagged tag) (λ e. retag tag 5 _ e (falling_value one))
    (λ e5. chosen_format (eqb tag 6) _ _ payload_text (Tagged tag) (λ e. retag tag 6 _ e wide_value)
    (λ e6. bad_format payload_text (Tagged tag) (no_value tag e0 e1 e2 e3 e4 e5 e6))))))))
