-- Formats of packed numbers, and more ways to put formats together.
use Rattle.std.proofs.Common.{◌≡◌, ℕ, zero, suc, ◌<◌, Bool, true, false, cond, ltb, List, [], ◌∷◌, ◌++◌, length, drop, Ok, Err, refl, sym, ap, subst, ◌∙◌, inl, inr}
use Rattle.std.proofs.lemmas.List.{drop_at}
use Rattle.rds_names.specs.declared.fault.Fault.{Fault}
use Rattle.rds_names.specs.declared.fault.Fault.TheVariants.{Bad}
use Rattle.rds_bytes.specs.OneText.{HasOneText}
use Rattle.rds_bytes.specs.Packed.{packed_by, nothing_at, packed_up_to, packed_at, packed_text, HasPackedText}
use Rattle.rds_bytes.specs.Reading.{◌>>=◌, Reader, then_at, made_at, when_at, byte_at}
use Rattle.rds_bytes.proofs.Format.{IsBytes, IsBytes-drop, IsFormat, Takes, CutOrBad, bind_ok, bind_err, err_is, ok_is, done, byte_format, when_format}
use Rattle.rds_packed.specs.PackedReading.{given_at}

-- ---- packed numbers

passed_err : {A : Type 0} (b : Bool) (x : A) (e : Fault) → cond b (Ok x) (Err Bad) ≡ Err e → CutOrBad e
passed_err true x e h = absurd (let bad : done x ≡ Err e = h in cc)
passed_err {A} false x e h = inr (sym (err_is {A = A} Bad e h))

rest_faults : (more : ℕ) → ((bytes : List ℕ) (e : Fault) → IsBytes bytes → packed_up_to more bytes ≡ Err e → CutOrBad e) → (b : Bool) (bytes : List ℕ) (e : Fault) → IsBytes bytes
    → cond b nothing_at (when_at (ltb 0) (packed_up_to more)) bytes ≡ Err e → CutOrBad e
rest_faults more again true bytes e fits h = absurd (let bad : done {A = ℕ × List ℕ} (0, bytes) ≡ Err e = h in cc)
rest_faults more again false bytes e fits h =
    elim (bind_err (packed_up_to more bytes) (λ a. cond (ltb 0 a.0) (Ok a) (Err Bad)) e h) [
      | inl first ↦ again bytes e fits first
      | inr a ↦ passed_err (ltb 0 a.0.0) a.0 e a.2
    ]

packed_faults : (more : ℕ) (bytes : List ℕ) (e : Fault) → IsBytes bytes → packed_up_to more bytes ≡ Err e → CutOrBad e
unfolding packed_up_to
packed_faults zero bytes e fits h = (when_format (λ b. ltb b 128) byte_at (λ b. b ∷ []) (λ b. b < 256) byte_format).faults bytes e fits h
packed_faults (suc more) bytes e fits h =
    let g : ℕ → Reader ℕ = λ b. cond (ltb b 128) nothing_at (when_at (ltb 0) (packed_up_to more)) in
    elim (bind_err (then_at byte_at g bytes) (λ a. Ok (packed_by a.0, a.1)) e h) [
      | inr a ↦ absurd (let bad : done (packed_by a.0.0, a.0.1) ≡ Err e = a.2 in cc)
      | inl both ↦ elim (bind_err (byte_at bytes) (λ a. g a.0 a.1 >>= λ b. Ok ((a.0, b.0), b.1)) e both) [
        | inl first ↦ byte_format.faults bytes e fits first
        | inr a ↦
            let read = byte_format.takes bytes a.0 fits a.1 in
            elim (bind_err (g a.0.0 a.0.1) (λ b. Ok ((a.0.0, b.0), b.1)) e a.2) [
              | inl second ↦ rest_faults more (packed_faults more) (ltb a.0.0 128) a.0.1 e read.0.rest_fits second
              | inr b ↦ absurd (let bad : done ((a.0.0, b.0.0), b.0.1) ≡ Err e = b.2 in cc)
            ]
      ]
    ]

left_fits : (bytes text rest : List ℕ) → bytes ≡ text ++ rest → IsBytes bytes → IsBytes rest
left_fits bytes text rest parts fits = subst IsBytes (ap (drop (length text)) parts ∙ drop_at text rest (length text) refl) (IsBytes-drop (length text) bytes fits)

pub packed_format : HasOneText packed_at packed_text HasPackedText → IsFormat packed_at packed_text HasPackedText
packed_format one = record {
  takes = λ bytes x fits e. (let s = one.spelled bytes x.0 x.1 fits e in (record { parts = s.0; rest_fits = left_fits bytes (packed_text x.0) x.1 s.0 fits }, s.1));
  again = one.taken;
  faults = packed_faults 6;
}

-- ---- more ways

-- what takes no bytes
pub given_format : {A : Type 0} (a : A) → IsFormat (given_at a) (λ _. []) (λ x. x ≡ a)
given_format {A} a = record {
  takes = λ bytes x fits e. subst (λ (y : A × List ℕ). Takes bytes [] y.1 × (y.0 ≡ a)) (ok_is (a, bytes) x e) (record { parts = refl; rest_fits = fits }, refl);
  again = λ x rest h. ap (λ (y : A). done (y, rest)) (sym h);
  faults = λ bytes e fits h. absurd (let bad : done (a, bytes) ≡ Err e = h in cc);
}

-- the same texts, said in other words
pub respell : {A : Type 0} (f : Reader A) (s t : A → List ℕ) (F : A → Type 0) → ((a : A) → F a → s a ≡ t a) → IsFormat f s F → IsFormat f t F
respell f s t F same p = record {
  takes = λ bytes x fits e. (let read = p.takes bytes x fits e in (subst (λ (text : List ℕ). Takes bytes text x.1) (same x.0 read.1) read.0, read.1));
  again = λ a rest h. ap (λ (text : List ℕ). f (text ++ rest)) (sym (same a h)) ∙ p.again a rest h;
  faults = p.faults;
}

-- one of two, by a test
pub chosen_format : {A : Type 0} (b : Bool) (f g : Reader A) (s : A → List ℕ) (F : A → Type 0) → (b ≡ true → IsFormat f s F) → (b ≡ false → IsFormat g s F) → IsFormat (λ bytes. cond b (f bytes) (g bytes)) s F
chosen_format true f g s F p q = p refl
chosen_format false f g s F p q = q refl

-- what there is no value of
pub bad_format : {A : Type 0} (s : A → List ℕ) (F : A → Type 0) → ((a : A) → F a → ⊥) → IsFormat (λ bytes. Err Bad) s F
bad_format {A} s F none = record {
  takes = λ bytes x fits e. absurd (let bad : Err Bad ≡ done x = e in cc);
  again = λ a rest h. absurd (none a h);
  faults = λ bytes e fits h. inr (sym (err_is {A = A × List ℕ} Bad e h));
}

-- a part as another value, where each value is one of a part
module _ {A B : Type 0} (make : A → B) (f : Reader A) (s : A → List ℕ) (F : A → Type 0) (t : B → List ℕ) (G : B → Type 0) (there : (a : A) → F a → G (make a) × (s a ≡ t (make a))) (back : (b : B) → G b → (a : A) × F a × (make a ≡ b)) (p : IsFormat f s F) where
  image_takes : (bytes : List ℕ) (x : B × List ℕ) → IsBytes bytes → made_at make f bytes ≡ Ok x → Takes bytes (t x.0) x.1 × G x.0
  image_takes bytes x fits e =
      let a = bind_ok (f bytes) (λ a. Ok (make a.0, a.1)) x e in
      let read = p.takes bytes a.0 fits a.1 in
      let is = there a.0.0 read.1 in
      subst (λ (y : B × List ℕ). Takes bytes (t y.0) y.1 × G y.0) (ok_is (make a.0.0, a.0.1) x a.2)
      (subst (λ (text : List ℕ). Takes bytes text a.0.1) is.1 read.0, is.0)

  image_again : (b : B) (rest : List ℕ) → G b → made_at make f (t b ++ rest) ≡ Ok (b, rest)
  image_again b rest h =
      let a = back b h in
      let text : t b ≡ s a.0 = ap t (sym a.2) ∙ sym (there a.0 a.1).1 in
      ap (λ (x : List ℕ). made_at make f (x ++ rest)) text ∙ rw (p.again a.0 rest a.1) (ap (λ (v : B). Ok (v, rest)) a.2)

  image_faults : (bytes : List ℕ) (e : Fault) → IsBytes bytes → made_at make f bytes ≡ Err e → CutOrBad e
  image_faults bytes e fits h =
      elim (bind_err (f bytes) (λ a. Ok (make a.0, a.1)) e h) [
        | inl first ↦ p.faults bytes e fits first
        | inr a ↦ absurd (let bad : done (make a.0.0, a.0.1) ≡ Err e = a.2 in cc)
      ]

  pub image_format : IsFormat (made_at make f) t G
  image_format = record { takes = image_takes; again = image_again; faults = image_faults }
