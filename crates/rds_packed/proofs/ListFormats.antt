-- Lists of parts, whose texts depend on those before them, are formats.
use Rattle.std.proofs.Common.{◌≡◌, ℕ, zero, suc, List, [], ◌∷◌, ◌++◌, length, Result, Ok, Err, refl, sym, ap, subst, ◌∙◌, append_assoc, inl, inr}
use Rattle.std.proofs.lemmas.List.{append-nil}
use Rattle.rds_names.specs.declared.fault.Fault.{Fault}
use Rattle.rds_bytes.specs.Reading.{Reader, rows_after, list_at}
use Rattle.rds_bytes.proofs.Format.{IsFormat, IsBytes, Takes, Takes-then, CutOrBad, bind_ok, bind_err, done, ok_is}
use Rattle.rds_bytes.proofs.Lists.{AllAfter}
use Rattle.rds_bytes.proofs.PartFormats.{push_more}

-- the texts of parts, each after those before it
abbrev pub texts_after : {A : Type 0} → (List A → A → List ℕ) → List A → List A → List ℕ
texts_after s before [] = []
texts_after s before (v ∷ vs) = s before v ++ texts_after s (before ++ v ∷ []) vs

module _ {A : Type 0} (f : List A → Reader A) (s : List A → A → List ℕ) (F : List A → A → Type 0) (p : (before : List A) → IsFormat (f before) (s before) (F before)) where
  -- what was read after those before
  record Rows (before : List A) (n : ℕ) (bytes : List ℕ) (x : List A × List ℕ) : Type 0 where
    rows : List A
    all : x.0 ≡ before ++ rows
    taken : Takes bytes (texts_after s before rows) x.1
    count : length rows ≡ n
    each : AllAfter F before rows

  abbrev next : List A → ℕ → A × List ℕ → Result (List A × List ℕ) Fault
  next before n a = rows_after f (before ++ a.0 ∷ []) n a.1

  rows_take : (n : ℕ) (before : List A) (bytes : List ℕ) (x : List A × List ℕ) → IsBytes bytes → rows_after f before n bytes ≡ Ok x → Rows before n bytes x
  unfolding rows_after
  rows_take zero before bytes x fits e =
      subst (Rows before 0 bytes) (ok_is (before, bytes) x e)
      (record { rows = []; all = sym (append-nil before); taken = record { parts = refl; rest_fits = fits }; count = refl; each = tt })
  rows_take (suc n) before bytes x fits e =
      let a = bind_ok (f before bytes) (next before n) x e in
      let first = (p before).takes bytes a.0 fits a.1 in
      let later = rows_take n (before ++ a.0.0 ∷ []) a.0.1 x first.0.rest_fits a.2 in
      record {
        rows = a.0.0 ∷ later.rows;
        all = later.all ∙ push_more before a.0.0 later.rows;
        taken = Takes-then bytes (s before a.0.0) a.0.1 (texts_after s (before ++ a.0.0 ∷ []) later.rows) x.1 first.0 later.taken;
        count = ap suc later.count;
        each = (first.1, later.each);
      }

  rows_again : (vs before : List A) (rest : List ℕ) → AllAfter F before vs → rows_after f before (length vs) (texts_after s before vs ++ rest) ≡ Ok (before ++ vs, rest)
  unfolding rows_after
  rows_again [] before rest fits = ap (λ (b : List A). Ok (b, rest)) (sym (append-nil before))
  rows_again (v ∷ vs) before rest fits =
      let later = texts_after s (before ++ v ∷ []) vs in
      ap (rows_after f before (suc (length vs))) (append_assoc (s before v) later rest)
      ∙ rw ((p before).again v (later ++ rest) fits.0) (rows_again vs (before ++ v ∷ []) rest fits.1 ∙ ap (λ (b : List A). Ok (b, rest)) (push_more before v vs))

  rows_faults : (n : ℕ) (before : List A) (bytes : List ℕ) (e : Fault) → IsBytes bytes → rows_after f before n bytes ≡ Err e → CutOrBad e
  unfolding rows_after
  rows_faults zero before bytes e fits h = absurd (let bad : done {A = List A × List ℕ} (before, bytes) ≡ Err e = h in cc)
  rows_faults (suc n) before bytes e fits h =
      elim (bind_err (f before bytes) (next before n) e h) [
        | inl first ↦ (p before).faults bytes e fits first
        | inr a ↦ (let first = (p before).takes bytes a.0 fits a.1 in rows_faults n (before ++ a.0.0 ∷ []) a.0.1 e first.0.rest_fits a.2)
      ]

  module _ (c : Reader ℕ) (w : ℕ → List ℕ) (C : ℕ → Type 0) (count : IsFormat c w C) where
    abbrev list_text : List A → List ℕ
    list_text vs = w (length vs) ++ texts_after s [] vs

    list_takes : (bytes : List ℕ) (x : List A × List ℕ) → IsBytes bytes → list_at c f bytes ≡ Ok x → Takes bytes (list_text x.0) x.1 × (C (length x.0) × AllAfter F [] x.0)
    list_takes bytes x fits e =
        let a = bind_ok (c bytes) (λ n. rows_after f [] n.0 n.1) x e in
        let first = count.takes bytes a.0 fits a.1 in
        let second = rows_take a.0.0 [] a.0.1 x first.0.rest_fits a.2 in
        let all : second.rows ≡ x.0 = sym second.all in
        let len : a.0.0 ≡ length x.0 = sym second.count ∙ ap length all in
        let number : Takes bytes (w (length x.0)) a.0.1 = subst (λ (n : ℕ). Takes bytes (w n) a.0.1) len first.0 in
        let rows : Takes a.0.1 (texts_after s [] x.0) x.1 = subst (λ (r : List A). Takes a.0.1 (texts_after s [] r) x.1) all second.taken in
        (Takes-then bytes (w (length x.0)) a.0.1 (texts_after s [] x.0) x.1 number rows, (subst C len first.1, subst (AllAfter F []) all second.each))

    list_again : (vs : List A) (rest : List ℕ) → C (length vs) × AllAfter F [] vs → list_at c f (list_text vs ++ rest) ≡ Ok (vs, rest)
    list_again vs rest fits =
        ap (list_at c f) (append_assoc (w (length vs)) (texts_after s [] vs) rest) ∙ rw (count.again (length vs) (texts_after s [] vs ++ rest) fits.0) (rows_again vs [] rest fits.1)

    list_faults : (bytes : List ℕ) (e : Fault) → IsBytes bytes → list_at c f bytes ≡ Err e → CutOrBad e
    list_faults bytes e fits h =
        elim (bind_err (c bytes) (λ n. rows_after f [] n.0 n.1) e h) [
          | inl first ↦ count.faults bytes e fits first
          | inr a ↦ (let first = count.takes bytes a.0 fits a.1 in rows_faults a.0.0 [] a.0.1 e first.0.rest_fits a.2)
        ]

    pub after_list_format : IsFormat (list_at c f) list_text (λ vs. C (length vs) × AllAfter F [] vs)
    after_list_format = record { takes = list_takes; again = list_again; faults = list_faults }
