-- Lists of parts are formats.
use Rattle.std.proofs.Common.{◌≡◌, ℕ, zero, suc, List, [], ◌∷◌, ◌++◌, length, Result, Ok, Err, refl, sym, ap, subst, ◌∙◌, append_assoc, inl, inr}
use Rattle.std.specs.List.{flat_map, AllByRecursion}
use Rattle.std.proofs.lemmas.List.{append-nil}
use Rattle.std.proofs.lemmas.List.Concat.{flat_map-cons}
use Rattle.rds_names.specs.declared.fault.Fault.{Fault}
use Rattle.rds_bytes.specs.Reading.{Reader, rows_after, list_at, bytes_at, string_at}
use Rattle.rds_bytes.proofs.Format.{IsFormat, IsBytes, Takes, Takes-then, CutOrBad, bind_ok, bind_err, done, ok_is, known_format}

-- each part fits, in the light of those before it
abbrev pub AllAfter : {A : Type 0} → (List A → A → Type 0) → List A → List A → Type 0
AllAfter F before [] = Unit {0}
AllAfter F before (a ∷ es) = F before a × AllAfter F (before ++ a ∷ []) es

-- each part fits after those before it, and is one of these
pub all_both : {A : Type 0} (F : List A → A → Type 0) (G : A → Type 0) (before xs : List A) → AllAfter (λ b a. F b a × G a) before xs → AllAfter F before xs × AllByRecursion G xs
all_both F G before [] h = (tt, tt)
all_both F G before (x ∷ xs) h = (let more = all_both F G (before ++ x ∷ []) xs h.1 in ((h.0.0, more.0), (h.0.1, more.1)))

pub both_all : {A : Type 0} (F : List A → A → Type 0) (G : A → Type 0) (before xs : List A) → AllAfter F before xs → AllByRecursion G xs → AllAfter (λ b a. F b a × G a) before xs
both_all F G before [] f g = tt
both_all F G before (x ∷ xs) f g = ((f.0, g.0), both_all F G (before ++ x ∷ []) xs f.1 g.1)

push_onto : {A : Type 0} (before : List A) (a : A) (es : List A) → (before ++ a ∷ []) ++ es ≡ before ++ a ∷ es
push_onto before a es = append_assoc before (a ∷ []) es

module _ {A : Type 0} (f : List A → Reader A) (s : A → List ℕ) (F : List A → A → Type 0) (p : (before : List A) → IsFormat (f before) s (F before)) where
  -- what was read after those before
  record Rows (before : List A) (n : ℕ) (bytes : List ℕ) (x : List A × List ℕ) : Type 0 where
    rows : List A
    all : x.0 ≡ before ++ rows
    taken : Takes bytes (flat_map s rows) x.1
    count : length rows ≡ n
    each : AllAfter F before rows

  abbrev next : List A → ℕ → A × List ℕ → Result (List A × List ℕ) Fault
  next before n a = rows_after f (before ++ a.0 ∷ []) n a.1

  rows_take : (n : ℕ) (before : List A) (bytes : List ℕ) (x : List A × List ℕ) → IsBytes bytes → rows_after f before n bytes ≡ Ok x → Rows before n bytes x
  unfolding rows_after
  rows_take zero before bytes x fits e =
      subst (Rows before 0 bytes) (ok_is (before, bytes) x e)
      (record { rows = []; all = sym (append-nil before); taken = record { parts = refl; rest_fits = fits }; count = refl; each = tt })
  rows_take (suc n) before bytes x fits e =
      let a = bind_ok (f before bytes) (next before n) x e in
      let first = (p before).takes bytes a.0 fits a.1 in
      let later = rows_take n (before ++ a.0.0 ∷ []) a.0.1 x first.0.rest_fits a.2 in
      let both = Takes-then bytes (s a.0.0) a.0.1 (flat_map s later.rows) x.1 first.0 later.taken in
      record {
        rows = a.0.0 ∷ later.rows;
        all = later.all ∙ push_onto before a.0.0 later.rows;
        taken = rw flat_map-cons both;
        count = ap suc later.count;
        each = (first.1, later.each);
      }

  rows_again : (vs before : List A) (rest : List ℕ) → AllAfter F before vs → rows_after f before (length vs) (flat_map s vs ++ rest) ≡ Ok (before ++ vs, rest)
  unfolding rows_after
  rows_again [] before rest fits = ap (λ (b : List A). Ok (b, rest)) (sym (append-nil before))
  rows_again (v ∷ vs) before rest fits =
      let regrouped : flat_map s (v ∷ vs) ++ rest ≡ s v ++ (flat_map s vs ++ rest) = ap (λ (x : List ℕ). x ++ rest) (flat_map-cons s v vs) ∙ append_assoc (s v) (flat_map s vs) rest in
      ap (rows_after f before (suc (length vs))) regrouped
      ∙ rw ((p before).again v (flat_map s vs ++ rest) fits.0) (rows_again vs (before ++ v ∷ []) rest fits.1 ∙ ap (λ (b : List A). Ok (b, rest)) (push_onto before v vs))

  rows_faults : (n : ℕ) (before : List A) (bytes : List ℕ) (e : Fault) → IsBytes bytes → rows_after f before n bytes ≡ Err e → CutOrBad e
  unfolding rows_after
  rows_faults zero before bytes e fits h = absurd (let bad : done {A = List A × List ℕ} (before, bytes) ≡ Err e = h in cc)
  rows_faults (suc n) before bytes e fits h =
      elim (bind_err (f before bytes) (next before n) e h) [
        | inl first ↦ (p before).faults bytes e fits first
        | inr a ↦ (let first = (p before).takes bytes a.0 fits a.1 in rows_faults n (before ++ a.0.0 ∷ []) a.0.1 e first.0.rest_fits a.2)
      ]

  module _ (c : Reader ℕ) (w : ℕ → List ℕ) (C : ℕ → Type 0) (count : IsFormat c w C) where
    list_takes : (bytes : List ℕ) (x : List A × List ℕ) → IsBytes bytes → list_at c f bytes ≡ Ok x → Takes bytes (w (length x.0) ++ flat_map s x.0) x.1 × (C (length x.0) × AllAfter F [] x.0)
    list_takes bytes x fits e =
        let a = bind_ok (c bytes) (λ n. rows_after f [] n.0 n.1) x e in
        let first = count.takes bytes a.0 fits a.1 in
        let second = rows_take a.0.0 [] a.0.1 x first.0.rest_fits a.2 in
        let all : second.rows ≡ x.0 = sym second.all in
        let len : a.0.0 ≡ length x.0 = sym second.count ∙ ap length all in
        let number : Takes bytes (w (length x.0)) a.0.1 = subst (λ (n : ℕ). Takes bytes (w n) a.0.1) len first.0 in
        let rows : Takes a.0.1 (flat_map s x.0) x.1 = subst (λ (r : List A). Takes a.0.1 (flat_map s r) x.1) all second.taken in
        (Takes-then bytes (w (length x.0)) a.0.1 (flat_map s x.0) x.1 number rows, (subst C len first.1, subst (AllAfter F []) all second.each))

    list_again : (vs : List A) (rest : List ℕ) → C (length vs) × AllAfter F [] vs → list_at c f ((w (length vs) ++ flat_map s vs) ++ rest) ≡ Ok (vs, rest)
    list_again vs rest fits =
        ap (list_at c f) (append_assoc (w (length vs)) (flat_map s vs) rest) ∙ rw (count.again (length vs) (flat_map s vs ++ rest) fits.0) (rows_again vs [] rest fits.1)

    list_faults : (bytes : List ℕ) (e : Fault) → IsBytes bytes → list_at c f bytes ≡ Err e → CutOrBad e
    list_faults bytes e fits h =
        elim (bind_err (c bytes) (λ n. rows_after f [] n.0 n.1) e h) [
          | inl first ↦ count.faults bytes e fits first
          | inr a ↦ (let first = count.takes bytes a.0 fits a.1 in rows_faults a.0.0 [] a.0.1 e first.0.rest_fits a.2)
        ]

    pub list_format : IsFormat (list_at c f) (λ vs. w (length vs) ++ flat_map s vs) (λ vs. C (length vs) × AllAfter F [] vs)
    list_format = record { takes = list_takes; again = list_again; faults = list_faults }

-- ---- a length and that many bytes

module _ (c : Reader ℕ) (w : ℕ → List ℕ) (C : ℕ → Type 0) (count : IsFormat c w C) where
  string_takes : (bytes : List ℕ) (x : List ℕ × List ℕ) → IsBytes bytes → string_at c bytes ≡ Ok x → Takes bytes (w (length x.0) ++ x.0) x.1 × C (length x.0)
  string_takes bytes x fits e =
      let a = bind_ok (c bytes) (λ n. bytes_at n.0 n.1) x e in
      let first = count.takes bytes a.0 fits a.1 in
      let second = (known_format a.0.0).takes a.0.1 x first.0.rest_fits a.2 in
      let len : a.0.0 ≡ length x.0 = sym second.1 in
      let number : Takes bytes (w (length x.0)) a.0.1 = subst (λ (n : ℕ). Takes bytes (w n) a.0.1) len first.0 in
      (Takes-then bytes (w (length x.0)) a.0.1 x.0 x.1 number second.0, subst C len first.1)

  string_again : (text rest : List ℕ) → C (length text) → string_at c ((w (length text) ++ text) ++ rest) ≡ Ok (text, rest)
  string_again text rest fits =
      ap (string_at c) (append_assoc (w (length text)) text rest) ∙ rw (count.again (length text) (text ++ rest) fits) ((known_format (length text)).again text rest refl)

  string_faults : (bytes : List ℕ) (e : Fault) → IsBytes bytes → string_at c bytes ≡ Err e → CutOrBad e
  string_faults bytes e fits h =
      elim (bind_err (c bytes) (λ n. bytes_at n.0 n.1) e h) [
        | inl first ↦ count.faults bytes e fits first
        | inr a ↦ (let first = count.takes bytes a.0 fits a.1 in (known_format a.0.0).faults a.0.1 e first.0.rest_fits a.2)
      ]

  pub string_format : IsFormat (string_at c) (λ t. w (length t) ++ t) (λ t. C (length t))
  string_format = record { takes = string_takes; again = string_again; faults = string_faults }
