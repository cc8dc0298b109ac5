-- From reading a text at the front to decoding all of the bytes, for each kind of text.
use Rattle.std.proofs.Common.{rules, ◌≡◌, ◌≢◌, ℕ, ◌<◌, ◌≤◌, ◌⊎◌, inl, inr, Bool, false, cond, eqb, List, [], ◌∷◌, ◌++◌, length, Result, Ok, Err, refl, sym, ap, ◌∙◌, subst, arith, length-append}
use Rattle.std.specs.Prelude.{IfOk, OnOk, MatchResult}
use Rattle.std.specs.Global.{Vec}
use Rattle.std.proofs.lemmas.Bool.{cases_lt, eqb-true}
use Rattle.std.proofs.lemmas.List.{append-nil, nil_from_length}
use Rattle.rds_names.specs.declared.fault.Fault.{Fault}
use Rattle.rds_names.specs.declared.fault.Fault.TheVariants.{Memory, Cut, Bad, Extra, TooLong}
use Rattle.rds_codec.specs.declared.limits.TheConstants.{LIMIT}
use Rattle.rds_codec.specs.Decoding.{IsTextOf, BeginsWithText, IsOtherFault, Decodes, ReadsAll, all_of}
use Rattle.rds_codec.specs.Kinds.{Kind}
use Rattle.rds_codec.specs.Laws.{StandApart}
use Rattle.rds_bytes.specs.Reading.{◌>>=◌, Reader, Fails, Reads}
use Rattle.rds_feeds.specs.declared.unfinished.Progress.{Progress}
use Rattle.rds_feeds.specs.declared.unfinished.Progress.TheVariants.{More, Whole}
use Rattle.rds_feeds.specs.Pieces.{ReadsOn, RefusesAlready}
use Rattle.rds_bytes.proofs.Format.{IsBytes, IsFormat, Takes, CutOrBad, bind_ok, bind_err, chosen, err_is, ok_is, done, failed}

-- The reader of a kind of text: what it reads is spelled so, what is spelled so within the limit is read,
-- whatever follows.
pub record IsReaderOf {V : Type 0} (kind : Kind V) (read : Reader V) : Type 0 where
  pub takes : (bytes : List ℕ) (x : V × List ℕ) → IsBytes bytes → read bytes ≡ Ok x → Takes bytes (kind.text x.0) x.1 × kind.is_value x.0
  pub again : (v : V) (rest : List ℕ) → kind.is_value v → length (kind.text v) ≤ LIMIT → read (kind.text v ++ rest) ≡ Ok (v, rest)
  pub faults : (bytes : List ℕ) (e : Fault) → IsBytes bytes → read bytes ≡ Err e → CutOrBad e

-- A format is a kind's reader, where its values are the kind's and, within the limit, the other way round.
pub reader_of : {V : Type 0} (kind : Kind V) (read : Reader V) (F : V → Type 0) → IsFormat read kind.text F
    → ((v : V) → F v → kind.is_value v) → ((v : V) → kind.is_value v → length (kind.text v) ≤ LIMIT → F v)
    → IsReaderOf kind read
reader_of kind read F format is fits = record {
  takes = λ bytes x b e. (let t = format.takes bytes x b e in (t.0, is x.0 t.1));
  again = λ v rest h le. format.again v rest (fits v h le);
  faults = format.faults;
}

-- a failure is that of reading, or of memory
pub fails_is : {V : Type 0} (e : Fault) (r : Result V Fault) → Fails e r → (e ≡ Memory) ⊎ (r ≡ Err e)
fails_is Memory r h = inl refl
fails_is _ r h = inr h

-- the value, where nothing is left
abbrev pub ended_by : {V : Type 0} → V → Bool → Result V Fault
ended_by v nothing = cond nothing (Ok v) (Err Extra)

abbrev ended : {V : Type 0} → V × List ℕ → Result V Fault
ended x = ended_by x.0 (eqb (length x.1) 0)

some_rest : (rest : List ℕ) → rest ≢ [] → eqb (length rest) 0 ≡ false
some_rest [] h = absurd (h refl)
some_rest (b ∷ rest) h = search rules

not_empty : (rest : List ℕ) → eqb (length rest) 0 ≡ false → rest ≢ []
not_empty [] h = absurd cc
not_empty (b ∷ rest) h = λ e. absurd cc

module _ {V : Type 0} (kind : Kind V) (reader : Reader V) (laws : IsReaderOf kind reader) (bytes : List ℕ) (fits : IsBytes bytes) (within : length bytes ≤ LIMIT) where
  abbrev read : Result V Fault
  read = all_of reader bytes

  -- a text at the front is within the limit
  short : (v : V) (rest : List ℕ) → bytes ≡ kind.text v ++ rest → length (kind.text v) ≤ LIMIT
  short v rest e = (let len = ap length e ∙ length-append (kind.text v) rest in omega arith)

  read_found : (v : V) → IsTextOf kind bytes v → read ≡ Ok v
  read_found v h =
      let e : bytes ≡ kind.text v ++ [] = h.spelled ∙ sym (append-nil (kind.text v)) in
      let got : reader bytes ≡ Ok (v, []) = ap reader e ∙ laws.again v [] h.is_value (short v [] e) in
      rw got refl

  read_extra : BeginsWithText kind bytes → read ≡ Err Extra
  read_extra h =
      let got : reader bytes ≡ Ok (h.value, h.rest) = ap reader h.spelled ∙ laws.again h.value h.rest h.is_value (short h.value h.rest h.spelled) in
      let more : eqb (length h.rest) 0 ≡ false = some_rest h.rest h.more in
      rw (got, more) refl

  read_value : (v : V) → read ≡ Ok v → IsTextOf kind bytes v
  read_value v e =
      let a = bind_ok (reader bytes) ended v e in
      elim (chosen (eqb (length a.0.1) 0) (Ok a.0.0) (Err Extra) (Ok v) a.2) [
        | inl k ↦
            let got = laws.takes bytes a.0 fits a.1 in
            let nothing : a.0.1 ≡ [] = nil_from_length a.0.1 (eqb-true _ _ k.0) in
            let whole : bytes ≡ kind.text a.0.0 = got.0.parts ∙ ap (λ (r : List ℕ). kind.text a.0.0 ++ r) nothing ∙ append-nil (kind.text a.0.0) in
            subst (IsTextOf kind bytes) (ok_is a.0.0 v k.1) (record { is_value = got.1; spelled = whole })
        | inr k ↦ absurd (let bad : failed {A = V} Extra ≡ Ok v = k.1 in cc)
      ]

  abbrev Refused : Fault → Type 0
  Refused e = ((e ≡ Extra) × BeginsWithText kind bytes) ⊎ CutOrBad e

  read_refused : (e : Fault) → read ≡ Err e → Refused e
  read_refused e h =
      elim (bind_err (reader bytes) ended e h) [
        | inl f ↦ inr (laws.faults bytes e fits f)
        | inr a ↦ elim (chosen (eqb (length a.0.1) 0) (Ok a.0.0) (Err Extra) (Err e) a.2) [
          | inl j ↦ absurd (let bad : done a.0.0 ≡ Err e = j.1 in cc)
          | inr j ↦
              let got = laws.takes bytes a.0 fits a.1 in
              inl (sym (err_is {A = V} Extra e j.1), record { value = a.0.0; rest = a.0.1; is_value = got.1; more = not_empty a.0.1 j.0; spelled = got.0.parts })
        ]
      ]

  known : (e : Fault) → Refused e → IsOtherFault e
  known e h = elim h [ inl a ↦ inr (inr (inl a.0)) | inr b ↦ inr (inr (inr b)) ]

  not_long : {A : Type 0} → LIMIT < length bytes → A
  not_long lt = absurd (let none : ⊥ = omega arith in none)

  never_long : (e : Fault) → Refused e → e ≡ TooLong → ⊥
  never_long e h is = elim h [ inl c ↦ (let bad : Extra ≡ TooLong = sym c.0 ∙ is in cc) | inr d ↦ elim d [ inl x ↦ (let bad : Cut ≡ TooLong = sym x ∙ is in cc) | inr y ↦ (let bad : Bad ≡ TooLong = sym y ∙ is in cc) ] ]

  is_extra : (e : Fault) → Refused e → e ≡ Extra → BeginsWithText kind bytes
  is_extra e h is = elim h [ inl c ↦ c.1 | inr d ↦ elim d [ inl x ↦ absurd (let bad : Cut ≡ Extra = sym x ∙ is in cc) | inr y ↦ absurd (let bad : Bad ≡ Extra = sym y ∙ is in cc) ] ]

  pub decodes : (r : Result V Fault) → Reads (λ x. x) r read → Decodes kind bytes r
  decodes (Ok v) g = record {
    value = (within, read_value v g);
    found = λ w le h. inl (sym g ∙ read_found w h);
    long = λ lt. not_long lt;
    long_only = λ e. absurd cc;
    extra = λ le h. inl (sym g ∙ read_extra h);
    extra_only = λ e. absurd cc;
    other = tt;
  }
  decodes (Err e) g = elim (fails_is e read g) [
    | inl m ↦ (let is : failed {A = V} e ≡ Err Memory = ap (λ (x : Fault). failed {A = V} x) m in record {
      value = tt;
      found = λ w le h. inr is;
      long = λ lt. not_long lt;
      long_only = λ h. absurd (let bad : Memory ≡ TooLong = sym m ∙ err_is {A = V} e TooLong h in cc);
      extra = λ le h. inr is;
      extra_only = λ h. absurd (let bad : Memory ≡ Extra = sym m ∙ err_is {A = V} e Extra h in cc);
      other = inl m;
    })
    | inr is ↦ (let cases = read_refused e is in record {
      value = tt;
      found = λ w le h. inl (sym is ∙ read_found w h);
      long = λ lt. not_long lt;
      long_only = λ h. absurd (never_long e cases (err_is {A = V} e TooLong h));
      extra = λ le h. inl (sym is ∙ read_extra h);
      extra_only = λ h. (within, is_extra e cases (err_is {A = V} e Extra h));
      other = known e cases;
    })
  ]

-- above the limit
long_refused : {V : Type 0} (kind : Kind V) (bytes : List ℕ) → LIMIT < length bytes → Decodes kind bytes (Err TooLong)
long_refused kind bytes long = record {
  value = tt;
  found = λ v le h. absurd (let none : ⊥ = omega (arith, long, le) in none);
  long = λ lt. refl;
  long_only = λ e. long;
  extra = λ le h. absurd (let none : ⊥ = omega (arith, long, le) in none);
  extra_only = λ e. absurd cc;
  other = inr (inl refl);
}

-- ---- all of the bytes, fed to what is read as a text

module _ {V : Type 0} (reader finish : Reader V) (same : (bytes : List ℕ) → finish bytes ≡ reader bytes) (bytes : List ℕ) (r : Result V Fault) (read : ReadsAll finish bytes r) where
  pub reads_whole : ReadsAll reader bytes r
  reads_whole le = subst (λ (x : Result (V × List ℕ) Fault). Reads (λ v. v) r (x >>= ended)) (same bytes) (read le)

  pub decodes_whole : (kind : Kind V) → IsReaderOf kind reader → IsBytes bytes → (LIMIT < length bytes → r ≡ Err TooLong) → Decodes kind bytes r
  decodes_whole kind laws fits long = elim (cases_lt LIMIT (length bytes)) [
    | inl lt ↦ subst (Decodes kind bytes) (sym (long lt)) (long_refused kind bytes lt)
    | inr le ↦ decodes kind reader laws bytes fits le r (reads_whole le)
  ]

is_failure : {V : Type 0} (e : Fault) (r : Result V Fault) → r ≡ Err e → Fails e r
is_failure Memory r h = tt
is_failure _ r h = h

module _ {U V : Type 0} (finish : U → Reader V) (u : U) (bytes : List ℕ) where
  abbrev with_more : Reader V
  with_more more = finish u (bytes ++ more)

  nothing_more : finish u bytes ≡ with_more []
  nothing_more = ap (finish u) (sym (append-nil bytes))

  pub fed_refused : (e : Fault) → RefusesAlready with_more e → Fails e (all_of (finish u) bytes)
  fed_refused e h = elim h [
    | inl m ↦ subst (λ (f : Fault). Fails f (all_of (finish u) bytes)) (sym m) tt
    | inr is ↦ is_failure e (all_of (finish u) bytes) (let got = nothing_more ∙ is.1 [] in rw got refl)
  ]

  pub fed_cut : (p : Progress U V) (w : U) (rest : List ℕ) → p ≡ More w → ReadsOn finish with_more p rest → all_of (finish u) bytes ≡ Err Cut
  fed_cut p w rest is h =
      let on : ReadsOn finish with_more (More w) rest = subst (λ (q : Progress U V). ReadsOn finish with_more q rest) is h in
      let got = nothing_more ∙ on.0 [] ∙ ap (finish w) (append-nil rest) ∙ on.1 in
      rw got refl

  pub fed_whole : (p : Progress U V) (v : V) (rest : List ℕ) → p ≡ Whole v → ReadsOn finish with_more p rest → all_of (finish u) bytes ≡ ended_by v (eqb (length rest) 0)
  fed_whole p v rest is h =
      let on : ReadsOn finish with_more (Whole v) rest = subst (λ (q : Progress U V). ReadsOn finish with_more q rest) is h in
      let got : finish u bytes ≡ Ok (v, rest) = nothing_more ∙ on [] ∙ ap (λ (r : List ℕ). Ok (v, r)) (append-nil rest) in
      rw got refl

-- no text begins another, and one text has one value
pub stand_apart : {V : Type 0} (kind : Kind V) (reader : Reader V) → IsReaderOf kind reader → StandApart kind
stand_apart {V} kind reader laws v w x y p q e =
    let both : done (v, x) ≡ done (w, y) = sym (laws.again v x p.is_value p.within) ∙ ap reader e ∙ laws.again w y q.is_value q.within in
    let is = ok_is (v, x) (w, y) both in
    (ap (λ (r : V × List ℕ). r.0) is, ap (λ (r : V × List ℕ). r.1) is)

-- a value's text, all of it, is read as this value
pub text_again : {V : Type 0} (kind : Kind V) (reader : Reader V) → IsReaderOf kind reader → (v : V) → kind.is_value v → length (kind.text v) ≤ LIMIT
    → all_of reader (kind.text v) ≡ Ok v
text_again kind reader laws v is within =
    let got : reader (kind.text v) ≡ Ok (v, []) = ap reader (sym (append-nil (kind.text v))) ∙ laws.again v [] is within in
    rw got refl

-- what has a value's text is read as this value
pub is_read_again : {V : Type 0} (kind : Kind V) (reader : Reader V) → IsReaderOf kind reader → (v : V) (result : Result (Vec ℕ) Fault) (E : Fault → Type 0) → OnOk result (kind.is_value v)
    → MatchResult result (λ b. (b.items ≡ kind.text v) × (length (kind.text v) ≤ LIMIT)) E → IfOk result (λ b. all_of reader b.items ≡ Ok v)
is_read_again kind reader laws v (Ok b) E is h = rw h.0 (text_again kind reader laws v is h.1)
is_read_again kind reader laws v (Err e) E is h = tt
