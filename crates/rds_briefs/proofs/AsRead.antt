-- What decoding promises is what reading all of the bytes gives, but that bytes may be called cut in place of bad.
use Rattle.std.proofs.Common.{◌≡◌, ℕ, ◌<◌, ◌≤◌, ◌⊎◌, inl, inr, eqb, List, length, Result, Ok, Err, refl, sym, ap, subst, ◌∙◌, arith}
use Rattle.std.specs.Prelude.{IfOk}
use Rattle.rds_names.specs.declared.fault.Fault.{Fault}
use Rattle.rds_names.specs.declared.fault.Fault.TheVariants.{Memory, Cut, Bad, Extra}
use Rattle.rds_bytes.specs.OneText.{AreBytes}
use Rattle.rds_bytes.specs.Reading.{Reader, Fails, Reads}
use Rattle.rds_bytes.proofs.Format.{bind_err, chosen, done, err_is, failed}
use Rattle.rds_codec.specs.declared.limits.TheConstants.{LIMIT}
use Rattle.rds_codec.specs.Decoding.{Decodes, IsOtherFault, IsTextOf, ReadsAll, all_of}
use Rattle.rds_codec.specs.Kinds.{Kind}
use Rattle.rds_codec.proofs.Whole.{IsReaderOf, decodes, ended_by}
use Rattle.rds_delta.specs.Digested.{DigestValue}
use Rattle.rds_briefs.specs.Briefs.{brief_kind}
use Rattle.rds_briefs.specs.ReadBriefs.{ReadsTexts, brief_at, cut_as_bad}
use Rattle.rds_briefs.proofs.BriefsRead.{briefs_read, rest_fits}

-- the law is that of a kind's reader
reader_of_texts : {V : Type 0} (kind : Kind V) (reader : Reader V) → ReadsTexts kind reader → IsReaderOf kind reader
reader_of_texts kind reader law = record {
  takes = λ bytes x fits e.
      let got = law.spelled bytes x.0 x.1 fits e in
      (record { parts = got.1; rest_fits = rest_fits (kind.text x.0) bytes x.1 fits got.1 }, got.0);
  again = λ v rest is le. law.taken v rest (record { is_value = is; within = le });
  faults = λ bytes e fits h. inr (law.refused bytes e h);
}

fails_itself : (V : Type 0) (e : Fault) → Fails e (failed {A = V} e)
fails_itself V Memory = tt
fails_itself V _ = refl

reads_itself : {V : Type 0} (r : Result V Fault) → Reads (λ v. v) r r
reads_itself (Ok v) = refl
reads_itself {V} (Err e) = fails_itself V e

module _ {V : Type 0} (kind : Kind V) (bytes : List ℕ) (within : length bytes ≤ LIMIT) (r s : Result V Fault) (p : Decodes kind bytes r) (q : Decodes kind bytes s) where
  one_value : (v : V) → r ≡ Ok v → (s ≡ Ok v) ⊎ (s ≡ Err Memory)
  one_value v e =
      let got : (length bytes ≤ LIMIT) × IsTextOf kind bytes v = subst (λ (x : Result V Fault). IfOk x (λ w. (length bytes ≤ LIMIT) × IsTextOf kind bytes w)) e p.value in
      q.found v within got.1

  both_extra : r ≡ Err Extra → (s ≡ Err Extra) ⊎ (s ≡ Err Memory)
  both_extra e = q.extra within (p.extra_only e).1

module _ {V : Type 0} (kind : Kind V) (reader : Reader V) (law : ReadsTexts kind reader) (bytes : List ℕ) (fits : AreBytes bytes) (within : length bytes ≤ LIMIT) where
  abbrev read : Result V Fault
  read = all_of reader bytes

  own : Decodes kind bytes read
  own = decodes kind reader (reader_of_texts kind reader law) bytes fits within read (reads_itself read)

  read_fails : (e : Fault) → read ≡ Err e → (e ≡ Extra) ⊎ (e ≡ Bad)
  read_fails e h = elim (bind_err (reader bytes) (λ x. ended_by x.0 (eqb (length x.1) 0)) e h) [
    | inl f ↦ inr (law.refused bytes e f)
    | inr a ↦ elim (chosen (eqb (length a.0.1) 0) (Ok a.0.0) (Err Extra) (Err e) a.2) [
      | inl j ↦ absurd (let bad : done a.0.0 ≡ Err e = j.1 in cc)
      | inr j ↦ inl (sym (err_is {A = V} Extra e j.1))
    ]
  ]

  -- reading takes no memory
  kept : {A : Type 0} → read ≡ Err Memory → A
  kept h = elim (read_fails Memory h) [ inl e ↦ absurd (let bad : Memory ≡ Extra = e in cc) | inr e ↦ absurd (let bad : Memory ≡ Bad = e in cc) ]

  module _ (r : Result V Fault) (p : Decodes kind bytes r) where
    -- where bytes are refused otherwise, they are bad
    else_bad : (e : Fault) → r ≡ Err e → (e ≡ Cut) ⊎ (e ≡ Bad) → (t : Result V Fault) → read ≡ t → t ≡ Err Bad
    else_bad e h is (Ok v) got = elim (one_value kind bytes within read r own p v got) [
      | inl same ↦ absurd (let bad : done v ≡ Err e = sym same ∙ h in cc)
      | inr memory ↦ absurd (elim is [ inl c ↦ (let bad : Memory ≡ Cut = err_is {A = V} Memory e (sym memory ∙ h) ∙ c in cc) | inr b ↦ (let bad : Memory ≡ Bad = err_is {A = V} Memory e (sym memory ∙ h) ∙ b in cc) ])
    ]
    else_bad e h is (Err f) got = elim (read_fails f got) [
      | inr b ↦ ap (λ (x : Fault). failed {A = V} x) b
      | inl x ↦ elim (both_extra kind bytes within read r own p (got ∙ ap (λ (y : Fault). failed {A = V} y) x)) [
        | inl same ↦ absurd (elim is [ inl c ↦ (let bad : Extra ≡ Cut = err_is {A = V} Extra e (sym same ∙ h) ∙ c in cc) | inr b ↦ (let bad : Extra ≡ Bad = err_is {A = V} Extra e (sym same ∙ h) ∙ b in cc) ])
        | inr memory ↦ absurd (elim is [ inl c ↦ (let bad : Memory ≡ Cut = err_is {A = V} Memory e (sym memory ∙ h) ∙ c in cc) | inr b ↦ (let bad : Memory ≡ Bad = err_is {A = V} Memory e (sym memory ∙ h) ∙ b in cc) ])
      ]
    ]

  abbrev SameAs : Result V Fault → Type 0
  SameAs r = Reads (λ v. v) (cut_as_bad r) read

  as_fault : (e f : Fault) → f ≡ e → SameAs (Err f) → SameAs (Err e)
  as_fault e f is h = subst (λ (x : Fault). SameAs (Err x)) is h

  as_refused : (e : Fault) → Decodes kind bytes (Err e) → IsOtherFault e → SameAs (Err e)
  as_refused e p cases = elim cases [
    | inl m ↦ as_fault e Memory (sym m) tt
    | inr o ↦ elim o [
      | inl long ↦ absurd (let over : LIMIT < length bytes = p.long_only (ap (λ (x : Fault). failed {A = V} x) long) in omega arith)
      | inr d ↦ elim d [
        | inl x ↦ as_fault e Extra (sym x) (elim (both_extra kind bytes within (Err e) read p own (ap (λ (y : Fault). failed {A = V} y) x)) [ inl same ↦ same | inr memory ↦ kept memory ])
        | inr is ↦ elim is [
          | inl c ↦ as_fault e Cut (sym c) (else_bad (Err e) p e refl (inl c) read refl)
          | inr b ↦ as_fault e Bad (sym b) (else_bad (Err e) p e refl (inr b) read refl)
        ]
      ]
    ]
  ]

  pub as_read : (r : Result V Fault) → Decodes kind bytes r → SameAs r
  as_read (Ok v) p = elim (one_value kind bytes within (Ok v) read p own v refl) [ inl same ↦ same | inr memory ↦ kept memory ]
  as_read (Err e) p = as_refused e p p.other

-- whatever came of the bytes, it is what reading gives
pub decoded_as_read : {V : Type 0} (kind : Kind V) (reader : Reader V) → ReadsTexts kind reader → (bytes : List ℕ) (r : Result V Fault) → AreBytes bytes → Decodes kind bytes r
    → ReadsAll reader bytes (cut_as_bad r)
decoded_as_read kind reader law bytes r fits p within = as_read kind reader law bytes fits within r p

pub brief_reader : (replicas : ℕ) → IsReaderOf (brief_kind replicas) (brief_at replicas)
brief_reader replicas = reader_of_texts (brief_kind replicas) (brief_at replicas) (briefs_read replicas)

pub brief_as_read : (replicas : ℕ) (bytes : List ℕ) (r : Result DigestValue Fault) → AreBytes bytes → Decodes (brief_kind replicas) bytes r
    → ReadsAll (brief_at replicas) bytes (cut_as_bad r)
brief_as_read replicas = decoded_as_read (brief_kind replicas) (brief_at replicas) (briefs_read replicas)
