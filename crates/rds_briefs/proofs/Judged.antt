-- From a brief at the front of bytes to decoding all of them.
use Rattle.std.proofs.Common.{◌≡◌, ◌≢◌, ℕ, ◌<◌, ◌≤◌, inl, inr, List, [], ◌++◌, length, Ok, Err, refl, sym, ap, ◌∙◌, arith}
use Rattle.std.proofs.lemmas.List.{append-nil}
use Rattle.rds_names.specs.declared.fault.Fault.{Fault}
use Rattle.rds_names.specs.declared.fault.Fault.TheVariants.{Memory, Cut, Bad, Extra, TooLong}
use Rattle.rds_codec.specs.declared.limits.TheConstants.{LIMIT}
use Rattle.rds_codec.specs.Decoding.{IsOtherFault, Decodes}
use Rattle.rds_codec.specs.Kinds.{Kind}
use Rattle.rds_bytes.proofs.Format.{err_is, failed, done}
use Rattle.rds_briefs.specs.Briefs.{RefusesBrief}

module _ {V : Type 0} (kind : Kind V) (bytes : List ℕ) where
  pub decodes_long : LIMIT < length bytes → Decodes kind bytes (Err TooLong)
  decodes_long lt = record {
    value = tt;
    found = λ w le h. absurd (let none : ⊥ = omega arith in none);
    long = λ _. refl;
    long_only = λ _. lt;
    extra = λ le h. absurd (let none : ⊥ = omega arith in none);
    extra_only = λ e. absurd (let bad : TooLong ≡ Extra = err_is {A = V} TooLong Extra e in cc);
    other = inr (inl refl);
  }

  module _ (within : length bytes ≤ LIMIT) where
    no_long : {A : Type 0} → LIMIT < length bytes → A
    no_long lt = absurd (let none : ⊥ = omega arith in none)

    kept : (e : Fault) → RefusesBrief e → e ≡ TooLong → ⊥
    kept e h is = elim h [ inl m ↦ (let bad : Memory ≡ TooLong = sym m ∙ is in cc) | inr d ↦ elim d [ inl x ↦ (let bad : Cut ≡ TooLong = sym x ∙ is in cc) | inr y ↦ (let bad : Bad ≡ TooLong = sym y ∙ is in cc) ] ]

    not_extra : (e : Fault) → RefusesBrief e → e ≡ Extra → ⊥
    not_extra e h is = elim h [ inl m ↦ (let bad : Memory ≡ Extra = sym m ∙ is in cc) | inr d ↦ elim d [ inl x ↦ (let bad : Cut ≡ Extra = sym x ∙ is in cc) | inr y ↦ (let bad : Bad ≡ Extra = sym y ∙ is in cc) ] ]

    known : (e : Fault) → RefusesBrief e → IsOtherFault e
    known e h = elim h [ inl m ↦ inl m | inr d ↦ inr (inr (inr d)) ]

    pub decodes_refused : (e : Fault) → RefusesBrief e → ((v : V) (rest : List ℕ) → kind.is_value v → bytes ≡ kind.text v ++ rest → e ≡ Memory) → Decodes kind bytes (Err e)
    decodes_refused e one text = record {
      value = tt;
      found = λ v le h. inr (ap (λ (x : Fault). failed {A = V} x) (text v [] h.is_value (h.spelled ∙ sym (append-nil (kind.text v)))));
      long = λ lt. no_long lt;
      long_only = λ h. absurd (kept e one (err_is {A = V} e TooLong h));
      extra = λ le h. inr (ap (λ (x : Fault). failed {A = V} x) (text h.value h.rest h.is_value h.spelled));
      extra_only = λ h. absurd (not_extra e one (err_is {A = V} e Extra h));
      other = known e one;
    }

    module _ (v : V) (rest : List ℕ) (is : kind.is_value v) (spelled : bytes ≡ kind.text v ++ rest) (only : (w : V) (more : List ℕ) → kind.is_value w → bytes ≡ kind.text w ++ more → (v ≡ w) × (rest ≡ more)) where
      pub decodes_extra : rest ≢ [] → Decodes kind bytes (Err Extra)
      decodes_extra some = record {
        value = tt;
        found = λ w le h. absurd (some (only w [] h.is_value (h.spelled ∙ sym (append-nil (kind.text w)))).1);
        long = λ lt. no_long lt;
        long_only = λ h. absurd (let bad : Extra ≡ TooLong = err_is {A = V} Extra TooLong h in cc);
        extra = λ le h. inl refl;
        extra_only = λ h. (within, record { value = v; rest = rest; is_value = is; more = some; spelled = spelled });
        other = inr (inr (inl refl));
      }

      pub decodes_whole : rest ≡ [] → Decodes kind bytes (Ok v)
      decodes_whole none = record {
        value = (within, record { is_value = is; spelled = spelled ∙ ap (λ (r : List ℕ). kind.text v ++ r) none ∙ append-nil (kind.text v) });
        found = λ w le h. inl (ap (λ (x : V). done x) (only w [] h.is_value (h.spelled ∙ sym (append-nil (kind.text w)))).0);
        long = λ lt. no_long lt;
        long_only = λ h. absurd cc;
        extra = λ le h. absurd (h.more (sym (only h.value h.rest h.is_value h.spelled).1 ∙ none));
        extra_only = λ h. absurd cc;
        other = tt;
      }
