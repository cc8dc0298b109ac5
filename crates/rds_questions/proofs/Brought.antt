-- What was read of a response, and what it brings.
use Rattle.std.proofs.Common.{◌≡◌, ℕ, Bool, true, false, cond, max, inl, inr, List, length, Result, Ok, Err, refl, sym, subst, arith}
use Rattle.std.specs.Prelude.{IfOk, nat_le}
use Rattle.std.proofs.lemmas.Bool.{leb-true, leb-false}
use Rattle.rds_names.specs.Roster.{RosterValue, longer}
use Rattle.rds_names.specs.declared.fault.Fault.{Fault}
use Rattle.rds_state.specs.Fits.{Fits}
use Rattle.rds_state.specs.Value.{coordinates}
use Rattle.rds_codec.specs.Decoding.{Decodes}
use Rattle.rds_codec.proofs.Replicas.{state_fits}
use Rattle.rds_questions.specs.Questions.{QuestionValue, askers_of}
use Rattle.rds_questions.specs.Receiving.{IsReceivedFrom, ReceivedValue, ReceivesOrLost}
use Rattle.rds_questions.specs.Responses.{ResponseValue, response_kind}

longer_length : (a b : RosterValue) → length (longer a b).names ≡ max (length a.names) (length b.names)
longer_length a b = by (nat_le (length b.names) (length a.names)) refl
  where
    by : (t : Bool) → nat_le (length b.names) (length a.names) ≡ t → length (cond t a b).names ≡ max (length a.names) (length b.names)
    by true is = let le = leb-true (length b.names) (length a.names) is in omega (arith, le)
    by false is = let lt = leb-false (length b.names) (length a.names) is in omega (arith, lt)

module _ (q : QuestionValue) (bytes : List ℕ) (replicas : ℕ) (is : replicas ≡ askers_of q) (r : ResponseValue) where
  abbrev read : Result ResponseValue Fault
  read = Ok r

  whole : Decodes (response_kind replicas) bytes read → Decodes (response_kind (askers_of q)) bytes read
  whole d = subst (λ n. Decodes (response_kind n) bytes read) is d

  pub received_from : Decodes (response_kind replicas) bytes read → (result : Result ReceivedValue Fault) → ReceivesOrLost q r result → IfOk result (IsReceivedFrom q bytes)
  received_from d (Ok x) h = elim h [
    | inl bad ↦ absurd (let no_memory : (let o : Result ReceivedValue Fault = Ok x in o) ≡ Err Rattle.rds_names.specs.declared.fault.Fault.TheVariants.Memory = bad in cc)
    | inr gives ↦ (let v = (whole d).value in record { response = r; within = v.0; text = v.1; gives = gives })
  ]
  received_from d (Err e) h = tt

  pub received_fits : Decodes (response_kind replicas) bytes read → (result : Result ReceivedValue Fault) → ReceivesOrLost q r result → IfOk result (λ x. Fits (length x.roster.names) (coordinates x.delta))
  received_fits d (Ok x) h = elim h [
    | inl bad ↦ absurd (let no_memory : (let o : Result ReceivedValue Fault = Ok x in o) ≡ Err Rattle.rds_names.specs.declared.fault.Fault.TheVariants.Memory = bad in cc)
    | inr gives ↦
        let state = (whole d).value.1.is_value.answer.state in
        let fits = state_fits (max (askers_of q) (length r.hello.roster.names)) r.answer.state state in
        subst (λ (y : ReceivedValue). Fits (length y.roster.names) (coordinates y.delta)) (sym gives.1.1.1)
        (subst (λ n. Fits n (coordinates r.answer.state)) (sym (longer_length q.hello.roster r.hello.roster)) fits)
  ]
  received_fits d (Err e) h = tt
