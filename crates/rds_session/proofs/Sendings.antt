-- Messages that are sent one after the other.
use Rattle.std.proofs.Common.{◌≡◌, ℕ, ◌<◌, ◌≤◌, inl, inr, Bool, true, false, ltb, List, [], ◌∷◌, ◌++◌, length, Result, Ok, Err, IfOk, IfErr, MatchResult, sym, subst, ap, ◌∙◌, append_assoc}
use Rattle.std.proofs.lemmas.Bool.{lt-ltb, le-ltb}
use Rattle.std.proofs.lemmas.List.{append-nil}
use Rattle.std.specs.Global.{Vec}
use Rattle.rds_names.specs.declared.fault.Fault.{Fault}
use Rattle.rds_state.specs.Value.{StateValue}
use Rattle.rds_delta.specs.Digested.{DigestValue}
use Rattle.rds_codec.specs.AnswerTexts.{answer}
use Rattle.rds_codec.specs.AnswerValues.{AnswerValue}
use Rattle.rds_codec.specs.Exchanged.{IsAnswerTo, IsLongAnswerIn, IsLost, IsReplyIn}
use Rattle.rds_codec.specs.FormatTexts.{answer_text_in}
use Rattle.rds_codec.specs.declared.formats.Format.{Format}
use Rattle.rds_codec.specs.Writing.{Encodes}
use Rattle.rds_codec.specs.declared.limits.TheConstants.{LIMIT}
use Rattle.rds_answers.specs.Checked.{certificate_of, least_state}
use Rattle.rds_answers.proofs.Checks.{delta_is}
use Rattle.rds_session.specs.declared.chunks.TheConstants.{MESSAGE_LIMIT}
use Rattle.rds_session.specs.Chunks.{message_in_chunks}
use Rattle.rds_session.specs.Sending.{sending, then_sent, IsTextOrLost, SendsOne, SendsAll}

pub none_sent : (old : List ℕ) → then_sent old (sending []) ≡ (old, true)
unfolding sending
none_sent old = ap (λ (t : List ℕ). (t, true)) (append-nil old)

pub first_long : (old new m : List ℕ) (ms : List (List ℕ)) → MESSAGE_LIMIT < length m → new ≡ old → then_sent old (sending (m ∷ ms)) ≡ (new, false)
unfolding sending
first_long old new m ms long e = let t : ltb MESSAGE_LIMIT (length m) ≡ true = lt-ltb _ _ long in rw (t, e) (ap (λ (t : List ℕ). (t, false)) (append-nil old))

pub first_sent : (old mid m : List ℕ) (ms : List (List ℕ)) (p : List ℕ × Bool) → length m ≤ MESSAGE_LIMIT → mid ≡ old ++ message_in_chunks m → then_sent mid (sending ms) ≡ p → then_sent old (sending (m ∷ ms)) ≡ p
unfolding sending
first_sent old mid m ms p fits e rest =
    let t : ltb MESSAGE_LIMIT (length m) ≡ false = le-ltb _ _ fits in
    rw t (ap (λ (t : List ℕ). (t, (sending ms).1)) (sym (append_assoc old (message_in_chunks m) (sending ms).0) ∙ ap (λ (t : List ℕ). t ++ (sending ms).0) (sym e)) ∙ rest)

last_by : (old new m : List ℕ) (fits : Bool) → SendsOne old new m (Ok fits) → SendsAll old new (m ∷ []) (Ok fits)
last_by old new m true h = first_sent old new m [] (new, true) h.0 h.1 (none_sent new)
last_by old new m false h = first_long old new m [] h.0 h.1

pub last_sent : (old new m : List ℕ) (r : Result Bool Fault) → SendsOne old new m r → SendsAll old new (m ∷ []) r
last_sent old new m (Ok fits) h = last_by old new m fits h
last_sent old new m (Err e) h = h

pub more_sent : (old mid new m : List ℕ) (ms : List (List ℕ)) (r : Result Bool Fault) → length m ≤ MESSAGE_LIMIT → mid ≡ old ++ message_in_chunks m → SendsAll mid new ms r → SendsAll old new (m ∷ ms) r
more_sent old mid new m ms (Ok all) fits e h = first_sent old mid m ms (new, all) fits e h
more_sent old mid new m ms (Err f) fits e h = h

-- ---- what a body is made of

pub encoded : (text : List ℕ) (r : Result (Vec ℕ) Fault) → Encodes text r → IsTextOrLost text r
encoded text (Ok v) h = h
encoded text (Err e) h = elim h [ inl m ↦ inl m.0 | inr l ↦ inr l ]

module _ (format : Format) (peer : ℕ) (held : StateValue) (digest : DigestValue) where
  abbrev due : List ℕ
  due = answer_text_in format (answer peer (least_state held digest) (certificate_of digest (least_state held digest)))

  due_is : (a : AnswerValue) → IsAnswerTo digest peer held a → answer_text_in format a ≡ due
  due_is a is =
      let whole : a ≡ answer peer a.state a.certificate = λ j. answer (is.asked j) a.state a.certificate in
      ap (answer_text_in format) (whole ∙ delta_is held digest peer a.state a.certificate is.delta is.certificate)

  pub answered : (r : Result (Vec ℕ × ℕ) Fault) (body : Result (Vec ℕ) Fault) → MatchResult r (λ p. body ≡ Ok p.0) (λ e. body ≡ Err e)
      → IfOk r (λ p. IsReplyIn format digest peer held p.0.items p.1) → IfErr r (IsLost (IsLongAnswerIn format digest peer held)) → IsTextOrLost due body
  answered (Ok p) body e is lost =
      let same = is.text ∙ due_is is.value is.answers in
      subst (IsTextOrLost due) (sym e) (same, subst (λ (t : List ℕ). length t ≤ LIMIT) same is.within)
  answered (Err f) body e is lost =
      subst (IsTextOrLost due) (sym e) (elim lost [ inl m ↦ inl m | inr l ↦ inr (l.0, subst (λ (t : List ℕ). LIMIT < length t) (due_is l.1.value l.1.answers) l.1.long) ])
