-- The bytes of asks and answers hold what was asked and answered.
use Rattle.std.proofs.Common.{◌≡◌, OnOk, ℕ, ◌≤◌, inl, inr, List, length, Result, Ok, Err, IfOk, IfErr, sym, subst}
use Rattle.std.specs.Global.{Vec}
use Rattle.rds_names.specs.declared.fault.Fault.{Fault}
use Rattle.rds_state.specs.Ahead.{TakeGives}
use Rattle.rds_state.specs.Coordinates.{join}
use Rattle.rds_state.specs.Fits.{Fits}
use Rattle.rds_state.specs.Value.{StateValue, coordinates}
use Rattle.rds_delta.specs.Digested.{DigestValue, digest_of}
use Rattle.rds_delta.proofs.Digests.{live_inside, ranks_of_digest}
use Rattle.rds_codec.specs.AnswerTexts.{answer_kind}
use Rattle.rds_codec.specs.AnswerValues.{AnswerValue}
use Rattle.rds_codec.specs.CertificateTexts.{IsReplicaOf}
use Rattle.rds_codec.specs.Decoding.{Decodes}
use Rattle.rds_codec.specs.DigestTexts.{digest_kind, digest_text}
use Rattle.rds_codec.specs.Exchanged.{IsAskOf, IsCertified, IsLongAnswer, IsLost, IsReplyTo, TakesCertified, Certified}
use Rattle.rds_codec.specs.Exchanged.{Uncertified}
use Rattle.rds_codec.specs.declared.limits.TheConstants.{LIMIT}
use Rattle.rds_world.specs.Replies.{IsReply, HasNoReply, Lacks, TooBig, TakesReply, IsNotTaken, Untaken}
use Rattle.rds_world.specs.Replies as replies
use Rattle.rds_world.specs.Stands.{HoldsAsk}

pub fault_is : {T : Type 0} (P : Fault → Type 0) (r : Result T Fault) (f : Fault) → r ≡ Err f → P f → IfErr r P
fault_is P r f is h = subst (λ x. IfErr x P) (sym is) h

-- ---- an ask

pub holds_ask : (own n asker names : ℕ) (v w : StateValue) (bytes : List ℕ) → w ≡ v → Fits n (coordinates v) → IsAskOf w bytes → asker ≡ own → names ≡ n
    → HoldsAsk (record { asker = own; names = n; state = coordinates v }) (record { asker = asker; names = names; bytes = bytes })
holds_ask own n asker names v w bytes e fits sent same many =
    let is : IsAskOf v bytes = subst (λ (s : StateValue). IsAskOf s bytes) e sent in
    record {
      asker = same;
      names = many;
      digest = digest_of v;
      ranks = ranks_of_digest v;
      inside = live_inside v.lives;
      text = is.text;
      within = is.within;
      again = is.again n fits;
    }

pub short_ask : (v w : StateValue) (bytes : List ℕ) → w ≡ v → IsAskOf w bytes → length (digest_text (digest_of v)) ≤ LIMIT
short_ask v w bytes e sent = subst (λ (s : StateValue). length (digest_text (digest_of s)) ≤ LIMIT) e (subst (λ (t : List ℕ). length t ≤ LIMIT) sent.text sent.within)

-- ---- an answer

module _ (n : ℕ) (ask : List ℕ) (asker : ℕ) (held w : StateValue) (digest : DigestValue) (is : w ≡ held) (read : Decodes (digest_kind n) ask (Ok digest)) where
  pub is_reply : (r : Result (Vec ℕ × ℕ) Fault) → IsReplicaOf n asker → Fits n (coordinates held) → IfOk r (λ p. IsReplyTo digest asker w p.0.items p.1) → IfOk r (λ p. IsReply n ask asker held p.0.items p.1)
  is_reply (Ok p) replica fits sent = record {
    replica = replica;
    fits = fits;
    digest = digest;
    read = read;
    reply = subst (λ (s : StateValue). IsReplyTo digest asker s p.0.items p.1) is sent;
  }
  is_reply (Err f) replica fits sent = tt

  pub no_reply : (r : Result (Vec ℕ × ℕ) Fault) → IfErr r (IsLost (IsLongAnswer digest asker w)) → IfErr r (HasNoReply n ask asker held)
  no_reply (Ok p) lost = tt
  no_reply (Err f) lost = elim lost [
    | inl m ↦ Lacks m
    | inr l ↦ TooBig digest read l.0 (subst (IsLongAnswer digest asker) is l.1)
  ]

-- ---- a take

-- what the bytes of an ask and of its answer bring
pub record AreRead (n : ℕ) (ask bytes : List ℕ) (digest : DigestValue) (a : AnswerValue) : Type 0 where
  pub asked : Decodes (digest_kind n) ask (Ok digest)
  pub answered : Decodes (answer_kind n) bytes (Ok a)

module _ (n : ℕ) (ask bytes : List ℕ) (own : ℕ) (old : StateValue) (digest : DigestValue) (a : AnswerValue) (read : AreRead n ask bytes digest a) where
  pub is_taken : (new : StateValue) (r : Result (Unit {0}) Fault) → OnOk r (IsCertified digest a) → OnOk r (coordinates new ≡ join (coordinates old) (coordinates a.state)) → OnOk r (TakesReply n ask bytes old new)
  is_taken new (Ok x) certified joined = record { digest = digest; asked = read.asked; answer = a; read = read.answered; certified = certified; joined = joined }
  is_taken new (Err f) certified joined = tt

  pub not_taken : (r : Result (Unit {0}) Fault) → TakesCertified digest a (TakeGives old own a.state) r → IfErr r (IsNotTaken n ask bytes own old)
  not_taken (Ok x) takes = tt
  not_taken (Err f) (Certified is gives) = Untaken a read.answered gives
  not_taken (Err f) (Uncertified is e) = replies.Uncertified digest a read.asked read.answered (cc e) is
