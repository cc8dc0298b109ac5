-- What single steps of a session make.
use Rattle.std.proofs.Common.{◌≡◌, ℕ, Bool, true, false, List, ◌++◌, refl, sym, ap, ◌∙◌, append_assoc}
use Rattle.rds_names.specs.declared.fault.Fault.TheVariants.{TooLong}
use Rattle.rds_session.specs.declared.kinds.ByeCode.TheVariants as byes
use Rattle.rds_session.specs.Chunks.{message_in_chunks}
use Rattle.rds_session.specs.Messages.{bye_message}
use Rattle.rds_session.specs.Sending.{then_sent, sending}
use Rattle.std.proofs.lemmas.List.{append-nil}
use Rattle.rds_session.specs.declared.talk.Side.TheVariants.{Server}
use Rattle.rds_session.specs.Session.{Standing, failure, after_sending, after_opening}

-- all messages were sent
pub all_sent : (s : Standing) (old new : List ℕ) (p : List ℕ × Bool) → then_sent old p ≡ (new, true) → (s ≡ (after_sending s p).0) × (new ≡ old ++ (after_sending s p).1)
all_sent s old new p e =
    let flag : p.1 ≡ true = ap (λ (q : List ℕ × Bool). q.1) e in
    let bytes : old ++ p.0 ≡ new = ap (λ (q : List ℕ × Bool). q.0) e in
    rw flag (refl, sym bytes)

-- one is over the MESSAGE_LIMIT
pub some_sent : (s : Standing) (old mid new : List ℕ) (p : List ℕ × Bool) → then_sent old p ≡ (mid, false) → new ≡ mid ++ message_in_chunks (bye_message byes.OwnFault)
    → (failure s TooLong ≡ (after_sending s p).0) × (new ≡ old ++ (after_sending s p).1)
some_sent s old mid new p e more =
    let flag : p.1 ≡ false = ap (λ (q : List ℕ × Bool). q.1) e in
    let bytes : old ++ p.0 ≡ mid = ap (λ (q : List ℕ × Bool). q.0) e in
    rw flag (refl, more ∙ ap (λ (t : List ℕ). t ++ message_in_chunks (bye_message byes.OwnFault)) (sym bytes) ∙ append_assoc old p.0 (message_in_chunks (bye_message byes.OwnFault)))

-- a server begins without a word
pub server_opened : (s : Standing) (sent : List ℕ) → s.begun ≡ false → s.side ≡ Server → (record s { begun = true } ≡ (after_opening s).0) × (sent ≡ sent ++ (after_opening s).1)
unfolding after_opening sending
server_opened s sent new server = rw (new, server) (refl, sym (append-nil sent))
