-- What a session came to over its calls, whichever of them failed.
use Rattle.std.proofs.Common.{List, ℕ, Option, inl, inr}
use Rattle.rds_state.specs.Fits.{ReplicaValue}
use Rattle.rds_session.specs.declared.step.Ended.{Ended}
use Rattle.rds_session.specs.declared.talk.Side.{Side}
use Rattle.rds_session.specs.Leaving.{IsOfCalls, IsWrittenUnless}
use Rattle.rds_session.specs.Received.{Delivery}

module _ (WriteFailed : Type 0) where
  either_call : (before after : Option (List ℕ)) (sent : List ℕ) → IsWrittenUnless WriteFailed before after sent → IsWrittenUnless (Unit {0}) before after sent
  either_call before after sent (inl all) = inl all
  either_call before after sent (inr front) = inr (tt, front.1)

  pub any_call : (side : Side) (kept : ReplicaValue) (first now before after : Option (List ℕ)) (received : Option Delivery) (ended : Ended)
      → IsOfCalls side kept first now before after WriteFailed received ended → IsOfCalls side kept first now before after (Unit {0}) received ended
  any_call side kept first now before after received ended s = record {
    session = s.session;
    heard = s.heard;
    begun = s.begun;
    is_heard = s.is_heard;
    sent = s.sent;
    is_sent = s.is_sent;
    is_received = s.is_received;
    stands = elim s.stands [
      | inl whole ↦ inl whole
      | inr cut ↦ inr (cut.0, either_call before after s.sent cut.1)
    ];
  }
