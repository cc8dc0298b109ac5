use Rattle.std.proofs.Common.{◌≡◌, ap, sym, inl, inr, ◌∙◌, subst}
use Rattle.rds_state.specs.Fits.{ReplicaValue}
use Rattle.rds_session.specs.declared.step.Ended.TheVariants.{Failed}
use Rattle.rds_session.specs.declared.talk.Side.{Side}
use Rattle.rds_session.specs.Received.{HasChecked, delivery_of}
use Rattle.rds_session.specs.Session.{Standing, Nothing, course}
use Rattle.rds_session.specs.declared.step.Ended.{Ended}
use Rattle.rds_session.specs.Steps.{HasStanding, IsOver}
use Rattle.rds_session.proofs.Spoken.{heard_some, of_calls, one_failed}
use Rattle.rds_session.proofs.Turns.{exchanged}
use Rattle.rds_session.proofs.exchanging.exchange.Goals as goal

-- a session that hasn't begun is of the replica that it was lent
kept_at_first : (side : Side) (kept : ReplicaValue) (s : Standing) → HasStanding side kept Nothing s → s.kept ≡ kept
unfolding course
kept_at_first side kept s is = ap (λ (t : Standing). t.kept) is

pub returns-in-Ok-clause-checked : goal.returns-in-Ok-clause-checked
returns-in-Ok-clause-checked g c =
    let kept = c.talk.ensures.kept ∙ kept_at_first c.args.side c.args.kept.now _ c.new-session.ensures.standing in
    subst (λ k. HasChecked k (delivery_of c.of.result.received c.of.result.roster)) kept c.of.ensures.checked

pub returns-in-Err-clause-checked : goal.returns-in-Err-clause-checked
returns-in-Err-clause-checked g c =
    let kept = c.talk.ensures.kept ∙ kept_at_first c.args.side c.args.kept.now _ c.new-session.ensures.standing in
    subst (λ k. HasChecked k (delivery_of c.of-in-Err.result.received c.of-in-Err.result.roster)) kept c.of-in-Err.ensures.checked

pub returns-in-Ok-clause-exchange : goal.returns-in-Ok-clause-exchange
returns-in-Ok-clause-exchange g c =
    let over = subst (λ (e : Ended). (e ≡ c.talk.new.session.ended) × IsOver e) (sym c.of.ensures.ended) c.in-Ok.ensures.ended in
    λ reader writer. exchanged c.args.side c.args.kept.now (g.R.Read.remaining c.args.reader.now.inner) _ c.talk.new.session _ _ (delivery_of c.of.result.received c.of.result.roster) c.of.result.ended
    (c.in-Ok.ensures.speaks c.args.side c.args.kept.now c.new-session.ensures.standing) over c.of.ensures.received

pub returns-in-Err-clause-exchange : goal.returns-in-Err-clause-exchange
returns-in-Err-clause-exchange g c = one_failed _ _ _ c.in-Err.ensures.fault.1

pub returns-in-Ok-clause-done : goal.returns-in-Ok-clause-done
returns-in-Ok-clause-done g c = λ is_done. c.of.ensures.done (sym c.in-Ok.ensures.ended.0 ∙ sym c.of.ensures.ended ∙ is_done)

pub returns-in-Ok-clause-session : goal.returns-in-Ok-clause-session
returns-in-Ok-clause-session g c = record {
  session = c.talk.new.session;
  heard = heard_some _ _ _ _ _ _ (c.in-Ok.ensures.speaks c.args.side c.args.kept.now c.new-session.ensures.standing);
  is_received = c.of.ensures.received;
  stands = inl (c.of.ensures.ended ∙ c.in-Ok.ensures.ended.0);
}

pub returns-in-Err-clause-session : goal.returns-in-Err-clause-session
returns-in-Err-clause-session g c = record {
  session = c.talk.new.session;
  heard = heard_some _ _ _ _ _ _ (c.in-Err.ensures.part c.args.side c.args.kept.now c.new-session.ensures.standing);
  is_received = c.of-in-Err.ensures.received;
  stands = inr (inl (c.of-in-Err.ensures.ended ∙ ap Failed c.in-Err.ensures.fault.0));
}

pub returns-in-Ok-clause-heard : goal.returns-in-Ok-clause-heard
returns-in-Ok-clause-heard g c =
    of_calls _ _ _ _ _ _ c.talk.new.session _ _ _ _ (c.in-Ok.ensures.speaks c.args.side c.args.kept.now c.new-session.ensures.standing) c.of.ensures.received
    (λ sent written. inl (c.of.ensures.ended ∙ c.in-Ok.ensures.ended.0, written))

pub returns-in-Err-clause-heard : goal.returns-in-Err-clause-heard
returns-in-Err-clause-heard g c =
    of_calls _ _ _ _ _ _ c.talk.new.session _ _ _ _ (c.in-Err.ensures.part c.args.side c.args.kept.now c.new-session.ensures.standing) c.of-in-Err.ensures.received
    (λ sent written. inr (c.of-in-Err.ensures.ended ∙ ap Failed c.in-Err.ensures.fault.0, written))
