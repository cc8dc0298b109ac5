use Rattle.std.proofs.Common.{rules, ◌≡◌, ◌∙◌, max, ap, subst, length, Err}
use Rattle.rds_names.specs.Roster.{RosterValue}
use Rattle.rds_state.specs.Fits.{Fits, ReplicaValue}
use Rattle.rds_state.specs.Value.{coordinates}
use Rattle.rds_codec.specs.AnswerTexts.{answer_kind}
use Rattle.rds_codec.specs.Decoding.{Decodes}
use Rattle.rds_codec.specs.DigestTexts.{digest_kind}
use Rattle.rds_codec.proofs.Replicas.{state_fits}
use Rattle.rds_world.specs.Replies.{NoDigest, NoAnswer}
use Rattle.rds_world.proofs.Sendings.{AreRead, fault_is, is_taken, not_taken}
use Rattle.rds_world.proofs.messages.take_bytes.Given.{Over}
use Rattle.rds_world.proofs.messages.take_bytes.Goals.{After-decode_digest, In_ok-answer}
use Rattle.rds_world.proofs.messages.take_bytes.Goals as goal

-- both texts are read with the longer of the two rosters
most : (g : Over) (c : After-decode_digest g) → c.greater-replicas.result ≡ max (length c.args.asker.now.roster.names) (length c.args.roster.names)
most g c =
    c.greater-replicas.ensures ∙ (λ j. max ((c.len.ensures.names ∙ ap (λ (r : RosterValue). length r.names) (c.roster.ensures ∙ ap (λ (r : ReplicaValue). r.roster) c.replica.ensures)) j) (c.len-2.ensures.names j))

read : (g : Over) (c : In_ok-answer g) → c.greater-replicas.result ≡ max (length c.args.asker.now.roster.names) (length c.args.roster.names)
    → AreRead (max (length c.args.asker.now.roster.names) (length c.args.roster.names)) c.args.ask.now c.args.answer.now c.in_ok-digest.digest c.in_ok-answer.answer
read g c n = subst (λ m. AreRead m c.args.ask.now c.args.answer.now c.in_ok-digest.digest c.in_ok-answer.answer) n (record { asked = c.in_ok-digest.ensures.text; answered = c.in_ok-answer.ensures.text })

pub returns-in_err-digest-clause-fault : goal.returns-in_err-digest-clause-fault
returns-in_err-digest-clause-fault g c =
    let n = most g (goal.at.returns-in_err-digest-clause-fault g c).After-decode_digest in
    let f = c.in_err-digest.field-0.0 in
    let is : c.from_residual.result ≡ Err f = search rules in
    fault_is _ _ f is (NoDigest (subst (λ m. Decodes (digest_kind m) c.args.ask.now (Err f)) n c.in_err-digest.ensures.text))

pub returns-in_err-answer-clause-fault : goal.returns-in_err-answer-clause-fault
returns-in_err-answer-clause-fault g c =
    let n = most g (goal.at.returns-in_err-answer-clause-fault g c).After-decode_digest in
    let f = c.in_err-answer.field-0.0 in
    let is : c.from_residual-in_err-answer.result ≡ Err f = search rules in
    fault_is _ _ f is (NoAnswer (subst (λ m. Decodes (answer_kind m) c.args.answer.now (Err f)) n c.in_err-answer.ensures.text))

pub take_certified-requires-clause-fits : goal.take_certified-requires-clause-fits
take_certified-requires-clause-fits g c =
    let n = most g (goal.at.take_certified-requires-clause-fits g c).After-decode_digest in
    subst (λ m. Fits m (coordinates c.in_ok-answer.answer.state)) n (state_fits c.greater-replicas.result c.in_ok-answer.answer.state c.in_ok-answer.ensures.text.value.1.is_value.state)

pub returns-clause-ok : goal.returns-clause-ok
returns-clause-ok g c =
    let x = goal.at.returns-clause-ok g c in
    is_taken (max (length c.args.asker.now.roster.names) (length c.args.roster.names)) c.args.ask.now c.args.answer.now c.args.asker.now.own c.args.asker.now.state c.in_ok-digest.digest c.in_ok-answer.answer
    (read g x.In_ok-answer (most g x.After-decode_digest)) c.take_certified.new.asker.state c.take_certified.result c.take_certified.ensures.checked c.take_certified.ensures.ok

pub returns-clause-fault : goal.returns-clause-fault
returns-clause-fault g c =
    let x = goal.at.returns-clause-fault g c in
    not_taken (max (length c.args.asker.now.roster.names) (length c.args.roster.names)) c.args.ask.now c.args.answer.now c.args.asker.now.own c.args.asker.now.state c.in_ok-digest.digest c.in_ok-answer.answer
    (read g x.In_ok-answer (most g x.After-decode_digest)) c.take_certified.result c.take_certified.ensures.taken
