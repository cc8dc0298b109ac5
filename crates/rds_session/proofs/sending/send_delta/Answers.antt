use Rattle.std.proofs.Common.{rules, ◌≡◌, ◌∷◌, MatchResult, Ok, Err, subst}
use Rattle.rds_state.specs.Value.{StateValue}
use Rattle.rds_codec.specs.AnswerTexts.{answer}
use Rattle.rds_codec.specs.FormatTexts.{answer_text_in}
use Rattle.rds_answers.specs.Checked.{certificate_of, least_state}
use Rattle.rds_session.specs.Sending.{SendsOne}
use Rattle.rds_session.proofs.Sendings.{answered}
use Rattle.rds_session.proofs.sending.send_delta.Goals as goal

pub returns : goal.returns
returns g c =
    let digest = c.args.digest.now in
    let peer = c.args.peer.now in
    let format = c.format-format.result in
    let body : MatchResult c.answer_in-answered.result (λ p. c.map.result ≡ Ok p.0) (λ e. c.map.result ≡ Err e) = search rules in
    rw (← c.format-format.ensures) (subst (λ (v : StateValue). SendsOne c.args.send.now.items c.send_body.new.send.items (3 ∷ answer_text_in format (answer peer.number (least_state v digest) (certificate_of digest (least_state v digest)))) c.send_body.result) c.state.ensures.state
    (c.send_body.ensures _ (answered format peer.number c.state.result.now digest c.answer_in-answered.result c.map.result body c.answer_in-answered.ensures.ok c.answer_in-answered.ensures.fault)))
