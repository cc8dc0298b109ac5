use Rattle.std.proofs.Common.{rules, arith, ◌≡◌, ◌∙◌, max, ap, subst, length, Err}
use Rattle.rds_names.specs.Roster.{RosterValue}
use Rattle.rds_codec.specs.Decoding.{Decodes}
use Rattle.rds_codec.specs.DigestTexts.{digest_kind}
use Rattle.rds_world.specs.Replies.{Unread}
use Rattle.rds_state.specs.Value.{coordinates}
use Rattle.rds_state.proofs.FitsLemmas.{fits_more}
use Rattle.rds_world.proofs.Sendings.{fault_is, is_reply, no_reply}
use Rattle.rds_world.proofs.messages.reply.Given.{Over}
use Rattle.rds_world.proofs.messages.reply.Goals.{After-decode_digest}
use Rattle.rds_world.proofs.messages.reply.Goals as goal

-- the ask is read with the longer of the two rosters
read : (g : Over) (c : After-decode_digest g) → Decodes (digest_kind (max c.args.names (length c.args.kept.now.roster.names))) c.args.ask.now c.decode_digest.result
read g c =
    subst (λ m. Decodes (digest_kind m) c.args.ask.now c.decode_digest.result) (c.greater-replicas.ensures ∙ ap (max c.args.names) (c.len.ensures.names ∙ ap (λ (r : RosterValue). length r.names) c.roster.ensures)) c.decode_digest.ensures.text

pub returns-in_err-digest-clause-fault : goal.returns-in_err-digest-clause-fault
returns-in_err-digest-clause-fault g c =
    let f = c.in_err-digest.field-0.0 in
    let is : c.from_residual.result ≡ Err f = search rules in
    let unread = read g (goal.at.returns-in_err-digest-clause-fault g c).After-decode_digest in
    fault_is _ _ f is (Unread (subst (Decodes (digest_kind (max c.args.names (length c.args.kept.now.roster.names))) c.args.ask.now) c.in_err-digest.was unread))

pub returns-clause-ok : goal.returns-clause-ok
returns-clause-ok g c =
    let own = length c.args.kept.now.roster.names in
    let most = max c.args.names own in
    let told = subst (Decodes (digest_kind most) c.args.ask.now) c.in_ok-digest.was (read g (goal.at.returns-clause-ok g c).After-decode_digest) in
    is_reply most c.args.ask.now c.args.asker c.args.kept.now.state c.state.result.now c.in_ok-digest.digest c.state.ensures.state told c.answer.result (omega (arith, c.ranges.asker.fits), c.requires)
    (fits_more own most (coordinates c.args.kept.now.state) (omega arith) c.state.ensures.fits) c.answer.ensures.ok

pub returns-clause-fault : goal.returns-clause-fault
returns-clause-fault g c =
    let most = max c.args.names (length c.args.kept.now.roster.names) in
    let told = subst (Decodes (digest_kind most) c.args.ask.now) c.in_ok-digest.was (read g (goal.at.returns-clause-fault g c).After-decode_digest) in
    no_reply most c.args.ask.now c.args.asker c.args.kept.now.state c.state.result.now c.in_ok-digest.digest c.state.ensures.state told c.answer.result c.answer.ensures.fault
