use Rattle.std.proofs.Common.{ap, ◌∙◌, subst}
use Rattle.rds_delta.specs.Digested.{DigestValue, digest_of}
use Rattle.rds_delta.specs.Claims.{IsCertificate}
use Rattle.rds_delta.specs.Ranks.{Ranks, ranks}
use Rattle.rds_state.specs.Value.{StateValue, coordinates}
use Rattle.rds_answers.specs.Checked.{passes}
use Rattle.rds_answers.proofs.Checks.{passes_are}
use Rattle.rds_session.proofs.judging.passes.Goals as goal

pub returns-clause-ok : goal.returns-clause-ok
returns-clause-ok g c =
    let own = c.in_ok-digest.ensures.value ∙ ap digest_of c.state.ensures.state in
    passes_are c.in_ok-digest.digest c.args.delta.now c.args.certificate.now c.check.result c.check.ensures
    ∙ ap (λ (x : DigestValue). passes x c.args.delta.now c.args.certificate.now) own

pub returns-clause-certified : goal.returns-clause-certified
returns-clause-certified g c =
    let own = c.in_ok-digest.ensures.ranks ∙ ap (λ (v : StateValue). ranks (coordinates v)) c.state.ensures.state in
    λ holds. subst (λ (b : Ranks). IsCertificate b c.args.delta.now c.args.certificate.now) own (c.check.ensures.0 holds).1
