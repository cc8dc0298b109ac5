use Rattle.std.proofs.Common.{refl}
use Rattle.rds_codec.specs.AnswerTexts.{answer}
use Rattle.rds_codec.specs.Exchanged.{IsAnswerTo, IsLongAnswerIn}
use Rattle.rds_codec.proofs.ExchangeLemmas.{is_reply, lost, no_reply}
use Rattle.rds_codec.proofs.exchanges.answer_in.Goals as goal

pub returns-in_err-bytes-clause-fault : goal.returns-in_err-bytes-clause-fault
returns-in_err-bytes-clause-fault g c =
    let is : IsAnswerTo c.args.digest.now c.args.asker c.args.held.now (answer c.args.asker c.in_ok-delta.delta c.in_ok-certificate.certificate) = record { asked = refl; delta = c.in_ok-delta.ensures.ok; certificate = c.in_ok-certificate.ensures.ok } in
    lost c.from_residual-in_err-bytes.result c.in_err-bytes.field-0.0 (IsLongAnswerIn c.args.format c.args.digest.now c.args.asker c.args.held.now) c.from_residual-in_err-bytes.ensures.1
    (no_reply c.args.format c.args.digest.now c.args.asker c.args.held.now c.in_ok-delta.delta c.in_ok-certificate.certificate is c.in_err-bytes.field-0.0 c.in_err-bytes.ensures.text)

pub returns-clause-ok : goal.returns-clause-ok
returns-clause-ok g c =
    let is : IsAnswerTo c.args.digest.now c.args.asker c.args.held.now (answer c.args.asker c.in_ok-delta.delta c.in_ok-certificate.certificate) = record { asked = refl; delta = c.in_ok-delta.ensures.ok; certificate = c.in_ok-certificate.ensures.ok } in
    is_reply c.args.format c.args.digest.now c.args.asker c.args.held.now c.in_ok-delta.delta c.in_ok-certificate.certificate is
    c.in_ok-bytes.bytes c.components.result c.in_ok-bytes.ensures.text c.components.ensures c.in_ok-bytes.ensures.dots c.in_ok-bytes.ensures.certified
