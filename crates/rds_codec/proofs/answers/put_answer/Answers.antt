use Rattle.std.proofs.Common.{arith}
use Rattle.rds_codec.specs.AnswerTexts.{answer}
use Rattle.rds_codec.specs.Measured.{format_with}
use Rattle.rds_codec.proofs.InFormats.{answer_in_within}
use Rattle.rds_codec.proofs.Texts.{answer_length, answer_parts, OnOk-map}
use Rattle.rds_codec.proofs.answers.put_answer.Goals as goal

pub put_state-requires-clause-within : goal.put_state-requires-clause-within
put_state-requires-clause-within g c =
    let len = answer_length (format_with c.args.measured.now.keys) (answer c.args.asker c.args.state.now c.args.certificate.now) in
    omega (arith, len, c.requires.measured.exact, c.requires.within)

pub put_certificate-requires : goal.put_certificate-requires
put_certificate-requires g c = (answer_in_within (format_with c.args.measured.now.keys) (answer c.args.asker c.args.state.now c.args.certificate.now) c.requires.within).1

pub returns : goal.returns
returns g c =
    OnOk-map c.put_certificate.result
    (λ last. answer_parts (format_with c.args.measured.now.keys) (answer c.args.asker c.args.state.now c.args.certificate.now) c.args.out.now.items c.put_byte.new.out.items c.put_state.new.out.items c.put_certificate.new.out.items
    c.in_ok-put_byte.ensures c.in_ok-put_state.ensures last)
    c.put_certificate.ensures
