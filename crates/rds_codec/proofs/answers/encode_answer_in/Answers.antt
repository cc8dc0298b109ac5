use Rattle.std.proofs.Common.{◌≡◌, inl, length, refl, rules, subst, sym, Err, arith}
use Rattle.rds_names.specs.declared.fault.Fault.TheVariants.{Memory}
use Rattle.rds_codec.specs.AnswerTexts.{answer, answer_text_in}
use Rattle.rds_codec.specs.FormatWriting.{IsUnwrittenIn}
use Rattle.rds_codec.specs.Measured.{format_with}
use Rattle.rds_codec.specs.declared.formats.Format.{Format}
use Rattle.rds_codec.proofs.ClaimTexts.{is_certificate_of}
use Rattle.rds_codec.proofs.Texts.{answer_length, answer_measured, refused_by, unmeasured_in, unwritten_in, written_in}
use Rattle.rds_codec.proofs.answers.encode_answer_in.Goals as goal

pub returns-in_err-measured-clause-text : goal.returns-in_err-measured-clause-text
returns-in_err-measured-clause-text g c =
    refused_by _ _ c.from_residual.result c.in_err-measured.field-0.0 c.from_residual.ensures.1 (unmeasured_in c.args.format _ c.in_err-measured.field-0.0 c.in_err-measured.ensures.memory)

pub returns-in_err-out-clause-text : goal.returns-in_err-out-clause-text
returns-in_err-out-clause-text g c =
    let a = answer c.args.asker c.args.state.now c.args.certificate.now in
    let e = answer_measured c.args.format c.args.state.now c.in_ok-measured.measured c.in_ok-measured.ensures.measured c.in_ok-measured.ensures.format a c.answer_length.result refl c.answer_length.ensures.length in
    let fault = c.in_err-out.field-0.0 in
    refused_by _ _ c.from_residual-in_err-out.result fault c.from_residual-in_err-out.ensures.1 (subst (λ n. IsUnwrittenIn c.args.format n fault) e (unwritten_in c.args.format _ fault c.in_err-out.ensures))

pub put_answer-requires-clause-within : goal.put_answer-requires-clause-within
put_answer-requires-clause-within g c =
    let m = c.in_ok-measured.measured in
    let exact = c.in_ok-measured.ensures.measured.exact in
    let len = answer_length (format_with m.keys) (answer c.args.asker c.args.state.now c.args.certificate.now) in
    let room = c.in_ok-out.ensures in
    omega (arith, len, exact, c.answer_length.ensures.length, room.1)

pub returns-in_err-put_answer-clause-text : goal.returns-in_err-put_answer-clause-text
returns-in_err-put_answer-clause-text g c =
    let a = answer c.args.asker c.args.state.now c.args.certificate.now in
    let e = answer_measured c.args.format c.args.state.now c.in_ok-measured.measured c.in_ok-measured.ensures.measured c.in_ok-measured.ensures.format a c.answer_length.result refl c.answer_length.ensures.length in
    let is : c.from_residual-in_err-put_answer.result ≡ Err Memory = search rules in
    let room = c.in_ok-out.ensures in
    rw is (unwritten_in c.args.format _ Memory (inl (refl, omega (arith, e, room.1))))

pub returns-clause-text : goal.returns-clause-text
returns-clause-text g c =
    let a = answer c.args.asker c.args.state.now c.args.certificate.now in
    let m = c.in_ok-measured.measured in
    let exact = c.in_ok-measured.ensures.measured.exact in
    let len = answer_length (format_with m.keys) a in
    let room = c.in_ok-out.ensures in
    written_in c.args.format (format_with m.keys) (λ (f : Format). answer_text_in f a) c.in_ok-out.out.items c.put_answer.new.out.items c.in_ok-measured.ensures.format room.0 c.in_ok-put_answer.ensures
    (omega (arith, len, exact, c.answer_length.ensures.length, room.1))

pub returns-clause-dots : goal.returns-clause-dots
returns-clause-dots g c = λ replicas fits. (c.in_ok-measured.ensures.value replicas fits).dots

pub returns-clause-certified : goal.returns-clause-certified
returns-clause-certified g c = λ replicas peer below fits above certificate.
    let is = c.in_ok-measured.ensures.value replicas fits in
    record {
      asker = (omega (arith, c.ranges.asker.fits), below);
      state = is;
      certificate = is_certificate_of replicas peer c.args.state.now c.args.certificate.now is above certificate c.answer_length.ensures.held;
    }
