use Rattle.std.proofs.Common.{arith}
use Rattle.rds_codec.proofs.ClaimTexts.{is_certificate_of}
use Rattle.rds_codec.proofs.answers.answers_have_texts.Goals as goal

pub returns-clause-value : goal.returns-clause-value
returns-clause-value g c = λ replicas below fits rows. record {
  asker = (omega (arith, c.ranges.asker.fits), below);
  state = c.measure_one.ensures.value replicas fits;
  certificate = c.certificate_length.ensures.value replicas rows;
}

pub returns-clause-certified : goal.returns-clause-certified
returns-clause-certified g c = λ replicas peer below fits above certificate.
    let is = c.measure_one.ensures.value replicas fits in
    record {
      asker = (omega (arith, c.ranges.asker.fits), below);
      state = is;
      certificate = is_certificate_of replicas peer c.args.state.now c.args.certificate.now is above certificate c.certificate_length.ensures.held;
    }
