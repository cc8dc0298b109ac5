use Rattle.rds_codec.proofs.Parts.{answer_in_read}
use Rattle.rds_codec.proofs.answers.unfinished_answer.Goals as goal

pub returns : goal.returns
returns g c =
    answer_in_read c.args.replicas c.args.format _ _ _ _ c.unfinished_state-state.ensures c.unfinished_certificate-certificate.ensures c.pair-delta.ensures c.pair.ensures
