use Rattle.rds_codec.specs.SteadyFormats as formats
use Rattle.rds_codec.specs.SteadyTexts as steady
use Rattle.rds_codec.proofs.steady.texts_are_read_steadily.Goals as goal

pub returns : goal.returns
returns c = record {
  states = formats.state_in_steady;
  snapshots = formats.snapshot_in_steady;
  digests = steady.digest_steady;
  rows = steady.row_steady;
  certificates = steady.certificate_steady;
  answers = formats.answer_in_steady;
  hellos = steady.hello_steady;
}
