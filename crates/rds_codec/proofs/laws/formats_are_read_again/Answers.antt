use Rattle.rds_codec.specs.FormatTexts.{state_kind_in, state_at_in, answer_kind_in, answer_at_in, snapshot_kind_in, snapshot_in_at}
use Rattle.rds_codec.proofs.BothSnapshots.{snapshot_in_reader}
use Rattle.rds_codec.proofs.InFormats.{state_in_reader, answer_in_reader}
use Rattle.rds_codec.proofs.Whole.{text_again}
use Rattle.rds_codec.proofs.laws.formats_are_read_again.Goals as goal

pub returns : goal.returns
returns c = record {
  states = λ format n v h. text_again (state_kind_in format n) (state_at_in format n) (state_in_reader format n) v h.is_value h.within;
  answers = λ format n a h. text_again (answer_kind_in format n) (answer_at_in format n) (answer_in_reader format n) a h.is_value h.within;
  snapshots = λ s h. text_again snapshot_kind_in snapshot_in_at snapshot_in_reader s h.is_value h.within;
}
