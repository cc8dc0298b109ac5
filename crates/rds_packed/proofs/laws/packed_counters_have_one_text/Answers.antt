use Rattle.rds_packed.proofs.CountFormats.{packed_counters_one_text}
use Rattle.rds_packed.proofs.laws.packed_counters_have_one_text.Goals as goal

pub returns : goal.returns
returns c = packed_counters_one_text c.packed_numbers_have_one_text.ensures
