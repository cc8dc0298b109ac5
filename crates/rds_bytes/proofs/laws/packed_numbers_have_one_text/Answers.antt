use Rattle.rds_bytes.proofs.PackedFormats.{packed_one_text}
use Rattle.rds_bytes.proofs.laws.packed_numbers_have_one_text.Goals as goal

pub returns : goal.returns
returns c = packed_one_text
