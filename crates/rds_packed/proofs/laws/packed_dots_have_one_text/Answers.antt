use Rattle.rds_packed.proofs.SeenFormats.{packed_dots_one_text}
use Rattle.rds_packed.proofs.laws.packed_dots_have_one_text.Goals as goal

pub returns : goal.returns
returns c = packed_dots_one_text c.packed_numbers_have_one_text.ensures
