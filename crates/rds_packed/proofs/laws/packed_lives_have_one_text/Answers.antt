use Rattle.rds_packed.proofs.RowFormats.{packed_key_one_text, packed_lives_one_text}
use Rattle.rds_packed.proofs.laws.packed_lives_have_one_text.Goals as goal

pub returns : goal.returns
returns c = record {
  key = packed_key_one_text c.packed_numbers_have_one_text.ensures;
  lives = packed_lives_one_text c.packed_numbers_have_one_text.ensures;
}
