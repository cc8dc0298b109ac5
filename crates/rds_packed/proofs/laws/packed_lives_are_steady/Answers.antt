use Rattle.rds_packed.specs.PackedSteady.{packed_key_steady, packed_lives_steady}
use Rattle.rds_packed.proofs.laws.packed_lives_are_steady.Goals as goal

pub returns : goal.returns
returns c = record { key = packed_key_steady; lives = packed_lives_steady }
