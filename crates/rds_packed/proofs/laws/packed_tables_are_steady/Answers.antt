use Rattle.rds_packed.specs.FrontSteady.{packed_table_steady}
use Rattle.rds_packed.proofs.laws.packed_tables_are_steady.Goals as goal

pub returns : goal.returns
returns c = packed_table_steady
