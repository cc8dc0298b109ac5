use Rattle.rds_bytes.specs.SteadyParts.{keyed_live_rows_steady, keyed_counters_steady}
use Rattle.rds_bytes.specs.SteadyTables.{table_steady, numbered_steady}
use Rattle.rds_bytes.proofs.laws.tables_are_steady.Goals as goal

pub returns : goal.returns
returns c = record { table = table_steady; number = numbered_steady; live_rows = keyed_live_rows_steady; counters = keyed_counters_steady }
