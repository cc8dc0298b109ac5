use Rattle.rds_bytes.proofs.TabledFormats.{table_one_text, number_one_text, rows_one_text, counters_one_text}
use Rattle.rds_bytes.proofs.laws.tables_have_one_text.Goals as goal

pub returns : goal.returns
returns c = record { table = table_one_text; number = number_one_text; live_rows = rows_one_text; counters = counters_one_text }
