use Rattle.rds_bytes.proofs.MetKeys.{rows_meet}
use Rattle.rds_bytes.proofs.laws.rows_meet_their_table.Goals as goal

pub returns : goal.returns
returns c t rows counts differ none are = rows_meet t rows counts differ none are
