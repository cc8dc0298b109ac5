use Rattle.rds_bytes.proofs.SetRowLemmas.{made_of_rows, spelled_by_rows, spelled_by_no_others}
use Rattle.rds_bytes.proofs.laws.sets_are_spelled_by_rows.Goals as goal

pub returns : goal.returns
returns c = record { spelled = spelled_by_rows; one = spelled_by_no_others; read = made_of_rows }
