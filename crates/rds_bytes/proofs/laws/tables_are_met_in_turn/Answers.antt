use Rattle.rds_bytes.proofs.TableLaws.{is_table, meets_all}
use Rattle.rds_bytes.proofs.laws.tables_are_met_in_turn.Goals as goal

pub returns : goal.returns
returns c table keys differ are = (meets_all table differ keys are, is_table table differ keys are)
