use Rattle.rds_names.specs.Conditions.{and_true}
use Rattle.rds_bytes.proofs.keys.key_length.Goals as goal

pub returns-clause-is_key : goal.returns-clause-is_key
returns-clause-is_key c = and_true _ _ c.as_bytes.ensures.utf8 c.as_bytes.ensures.within
