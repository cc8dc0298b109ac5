use Rattle.rds_bytes.specs.Values.{IsKeyText}
use Rattle.rds_bytes.specs.Spelling.{short_text}
use Rattle.rds_bytes.proofs.Lengths.{IsMeasured}
use Rattle.rds_bytes.proofs.numbered.table_keys_length.Given as goal

abbrev pub invariant-loop-key : goal.invariant-loop-key
invariant-loop-key l = IsMeasured short_text 65 IsKeyText l.keys l.key-index l.total
