use Rattle.std.proofs.Common.{◌≡◌, true, List, ℕ}
use Rattle.rds_bytes.specs.Values.{is_key_text}
use Rattle.rds_bytes.specs.Spelling.{short_text}
use Rattle.rds_bytes.proofs.Lengths.{IsMeasured}
use Rattle.rds_bytes.proofs.paths.keys_length.Given as goal

abbrev pub invariant-loop-key : goal.invariant-loop-key
invariant-loop-key l = IsMeasured short_text 65 (λ (key : List ℕ). is_key_text key ≡ true) l.keys l.key-index l.total
