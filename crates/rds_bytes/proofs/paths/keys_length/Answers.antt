use Rattle.std.proofs.Common.{◌≡◌, true, List, ℕ}
use Rattle.rds_bytes.specs.Values.{is_key_text}
use Rattle.rds_bytes.specs.Spelling.{short_text}
use Rattle.rds_bytes.proofs.HaveTexts.{all_pass}
use Rattle.rds_bytes.proofs.Lengths.{all_measured}
use Rattle.rds_bytes.proofs.paths.keys_length.Goals as goal

pub returns-clause-are_keys : goal.returns-clause-are_keys
returns-clause-are_keys c =
    let keys = c.args.keys.now in
    all_pass is_key_text keys (all_measured short_text 65 (λ (key : List ℕ). is_key_text key ≡ true) keys c.loop-key.key-index c.loop-key.total c.loop-key.invariant c.loop-key-test.false).each
