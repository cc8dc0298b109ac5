use Rattle.std.proofs.Common.{◌≡◌, length}
use Rattle.std.specs.Prelude.{fold}
use Rattle.rds_state.specs.Mark.{with_bytes}
use Rattle.rds_state.proofs.mark.Mark.with_keys.Given as goal

-- what is still mixed ends as all would
abbrev pub invariant-mixing : goal.invariant-mixing
invariant-mixing l = fold with_bytes l.mark l.keys ≡ fold with_bytes l.fn.self l.fn.keys

abbrev pub decreases-mixing : goal.decreases-mixing
decreases-mixing l = length l.keys
