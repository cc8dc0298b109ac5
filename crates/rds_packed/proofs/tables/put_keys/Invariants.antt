use Rattle.std.proofs.Common.{◌≡◌, ◌++◌, length, []}
use Rattle.rds_packed.specs.FrontTexts.{fronts_text}
use Rattle.rds_packed.proofs.tables.put_keys.Given as goal

abbrev pub invariant-writing : goal.invariant-writing
invariant-writing l = l.out.items ++ fronts_text l.before l.keys ≡ l.fn.out.items ++ fronts_text [] l.fn.keys

abbrev pub decreases-writing : goal.decreases-writing
decreases-writing l = length l.keys
