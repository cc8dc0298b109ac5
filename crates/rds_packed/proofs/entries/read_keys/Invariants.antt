use Rattle.std.proofs.Common.{◌≡◌, ◌-◌, []}
use Rattle.std.specs.Prelude.{fold}
use Rattle.rds_bytes.specs.Reading.{rows_after}
use Rattle.rds_packed.proofs.entries.read_keys.Given as goal

-- what is still read ends as all would, by a source that reads in one way and has given these keys
abbrev pub invariant-loop : goal.invariant-loop
invariant-loop g l =
    (rows_after (λ _. g.K.KeySource.reader l.fn.keys) l.found.items (l.count - l.counter) l.rest ≡ rows_after (λ _. g.K.KeySource.reader l.fn.keys) [] l.count l.bytes)
    × ((l.keys ≡ fold g.K.KeySource.after l.fn.keys l.found.items) × (g.K.KeySource.reader l.keys ≡ g.K.KeySource.reader l.fn.keys))
