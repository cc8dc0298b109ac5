use Rattle.std.proofs.Common.{◌≡◌, ◌-◌, []}
use Rattle.rds_bytes.specs.Reading.{rows_after}
use Rattle.rds_bytes.proofs.list.read_parts.Given as goal

-- what is still read ends as all would
abbrev pub invariant-loop : goal.invariant-loop
invariant-loop g l = rows_after (g.R.PartReader.reader l.reader) l.parts.items (l.count - l.counter) l.rest ≡ rows_after (g.R.PartReader.reader l.reader) [] l.count l.bytes
