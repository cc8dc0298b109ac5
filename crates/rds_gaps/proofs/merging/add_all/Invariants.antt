use Rattle.std.proofs.Common.{drop, []}
use Rattle.rds_gaps.proofs.Unions.{Merging}
use Rattle.rds_gaps.proofs.merging.add_all.Given as goal

abbrev pub invariant-loop-run : goal.invariant-loop-run
invariant-loop-run l = Merging l.runs.items (drop l.run-index l.rest) [] l.initial.runs.items l.rest
