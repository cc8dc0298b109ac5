use Rattle.std.proofs.Common.{◌≡◌}
use Rattle.rds_files.proofs.Unchanged.{unchanged}
use Rattle.rds_files.proofs.files.EmptiedFile.keep_on.Goals as goal

pub returns-then-is_nothing-clause-kept : goal.returns-then-is_nothing-clause-kept
returns-then-is_nothing-clause-kept g c =
    let nothing = c.is_nothing.ensures c.if-is_nothing.true in
    let same : c.args.replica.now ≡ c.args.self.now.kept = unchanged c.args.self.now.kept c.args.change c.args.replica.now c.requires.changed nothing.0 nothing.1 in
    rw same (c.make_sure.ensures.same)
