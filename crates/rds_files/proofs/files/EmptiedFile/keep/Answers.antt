use Rattle.rds_files.proofs.Unchanged.{unchanged}
use Rattle.rds_files.proofs.files.EmptiedFile.keep.Goals as goal

pub unchanged-requires : goal.unchanged-requires
unchanged-requires g c =
    let nothing = c.is_nothing.ensures c.if-is_nothing.true in
    record { same = unchanged c.args.self.kept c.args.change c.args.replica c.requires.changed nothing.0 nothing.1 }
