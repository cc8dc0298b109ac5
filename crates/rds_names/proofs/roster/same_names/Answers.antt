use Rattle.std.proofs.lemmas.Slice.Eq.{slice_eq-Decides, bytes_eq-Decides}
use Rattle.rds_names.proofs.roster.same_names.Goals as goal

-- names that are equal one by one are the same names
pub returns : goal.returns
returns c = slice_eq-Decides bytes_eq-Decides c.args.left.now c.args.right.now c.eq.result c.eq.ensures
