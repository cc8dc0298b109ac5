use Rattle.std.proofs.Common.{true, false, refl, arith}
use Rattle.rds_keep.proofs.FirstParts.{is_front}
use Rattle.rds_keep.proofs.stored.First.into_front.Goals as goal

pub returns-then-is_summed-clause-front : goal.returns-then-is_summed-clause-front
returns-then-is_summed-clause-front g c =
    rw (c.if-is_summed.true) (is_front c.args.self.format true c.args.self.replica c.args.self.length c.args.self.sum _ c.requires.first refl)

pub returns-else-is_summed-clause-front : goal.returns-else-is_summed-clause-front
returns-else-is_summed-clause-front g c =
    rw (c.if-is_summed.false) (is_front c.args.self.format false c.args.self.replica c.args.self.length c.args.self.sum _ c.requires.first (omega arith))
