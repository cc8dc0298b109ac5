use Rattle.std.proofs.Common.{◌++◌}
use Rattle.rds_feeds.proofs.Pieces.{pieces_once, end_alike}
use Rattle.rds_feeds.proofs.laws.pieces_are_read_as_one.Goals as goal

pub returns-clause-once : goal.returns-clause-once
returns-clause-once g c = λ u held pieces p rest h. pieces_once g.U.Unfinished.finish pieces u held p rest h

pub returns-clause-alike : goal.returns-clause-alike
returns-clause-alike g c = λ u bytes p q rest other h k. end_alike g.U.Unfinished.finish (λ more. g.U.Unfinished.finish u (bytes ++ more)) p q rest other h k
