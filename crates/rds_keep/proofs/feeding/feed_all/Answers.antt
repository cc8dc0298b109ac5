use Rattle.std.proofs.Common.{Err, arith, refl}
use Rattle.rds_keep.proofs.FedSoFar.{all_taken, all_refused}
use Rattle.rds_keep.proofs.feeding.feed_all.Goals as goal

pub returns-in-Ok-clause-takes : goal.returns-in-Ok-clause-takes
returns-in-Ok-clause-takes g c =
    all_taken g.U.Unfinished.finish c.args.feed.now c.feed.new.self c.args.piece.now c.in-Ok.field-0 c.in-Ok.ensures.adds c.in-Ok.ensures.again

pub returns-in_default : goal.returns-in_default
returns-in_default g c = record {
  takes = all_refused g.U.Unfinished.finish c.args.feed.now c.feed.new.self c.args.piece.now c.in-Err.fault (Err c.in-Err.fault) refl c.in-Err.ensures.kept c.in-Err.ensures.refuses c.in-Err.ensures.again
      c.in_default.not-Memory (λ i. omega (arith, c.type_inv.piece i));
  memory = tt;
}
