use Rattle.std.proofs.Common.{arith}
use Rattle.rds_keep.specs.Kept.{AreWhole, IsStored, RefusesBytes}
use Rattle.rds_keep.specs.Parts.{ConsumesAtMost}
use Rattle.rds_keep.proofs.BehindParts.{err_then, ok_then, on_on}
use Rattle.rds_keep.proofs.FirstParts.{both_consumed, front_own, lost_front, none_whole}
use Rattle.rds_keep.proofs.stored.read_stored.Goals as goal

pub returns-in-Ok-clause-stored : goal.returns-in-Ok-clause-stored
returns-in-Ok-clause-stored g c =
    ok_then c.read_behind.result c.read_behind.ensures.stored (λ s has. lost_front (λ input. IsStored input s.kept s.layout) (g.R.Read.remaining c.args.reader.now.inner) (g.R.Read.remaining c.read_front.new.reader.inner) c.in-Ok.front.format c.in-Ok.front.is_summed c.in-Ok.front.replica c.in-Ok.behind.items c.in-Ok.ensures.loses has)

pub returns-in-Ok-clause-bound : goal.returns-in-Ok-clause-bound
returns-in-Ok-clause-bound g c =
    let fewer = c.in-Ok.ensures.left in
    let left = c.read_behind.ensures.left in
    on_on c.read_behind.result c.read_behind.ensures.bound (λ q. both_consumed (g.R.Read.remaining c.args.reader.now.inner) (g.R.Read.remaining c.read_front.new.reader.inner) (g.R.Read.remaining c.read_behind.new.reader.inner) _ _ _ c.in-Ok.ensures.bound q (omega (arith, fewer, left)))

pub returns-in-Ok-clause-refused : goal.returns-in-Ok-clause-refused
returns-in-Ok-clause-refused g c =
    err_then c.read_behind.result c.read_behind.ensures.refused (λ r has. lost_front (λ input. RefusesBytes input r.fault) (g.R.Read.remaining c.args.reader.now.inner) (g.R.Read.remaining c.read_front.new.reader.inner) c.in-Ok.front.format c.in-Ok.front.is_summed c.in-Ok.front.replica c.in-Ok.behind.items c.in-Ok.ensures.loses has)

pub returns-in-Ok-clause-at : goal.returns-in-Ok-clause-at
returns-in-Ok-clause-at g c =
    err_then c.read_behind.result c.read_behind.ensures.at (λ r has. lost_front (λ input. AreWhole input r.at) (g.R.Read.remaining c.args.reader.now.inner) (g.R.Read.remaining c.read_front.new.reader.inner) c.in-Ok.front.format c.in-Ok.front.is_summed c.in-Ok.front.replica c.in-Ok.behind.items c.in-Ok.ensures.loses has)

pub returns-in-Ok-clause-foreign : goal.returns-in-Ok-clause-foreign
returns-in-Ok-clause-foreign g c =
    front_own (ConsumesAtMost (g.R.Read.remaining c.args.reader.now.inner) (g.R.Read.remaining c.read_behind.new.reader.inner) 4) (g.R.Read.remaining c.args.reader.now.inner) (g.R.Read.remaining c.read_front.new.reader.inner) c.in-Ok.front.format c.in-Ok.front.is_summed c.in-Ok.front.replica c.in-Ok.behind.items c.in-Ok.ensures.loses

pub returns-in-Err-clause-at : goal.returns-in-Err-clause-at
returns-in-Err-clause-at g c = none_whole (g.R.Read.remaining c.args.reader.now.inner)
