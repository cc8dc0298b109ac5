use Rattle.std.proofs.Common.{◌<◌, ◌++◌, length, length-append, arith}
use Rattle.rds_session.proofs.Began.{hash_longer}
use Rattle.rds_session.proofs.message.hashing.Goals as goal

pub returns-then-saturating_sub-run-clause-ok : goal.returns-then-saturating_sub-run-clause-ok
returns-then-saturating_sub-run-clause-ok g c =
    let bytes = c.args.bytes.items ++ c.args.run.now in
    let longer : 32 < length bytes =
    omega (arith, c.if-saturating_sub-run.true, c.saturating_sub.ensures, c.len.ensures, length-append c.args.bytes.items c.args.run.now) in
    λ expected hashed. hash_longer expected bytes hashed longer
