use Rattle.std.proofs.Common.{◌≡◌, ◌^◌, true, ltb, refl, arith}
use Rattle.std.proofs.lemmas.Bool.{lt-ltb}
use Rattle.rds_packed.proofs.tables.KeysFollowFollowingU64.start.Goals as goal

pub returns-clause-ok : goal.returns-clause-ok
returns-clause-ok c =
    let few : ltb c.args.first (2 ^ 32) ≡ true = lt-ltb c.args.first (2 ^ 32) (omega (arith, c.if-first-from.false, c.from.ensures)) in
    λ more. rw few refl
