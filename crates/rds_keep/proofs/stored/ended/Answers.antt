use Rattle.std.proofs.Common.{◌≡◌, ◌+◌, ◌++◌, ◌∙◌, length, refl, sym, subst, arith}
use Rattle.std.proofs.lemmas.Grind.{common_steps}
use Rattle.rds_state.specs.Fits.{ReplicaValue}
use Rattle.rds_keep.specs.Kept.{IsKept, IsStored}
use Rattle.rds_keep.specs.declared.layout.Layout.{Layout}
use Rattle.rds_keep.proofs.Files.{file_kept, file_stored, is_replica}
use Rattle.rds_keep.proofs.stored.ended.Goals as goal

pub into_replica-requires : goal.into_replica-requires
into_replica-requires g c = is_replica c.args.replay.replica c.requires.value

pub new-requires : goal.new-requires
new-requires g c =
    let same : c.in-Some-into_replica.replica ≡ c.args.replay.replica = (let is = c.in-Some-into_replica.ensures in cc) in
    let file = c.requires.file in
    subst (λ (v : ReplicaValue). IsKept v) (sym same) (file_kept c.args.format c.args.snapshot c.args.replay.replica file.0 file.1)

pub returns-clause-stored : goal.returns-clause-stored
returns-clause-stored g c = λ bytes file size apart.
    let same : c.new.result ≡ c.args.replay.replica = (let made = c.new.ensures in let is = c.in-Some-into_replica.ensures in cc) in
    let torn = c.is_torn.ensures.0 c.if-not-is_torn.false in
    let sum : c.in-Some.length ≡ c.whole-whole.result + length c.args.rest.now = grind (arith, common_steps) in
    let layout : Layout = record { format = c.args.format; snapshot = c.args.snapshot; whole = c.whole-whole.result; length = c.in-Some.length } in
    subst (λ (v : ReplicaValue). IsStored (bytes ++ c.args.rest.now) v layout) (sym same)
    (file_stored c.args.replay.replica bytes c.args.rest.now layout file (c.whole-whole.ensures ∙ size) sum torn apart)
