use Rattle.std.proofs.Common.{◌∙◌, ap}
use Rattle.rds_c.proofs.Done.{a_record}
use Rattle.rds_c.proofs.looking.record_of.Goals as goal
use Rattle.rds_state.specs.Fits.{ReplicaValue}

pub returns-in-Some : goal.returns-in-Some
returns-in-Some c =
    a_record c.args.draft.now c.in-Some.noted c.change.result c.own.result c.encode_record.result c.in-Some.ensures c.change.ensures
    (c.own.ensures.own ∙ ap (λ (v : ReplicaValue). v.own) (c.replica.ensures ∙ c.document.ensures)) c.encode_record.ensures.text
