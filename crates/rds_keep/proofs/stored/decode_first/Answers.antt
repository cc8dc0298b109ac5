use Rattle.std.proofs.Common.{◌≡◌, ap, ◌∙◌, take, arith}
use Rattle.std.proofs.lemmas.List.{take_at}
use Rattle.rds_codec.specs.FormatTexts.{snapshot_text_in}
use Rattle.std.proofs.lemmas.Grind.{common_steps}
use Rattle.std.proofs.lemmas.Result.{err_from_is_err_and}
use Rattle.rds_keep.proofs.FirstParts.{bytes_refused, step_is, step_long, step_size}
use Rattle.rds_keep.proofs.stored.decode_first.Goals as goal

pub returns-in_err-value-clause-refused : goal.returns-in_err-value-clause-refused
returns-in_err-value-clause-refused g c =
    let p = err_from_is_err_and c.from_residual.result c.from_residual.ensures.1 in
    rw (p.1, p.2) (bytes_refused _ c.args.bytes.now _ c.unfinished_snapshot.ensures c.in_err-value.ensures.fault c.in_err-value.ensures.refused)

pub first_of-requires-clause-size : goal.first_of-requires-clause-size
first_of-requires-clause-size g c =
    let size = step_size _ c.unfinished_snapshot.ensures c.args.bytes.now c.in_ok-value.rest.now c.in_ok-value.value c.hold_bytes.ensures c.in_ok-value.ensures.whole in
    grind (arith, common_steps)

pub first_of-requires-clause-value : goal.first_of-requires-clause-value
first_of-requires-clause-value g c = (step_is _ c.unfinished_snapshot.ensures c.args.bytes.now c.in_ok-value.rest.now c.in_ok-value.value c.hold_bytes.ensures c.in_ok-value.ensures.whole).1

pub returns-in_err-first-clause-refused : goal.returns-in_err-first-clause-refused
returns-in_err-first-clause-refused g c =
    let p = err_from_is_err_and c.from_residual-in_err-first.result c.from_residual-in_err-first.ensures.1 in
    let size = step_size _ c.unfinished_snapshot.ensures c.args.bytes.now c.in_ok-value.rest.now c.in_ok-value.value c.hold_bytes.ensures c.in_ok-value.ensures.whole in
    rw (p.1, p.2) (step_long _ c.unfinished_snapshot.ensures c.args.bytes.now c.in_ok-value.rest.now c.in_ok-value.value c.hold_bytes.ensures c.in_ok-value.ensures.whole c.saturating_sub-size.result _ (grind (arith, common_steps)) c.in_err-first.ensures.fault)

pub returns-clause-parts : goal.returns-clause-parts
returns-clause-parts g c =
    let is = c.in_ok-first.ensures.same in
    rw (is.0, is.1) ((step_is _ c.unfinished_snapshot.ensures c.args.bytes.now c.in_ok-value.rest.now c.in_ok-value.value c.hold_bytes.ensures c.in_ok-value.ensures.whole).0)

pub first_of-requires-clause-sum : goal.first_of-requires-clause-sum
first_of-requires-clause-sum g c within =
    let parts = (step_is _ c.unfinished_snapshot.ensures c.args.bytes.now c.in_ok-value.rest.now c.in_ok-value.value c.hold_bytes.ensures c.in_ok-value.ensures.whole).0 in
    let size = step_size _ c.unfinished_snapshot.ensures c.args.bytes.now c.in_ok-value.rest.now c.in_ok-value.value c.hold_bytes.ensures c.in_ok-value.ensures.whole in
    let text = snapshot_text_in c.in_ok-value.value.0 c.in_ok-value.value.1 in
    let front : take c.saturating_sub-size.result c.args.bytes.now ≡ text = ap (take c.saturating_sub-size.result) parts ∙ take_at text c.in_ok-value.rest.now c.saturating_sub-size.result (grind (arith, common_steps)) in
    grind (arith, common_steps)
