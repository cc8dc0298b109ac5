use Rattle.std.proofs.Common.{arith}
use Rattle.std.proofs.lemmas.Result.{err_from_is_err_and}
use Rattle.rds_briefs.specs.Briefs.{brief_kind}
use Rattle.rds_briefs.proofs.AfterBriefs.{some_left, none_left}
use Rattle.rds_briefs.proofs.AsRead.{brief_as_read}
use Rattle.rds_briefs.proofs.Judged.{decodes_refused, decodes_extra, decodes_whole}
use Rattle.rds_briefs.proofs.briefs.decode_brief.Goals as goal

pub returns-in_err-digest-clause-text : goal.returns-in_err-digest-clause-text
returns-in_err-digest-clause-text g c =
    let p = err_from_is_err_and c.from_residual.result c.from_residual.ensures.1 in
    rw (p.1, p.2) (decodes_refused (brief_kind c.args.replicas) c.args.bytes.now (omega (arith, c.if-bytes-gt-LIMIT.false)) c.in_err-digest.field-0.0 c.in_err-digest.ensures.fault c.in_err-digest.ensures.text)

pub returns-then-not-is_empty-clause-text : goal.returns-then-not-is_empty-clause-text
returns-then-not-is_empty-clause-text g c =
    decodes_extra (brief_kind c.args.replicas) c.args.bytes.now (omega (arith, c.if-bytes-gt-LIMIT.false)) c.in_ok-digest.digest c.in_ok-digest.rest.now c.in_ok-digest.ensures.value.0 c.in_ok-digest.ensures.value.1 c.in_ok-digest.ensures.text
    (some_left c.in_ok-digest.rest.now c.is_empty.result c.is_empty.ensures c.if-not-is_empty.true)

pub returns-clause-text : goal.returns-clause-text
returns-clause-text g c =
    decodes_whole (brief_kind c.args.replicas) c.args.bytes.now (omega (arith, c.if-bytes-gt-LIMIT.false)) c.in_ok-digest.digest c.in_ok-digest.rest.now c.in_ok-digest.ensures.value.0 c.in_ok-digest.ensures.value.1 c.in_ok-digest.ensures.text
    (none_left c.in_ok-digest.rest.now c.is_empty.result c.is_empty.ensures c.if-not-is_empty.false)

pub returns-in_err-digest-clause-reads : goal.returns-in_err-digest-clause-reads
returns-in_err-digest-clause-reads g c = brief_as_read c.args.replicas c.args.bytes.now _ (λ i. omega (arith, c.type_inv.bytes i)) (returns-in_err-digest-clause-text g c)

pub returns-then-not-is_empty-clause-reads : goal.returns-then-not-is_empty-clause-reads
returns-then-not-is_empty-clause-reads g c = brief_as_read c.args.replicas c.args.bytes.now _ (λ i. omega (arith, c.type_inv.bytes i)) (returns-then-not-is_empty-clause-text g c)

pub returns-clause-reads : goal.returns-clause-reads
returns-clause-reads g c = brief_as_read c.args.replicas c.args.bytes.now _ (λ i. omega (arith, c.type_inv.bytes i)) (returns-clause-text g c)
