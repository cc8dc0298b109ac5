use Rattle.std.proofs.Common.{sym, ◌∙◌, arith, subst}
use Rattle.std.proofs.lemmas.Result.{err_from_is_err_and}
use Rattle.rds_bytes.specs.Reading.{Fails}
use Rattle.rds_briefs.proofs.DigestsRead.{counters_are, counters_found, counters_kept}
use Rattle.rds_briefs.proofs.briefs.read_counters.Goals as goal

pub returns-in_err-counts-clause-text : goal.returns-in_err-counts-clause-text
returns-in_err-counts-clause-text c =
    let p = err_from_is_err_and c.from_residual.result c.from_residual.ensures.1 in
    rw (p.1, p.2) (λ m rest are few is. counters_kept c.args.replicas c.args.bytes.now m rest are few is c.in_err-counts.field-0.0 (subst (Fails c.in_err-counts.field-0.0) (c.unfinished_counters.ensures c.args.bytes.now) c.in_err-counts.ensures))

pub returns-clause-are : goal.returns-clause-are
returns-clause-are c = counters_are c.args.replicas c.args.bytes.now c.in_ok-counts.counts c.in_ok-counts.rest.now (λ i. omega (arith, c.type_inv.bytes i)) (sym (c.unfinished_counters.ensures c.args.bytes.now) ∙ c.in_ok-counts.ensures)

pub returns-clause-text : goal.returns-clause-text
returns-clause-text c = λ m rest are few is. counters_found c.args.replicas c.args.bytes.now m rest are few is c.in_ok-counts.counts c.in_ok-counts.rest.now (sym (c.unfinished_counters.ensures c.args.bytes.now) ∙ c.in_ok-counts.ensures)
