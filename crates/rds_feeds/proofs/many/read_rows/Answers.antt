use Rattle.std.proofs.Common.{◌≡◌, ◌∙◌, ◌++◌, List, ℕ, Result, refl, ap}
use Rattle.std.proofs.lemmas.Result.{err_from_is_err_and}
use Rattle.rds_names.specs.declared.fault.Fault.{Fault}
use Rattle.rds_feeds.specs.Rows.{times}
use Rattle.rds_feeds.proofs.Times.{none_left, row_waits, row_whole, row_refused}
use Rattle.rds_feeds.proofs.many.read_rows.Goals as goal

pub rows-preserved-in-Some : goal.rows-preserved-in-Some
rows-preserved-in-Some g c =
    let next = g.U.Repeating.next in
    let ok = c.in_ok-next.ensures.ok in
    row_whole next next (λ more. times next c.args.count c.args.rows (c.args.bytes.now ++ more)) c.rows.left c.rows.rows c.rows.rest.now c.rows.rows c.rows.invariant c.rows-test.true (λ more. refl)
    c.read_next.new.rows c.in-Some.after.now (rw c.in-Some.is at ok)

pub returns-in_err-next-clause-err : goal.returns-in_err-next-clause-err
returns-in_err-next-clause-err g c =
    let next = g.U.Repeating.next in
    let p = err_from_is_err_and c.from_residual.result c.from_residual.ensures.1 in
    rw (p.1, p.2)
    (row_refused next next (λ more. times next c.args.count c.args.rows (c.args.bytes.now ++ more)) c.rows.left c.rows.rows c.rows.rest.now c.rows.rows c.rows.invariant c.rows-test.true (λ more. refl)
    c.in_err-next.field-0.0 c.in_err-next.ensures.err)

pub returns-in_err-progress-clause-err : goal.returns-in_err-progress-clause-err
returns-in_err-progress-clause-err g c =
    let next = g.U.Repeating.next in
    let ok = c.in_ok-next.ensures.ok in
    let same : c.read_next.new.rows ≡ c.rows.rows = rw c.in_default.is at ok in
    let p = err_from_is_err_and c.from_residual-in_err-progress.result c.from_residual-in_err-progress.ensures.1 in
    rw (p.1, p.2)
    (row_refused next g.U.Unfinished.finish (λ more. times next c.args.count c.args.rows (c.args.bytes.now ++ more)) c.rows.left c.rows.rows c.rows.rest.now c.again-row.result c.rows.invariant c.rows-test.true
    (λ more. c.again-row.ensures more ∙ (λ i. next (same i) more)) c.in_err-progress.field-0.0 c.in_err-progress.ensures.err)

pub returns-in-More-clause-ok : goal.returns-in-More-clause-ok
returns-in-More-clause-ok g c =
    let next = g.U.Repeating.next in
    let ok = c.in_ok-next.ensures.ok in
    let same : c.read_next.new.rows ≡ c.rows.rows = rw c.in_default.is at ok in
    let on = c.in_ok-progress.ensures.ok in
    row_waits next g.U.Unfinished.finish (λ more. times next c.args.count c.args.rows (c.args.bytes.now ++ more)) c.rows.left c.rows.rows c.rows.rest.now c.again-row.result c.rows.invariant c.rows-test.true
    (λ more. c.again-row.ensures more ∙ (λ i. next (same i) more)) c.in-More.row c.in_ok-progress.after.now (rw c.in-More.is at on)

pub rows-preserved : goal.rows-preserved
rows-preserved g c =
    let next = g.U.Repeating.next in
    let ok = c.in_ok-next.ensures.ok in
    let same : c.read_next.new.rows ≡ c.rows.rows = rw c.in_default.is at ok in
    let on = c.in_ok-progress.ensures.ok in
    row_whole next g.U.Unfinished.finish (λ more. times next c.args.count c.args.rows (c.args.bytes.now ++ more)) c.rows.left c.rows.rows c.rows.rest.now c.again-row.result c.rows.invariant c.rows-test.true
    (λ more. c.again-row.ensures more ∙ (λ i. next (same i) more)) c.in-Whole.next c.in_ok-progress.after.now (rw c.in-Whole.is at on)

pub returns-clause-ok : goal.returns-clause-ok
returns-clause-ok g c = λ more. c.rows.invariant more ∙ none_left g.U.Repeating.next c.rows.left c.rows.rows (c.rows.rest.now ++ more) c.rows-test.false
