use Rattle.std.proofs.Common.{◌∙◌}
use Rattle.std.proofs.lemmas.Result.{err_from_is_err_and}
use Rattle.rds_offline.proofs.Copied.{merges_file, no_merge}
use Rattle.rds_offline.proofs.copies.merge_file.Goals as goal

pub returns-in_err-done-clause-fault : goal.returns-in_err-done-clause-fault
returns-in_err-done-clause-fault g c =
    let p = err_from_is_err_and c.from_residual-in_err-done.result c.from_residual-in_err-done.ensures.1 in
    let same = c.view_of.ensures.replica ∙ c.kept.ensures in
    rw (p.1, p.2) (no_merge c.args.path.now c.args.from.now c.in_ok-source.source c.in_ok-opened.opened _ c.in_ok-source.ensures.read c.in_ok-opened.ensures.held same c.in_err-done.field-0.0 c.in_err-done.ensures.fault)

pub returns-clause-merged : goal.returns-clause-merged
returns-clause-merged g c =
    let same = c.view_of.ensures.replica ∙ c.kept.ensures in
    merges_file c.args.path.now c.args.from.now c.in_ok-source.source c.in_ok-opened.opened _ c.in_ok-source.ensures.read c.in_ok-opened.ensures.held same c.in_ok-done.done.file c.in_ok-done.done.components
    c.in_ok-done.ensures.path c.in_ok-done.ensures.before c.in_ok-done.ensures.merged c.in_ok-done.ensures.counted
