use Rattle.std.proofs.Common.{◌∙◌, sym, inr}
use Rattle.std.proofs.lemmas.Result.{err_from_is_err_and}
use Rattle.rds_offline.proofs.Copied.{inits_from, no_next}
use Rattle.rds_offline.proofs.copies.init_from.Goals as goal

pub returns-in_err-file-clause-fault : goal.returns-in_err-file-clause-fault
returns-in_err-file-clause-fault g c =
    let p = err_from_is_err_and c.from_residual-in_err-file.result c.from_residual-in_err-file.ensures.1 in
    let same = c.view_of.ensures.replica ∙ c.kept.ensures in
    rw (p.1, p.2) (inr (inr (no_next c.args.own.now c.in_ok-name.name c.in_ok-source.source.kept _ c.in_ok-source.ensures.read.value same (sym c.in_ok-name.ensures) c.in_err-file.field-0.0 c.in_err-file.ensures.fault)))

pub returns-clause-made : goal.returns-clause-made
returns-clause-made g c =
    let same = c.view_of.ensures.replica ∙ c.kept.ensures in
    inits_from c.args.path.now c.args.own.now c.in_ok-name.name _ (sym c.in_ok-name.ensures) c.in_ok-file.file c.in_ok-file.ensures.path c.in_ok-file.ensures.place c.in_ok-file.ensures.next c.args.from.now c.in_ok-source.source
    c.in_ok-source.ensures.read same
