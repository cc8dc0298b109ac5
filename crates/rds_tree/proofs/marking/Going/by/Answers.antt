use Rattle.std.proofs.Common.{◌∙◌, ap, sym}
use Rattle.std.specs.Prelude.{filter}
use Rattle.rds_life.specs.Life.{live_rows}
use Rattle.rds_state.proofs.EditLemmas.{if_ok}
use Rattle.rds_state.specs.Edit.{covers}
use Rattle.rds_tree.specs.Marks.{going, marks_of}
use Rattle.rds_tree.proofs.marking.Going.by.Goals as goal

pub returns-in-Set-clause-ok : goal.returns-in-Set-clause-ok
returns-in-Set-clause-ok g c =
    let v = c.args.replica.now in
    if_ok c.covered.result (λ gone says many. says many ∙ ap (λ m. marks_of (filter (λ r. covers m r.1) (live_rows v.state.lives))) c.in-Set.is ∙ sym (ap (going v) c.in-Set.is)) c.covered.ensures.ok

pub returns-in-Add-clause-ok : goal.returns-in-Add-clause-ok
returns-in-Add-clause-ok g c =
    let v = c.args.replica.now in
    if_ok c.covered-in-Add.result (λ gone says many. says many ∙ ap (λ m. marks_of (filter (λ r. covers m r.1) (live_rows v.state.lives))) c.in-Add.is ∙ sym (ap (going v) c.in-Add.is)) c.covered-in-Add.ensures.ok

pub returns-in-Del-clause-ok : goal.returns-in-Del-clause-ok
returns-in-Del-clause-ok g c =
    let v = c.args.replica.now in
    if_ok c.covered-in-Del.result (λ gone says many. says many ∙ ap (λ m. marks_of (filter (λ r. covers m r.1) (live_rows v.state.lives))) c.in-Del.is ∙ sym (ap (going v) c.in-Del.is)) c.covered-in-Del.ensures.ok

pub returns-in-Clear-clause-ok : goal.returns-in-Clear-clause-ok
returns-in-Clear-clause-ok g c =
    let v = c.args.replica.now in
    if_ok c.covered-in-Clear.result (λ gone says many. says many ∙ ap (λ m. marks_of (filter (λ r. covers m r.1) (live_rows v.state.lives))) c.in-Clear.is ∙ sym (ap (going v) c.in-Clear.is)) c.covered-in-Clear.ensures.ok
