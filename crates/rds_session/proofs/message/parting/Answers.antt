use Rattle.std.proofs.Common.{◌∙◌, ◌∷◌, ◌++◌, ◌-◌, ℕ, List, Some, get_or, take, drop, length, sym, ap, subst}
use Rattle.rds_session.proofs.Began.{code_and_rest, if_ok_so, no_code_refused}
use Rattle.rds_session.specs.Begun.{HoldsBody}
use Rattle.rds_session.proofs.message.parting.Goals as goal

pub returns-in-None-clause-ok : goal.returns-in-None-clause-ok
returns-in-None-clause-ok g c = λ expected marked. no_code_refused expected c.args.run.now c.in-len1-up.len_at_least (sym c.in-None.ensures)

pub returns-in-Some-Done-clause-ok : goal.returns-in-Some-Done-clause-ok
returns-in-Some-Done-clause-ok g c =
    let run = c.args.run.now in
    let rest = take (length run - 1) (drop 1 run) in
    let whole = code_and_rest run c.in-len1-up.len_at_least ∙ ap (λ (t : List ℕ). get_or run 0 0 ∷ (t ++ rest)) (sym c.new.ensures.items) in
    let done = sym c.in-Some-Done.ensures ∙ ap Some c.in-Some-Done.field-0-is in
    if_ok_so c.marking.result _ _ c.marking.ensures.ok
    (λ new holds. λ expected marked. subst (λ (t : List ℕ). HoldsBody expected new (4 ∷ t)) (sym whole) (holds expected (get_or run 0 0) done (marked ∙ c.if-marked.true)))
