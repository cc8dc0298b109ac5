use Rattle.std.proofs.Common.{[], ◌∷◌, ◌++◌, sym, ap, ◌∙◌}
use Rattle.rds_dots.specs.Ascending.{ascends}
use Rattle.rds_dots.proofs.Draws.{none_after, some_after}
use Rattle.rds_dots.proofs.Parts.{back_rises, upto_rises}
use Rattle.rds_dots.proofs.lists.run_after.Goals as goal

pub returns-in_err-first : goal.returns-in_err-first
returns-in_err-first c =
    let e = c.split_after.ensures in
    c.from_residual.ensures ∙ none_after c.args.after c.split_after.result.0.now c.split_after.result.1.now c.args.dots.now e.whole c.in_err-first.ensures.cases e.upto

pub drawn_on-requires : goal.drawn_on-requires
drawn_on-requires c =
    let e = c.split_after.ensures in
    ap ascends (sym c.in_ok-first.ensures.cases.0) ∙ back_rises c.split_after.result.0.now c.split_after.result.1.now (ap ascends e.whole ∙ c.requires)

pub drawn_back-requires : goal.drawn_back-requires
drawn_back-requires c =
    let before = c.split_after.result.0.now in
    let first = c.in_ok-first.first.now in
    let rest = c.in_ok-first.rest.now in
    let rise = upto_rises before first rest (ap (λ from. ascends (before ++ from)) (sym c.in_ok-first.ensures.cases.0) ∙ ap ascends c.split_after.ensures.whole ∙ c.requires) in
    ap (λ d. ascends (before ++ d ∷ [])) c.drawn_on.ensures.first ∙ rise

pub returns : goal.returns
returns c =
    let e = c.split_after.ensures in
    let on = c.drawn_on.ensures in
    some_after c.args.after c.split_after.result.0.now c.split_after.result.1.now c.args.dots.now c.in_ok-first.first.now c.in_ok-first.rest.now c.drawn_on.result c.drawn_back.result e.whole c.in_ok-first.ensures.cases.0 e.upto e.later (on.first, on.longer, on.whole) (c.drawn_back.ensures c.args.after)
