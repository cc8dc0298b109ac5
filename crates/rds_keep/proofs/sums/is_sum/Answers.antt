use Rattle.std.proofs.Common.{rules, ◌≡◌, ◌∙◌, ◌∷◌, List, ℕ, get_or, length, sym, ap}
use Rattle.rds_keep.proofs.SumTexts.{sum_alone}
use Rattle.rds_keep.proofs.sums.is_sum.Goals as goal

pub returns-then-told-eq32-clause-none : goal.returns-then-told-eq32-clause-none
returns-then-told-eq32-clause-none c = λ no told size e.
    let first = c.in-Some.ensures.first in
    let is = sum_alone c.args.bytes.now c.in-Some.payload.now c.in-Some.rest.now told first.short first.parts size e in
    let none = is.1 in
    search rules

pub returns-else-told-eq32-clause-none : goal.returns-else-told-eq32-clause-none
returns-else-told-eq32-clause-none c = λ no told size e.
    let first = c.in-Some.ensures.first in
    let is = sum_alone c.args.bytes.now c.in-Some.payload.now c.in-Some.rest.now told first.short first.parts size e in
    let both = sym c.in-Some-split_first.ensures.cases.0 ∙ is.0 in
    let kind = ap (λ (t : List ℕ). get_or t 0 0) both in
    let many = ap length both in
    search rules
