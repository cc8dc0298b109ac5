use Rattle.std.proofs.Common.{◌∙◌, ◌++◌, ap, arith, length, refl}
use Rattle.rds_fields.specs.Tags.{mark_half}
use Rattle.rds_fields.proofs.TagTexts.{halves, length-mark, whole}
use Rattle.rds_fields.proofs.tags.mark_in.Goals as goal

pub returns-in_err-high-clause-none : goal.returns-in_err-high-clause-none
returns-in_err-high-clause-none c none mark high low is =
    absurd (omega (arith, ap length is, length-mark mark.high mark.low, c.in_err-high.ensures.cases))

pub returns-in_err-half_in-clause-none : goal.returns-in_err-half_in-clause-none
returns-in_err-half_in-clause-none c none mark high low is =
    c.in_err-half_in.ensures.none refl mark.high high
    (halves c.args.digits.now c.in_ok-high.high.now c.in_ok-high.low.now mark.high mark.low c.in_ok-high.ensures.cases is).0

pub returns-in_err-half_in-2-clause-none : goal.returns-in_err-half_in-2-clause-none
returns-in_err-half_in-2-clause-none c none mark high low is =
    c.in_err-half_in-2.ensures.none refl mark.low low
    (halves c.args.digits.now c.in_ok-high.high.now c.in_ok-high.low.now mark.high mark.low c.in_ok-high.ensures.cases is).1

pub returns-clause-some : goal.returns-clause-some
returns-clause-some c =
    whole c.args.digits.now 16 c.in_ok-high.high.now c.in_ok-high.low.now c.in_ok-high.ensures.cases
    ∙ ap (λ x. x ++ c.in_ok-high.low.now) c.in_ok-half_in.ensures.some
    ∙ ap (λ x. mark_half c.in_ok-half_in.field-0 ++ x) c.in_ok-half_in-2.ensures.some
