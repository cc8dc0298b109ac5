use Rattle.std.proofs.Common.{◌∙◌, sym, arith}
use Rattle.std.proofs.lemmas.Grind.{common_steps}
use Rattle.rds_keep.proofs.SumTexts.{cut_few, cut_found, cut_none, slice_end}
use Rattle.rds_keep.proofs.sums.cuts_sum.Goals as goal

pub returns-in-Some-clause-found : goal.returns-in-Some-clause-found
returns-in-Some-clause-found c = λ yes.
    let both = c.deref.ensures.value ∙ c.in_ok-extend_from_slice.ensures.items in
    let found = c.is_sum.ensures.found yes in
    cut_found c.args.bytes.items c.args.behind.now c.deref.result.now c.in-Some.at both (grind (arith, common_steps)) c.requires.some c.requires.few c.requires.none (found.0, found.1, sym (slice_end c.deref.result.now c.in-Some.at) ∙ found.2)

pub returns-in-Some-clause-none : goal.returns-in-Some-clause-none
returns-in-Some-clause-none c = λ no.
    let both = c.deref.ensures.value ∙ c.in_ok-extend_from_slice.ensures.items in
    cut_none c.args.bytes.items c.args.behind.now c.deref.result.now c.in-Some.at both (grind (arith, common_steps)) (λ told size e. c.is_sum.ensures.none no told size (slice_end c.deref.result.now c.in-Some.at ∙ e))

pub returns-clause-none : goal.returns-clause-none
returns-clause-none c = λ no. cut_few c.args.bytes.items c.args.behind.now (grind (arith, common_steps))
