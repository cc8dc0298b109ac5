use Rattle.std.proofs.Common.{◌≡◌, ◌∙◌, ◌++◌, ℕ, List, get_or, refl, sym, ap, arith}
use Rattle.std.proofs.lemmas.Grind.{common_steps}
use Rattle.rds_journal.specs.Records.{IsPayload}
use Rattle.rds_keep.specs.Sums.{sum_payload}
use Rattle.rds_keep.proofs.Files.{none_behind}
use Rattle.rds_keep.proofs.SumTexts.{none_begun_sum, other_payload_sum}
use Rattle.rds_keep.proofs.sums.behind_sum.Goals as goal

pub returns-in_default-clause-none : goal.returns-in_default-clause-none
returns-in_default-clause-none c = λ none more end.
    let short : IsPayload (sum_payload c.args.sum.now) = grind (arith, common_steps) in
    none_begun_sum c.args.sum.now (c.args.bytes.now ++ more) short (none_behind c.args.bytes.now more end (c.in_default.ensures.none refl))

pub returns-then-kind-ne-SUM-clause-none : goal.returns-then-kind-ne-SUM-clause-none
returns-then-kind-ne-SUM-clause-none c = λ none more end.
    let short : IsPayload (sum_payload c.args.sum.now) = grind (arith, common_steps) in
    let first = c.in-Some.ensures.first in
    other_payload_sum c.args.sum.now c.args.bytes.now c.in-Some.payload.now c.in-Some.rest.now more short first.short first.parts (λ e. c.if-kind-ne-SUM.true (sym (ap (λ (t : List ℕ). get_or t 0 0) c.in-Some-split_first.ensures.cases.0) ∙ ap (λ (t : List ℕ). get_or t 0 0) e))
