use Rattle.std.proofs.Common.{◌∙◌, sym, rules}
use Rattle.std.specs.Ordering.{nat_cmp}
use Rattle.rds_names.proofs.WordOrder.{by_first, by_second, by_third}
use Rattle.rds_names.proofs.key.room_order.Goals as goal

pub returns-in_default : goal.returns-in_default
returns-in_default c =
    by_first c.args.room.now c.args.other.now (search rules) (search rules) (search rules) (search rules) c.cmp.result (c.cmp.ensures ∙ (λ i. nat_cmp (c.ordered_word.ensures i) (c.ordered_word-2.ensures i))) c.in_default.not-Equal

pub returns-in_default-cmp : goal.returns-in_default-cmp
returns-in_default-cmp c =
    by_second c.args.room.now c.args.other.now (search rules) (search rules) (search rules) (search rules) c.cmp-in-Equal.result (sym c.in-Equal.is ∙ c.cmp.ensures ∙ (λ i. nat_cmp (c.ordered_word.ensures i) (c.ordered_word-2.ensures i))) (c.cmp-in-Equal.ensures ∙ (λ i. nat_cmp (c.ordered_word-in-Equal.ensures i) (c.ordered_word-in-Equal-2.ensures i))) c.in_default-cmp.not-Equal

pub returns-in-Equal-cmp : goal.returns-in-Equal-cmp
returns-in-Equal-cmp c =
    by_third c.args.room.now c.args.other.now (search rules) (search rules) (search rules) (search rules) c.cmp-in-Equal-cmp.result (sym c.in-Equal.is ∙ c.cmp.ensures ∙ (λ i. nat_cmp (c.ordered_word.ensures i) (c.ordered_word-2.ensures i))) (sym c.in-Equal-cmp.is ∙ c.cmp-in-Equal.ensures ∙ (λ i. nat_cmp (c.ordered_word-in-Equal.ensures i) (c.ordered_word-in-Equal-2.ensures i))) (c.cmp-in-Equal-cmp.ensures ∙ (λ i. nat_cmp (c.ordered_word-in-Equal-cmp.ensures i) (c.ordered_word-in-Equal-cmp-2.ensures i)))
