use Rattle.std.proofs.Common.{◌∙◌, ◌++◌, ◌∷◌, [], ap, of_z, rules, to_z, w64}
use Rattle.std.proofs.lemmas.Int.{to_z-of_z}
use Rattle.rds_tree.proofs.OneKey.{no_sum, one_sum}
use Rattle.rds_tree.proofs.one_key.sum_of.Goals as goal

pub returns-then-not-is_counted-clause-ok : goal.returns-then-not-is_counted-clause-ok
returns-then-not-is_counted-clause-ok c =
    c.from_rows.ensures ∙ c.new.ensures.items ∙ no_sum c.args.key.now c.args.counts.now c.is_counted.result c.is_counted.ensures c.if-not-is_counted.true

pub returns-clause-ok : goal.returns-clause-ok
returns-clause-ok c =
    c.from_rows-2.ensures ∙ c.in_ok-push.ensures.items ∙ ap (λ rows. rows ++ (c.in_ok-copy.field-0, to_z w64 (of_z w64 c.value.result)) ∷ []) c.new-sums.ensures.items
    ∙ one_sum c.args.key.now c.in_ok-copy.field-0 c.args.counts.now (to_z w64 (of_z w64 c.value.result)) c.is_counted.result c.is_counted.ensures c.if-not-is_counted.false c.in_ok-copy.ensures.ok
    (to_z-of_z w64 c.value.result (search rules) ∙ c.value.ensures)
