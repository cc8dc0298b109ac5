use Rattle.std.proofs.Common.{◌∙◌, ◌++◌, ◌∷◌, [], ap, sym}
use Rattle.rds_tree.specs.View.{is_that_kind}
use Rattle.rds_tree.proofs.FewValues.{other_value, picked_value}
use Rattle.rds_tree.proofs.leaves.value_of.Goals.{then-is_kind+in_ok-copy+in_ok-push, else-is_kind}
use Rattle.rds_tree.proofs.leaves.value_of.Goals as goal

pub returns-clause-ok : goal.returns-clause-ok
returns-clause-ok c =
    let is = is_that_kind c.args.kind c.args.leaf.now.kind in
    elim c.if-is_kind.branch [
      | then-is_kind+in_ok-copy+in_ok-push w ↦
          ap (λ v. v.items) w.values-is ∙ w.in_ok-push.ensures.items ∙ ap (λ vs. vs ++ w.in_ok-copy.field-0 ∷ []) c.new-values.ensures.items
          ∙ ap (λ v. v ∷ []) w.in_ok-copy.ensures.ok ∙ picked_value is c.args.leaf.now.value (sym c.is_kind.ensures ∙ w.if-is_kind.true)
      | else-is_kind w ↦ ap (λ v. v.items) w.values-is ∙ c.new-values.ensures.items ∙ other_value is c.args.leaf.now.value (sym c.is_kind.ensures ∙ w.if-is_kind.false)
    ]
