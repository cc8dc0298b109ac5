use Rattle.std.proofs.Common.{◌∙◌, subst}
use Rattle.rds_tree.specs.Taken.{AreSameBut, IsWithout}
use Rattle.rds_tree.proofs.Deltas.{holds_untaken}
use Rattle.rds_tree.proofs.taking.Change.begin.Goals as goal

pub returns-in-Err-clause-err : goal.returns-in-Err-clause-err
returns-in-Err-clause-err c = λ here there coming holds.
    let old = c.args.tree.now in
    let mid = c.add_leaves.new.tree in
    let new = c.undo.new.tree in
    holds_untaken here there old mid new holds
    (subst (λ xs. AreSameBut xs old mid) (c.deref.ensures.value ∙ coming) c.in-Err.ensures.some)
    (subst (λ xs. IsWithout xs mid new) coming c.undo.ensures)
