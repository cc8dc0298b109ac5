use Rattle.std.proofs.Common.{◌∙◌, List, [], ap, length, subst, sym}
use Rattle.rds_dots.specs.declared.dot.Dot.{Dot}
use Rattle.rds_tree.specs.Cuts.{covered_leaf, found_at, is_deep}
use Rattle.rds_tree.specs.Held.{IsGathered}
use Rattle.rds_tree.specs.Marks.{marks_at}
use Rattle.rds_tree.proofs.MarkEdits.{covered_marks}
use Rattle.rds_tree.proofs.marking.Going.covered.Goals as goal

pub returns-clause-ok : goal.returns-clause-ok
returns-clause-ok g c = λ many.
    let command = c.args.command.now in
    let v = c.args.replica.now.state.lives in
    let dots = c.gather.new.dots.items in
    let found = found_at (covered_leaf command) (is_deep command) c.keys.result.now c.args.tree.now in
    let gathered : IsGathered found [] dots = subst (λ (ds : List Dot). IsGathered found ds dots) c.new-dots.ensures.items c.in_ok-gather.ensures.ok in
    c.of.ensures.mark ∙ ap (marks_at v) c.deref.ensures.value
    ∙ covered_marks command c.keys.result.now v c.args.tree.now dots (c.keys.ensures.keys ∙ c.requires.path) c.requires.holds gathered
    (sym (ap length c.deref.ensures.value) ∙ sym c.of.ensures.dots ∙ many)
