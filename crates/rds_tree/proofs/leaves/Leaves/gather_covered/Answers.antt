use Rattle.std.proofs.Common.{◌∙◌, ◌∷◌, [], ap, sym}
use Rattle.rds_tree.specs.Cuts.{among_leaves, covered_leaf}
use Rattle.rds_tree.specs.Forms.{leaves_kept}
use Rattle.rds_tree.proofs.Gathering.{gathers_both_if}
use Rattle.rds_tree.proofs.TwoLeaves.{two_among}
use Rattle.rds_tree.proofs.leaves.Leaves.gather_covered.Goals as goal

pub returns-in_ok-gather_if_covered-in-Two-clause-ok : goal.returns-in_ok-gather_if_covered-in-Two-clause-ok
returns-in_ok-gather_if_covered-in-Two-clause-ok c =
    let picks = covered_leaf c.args.command.now in
    let first = c.in-Two.first in
    let second = c.in-Two.second in
    gathers_both_if c.gather_if_covered-in-Two-2.result (among_leaves picks (first ∷ [])) (among_leaves picks (second ∷ [])) (among_leaves picks c.args.self.now) c.args.dots.now.items c.gather_if_covered-in-Two.new.dots.items c.gather_if_covered-in-Two-2.new.dots.items c.in_ok-gather_if_covered-in-Two.ensures.ok
    (two_among picks c.args.self.now first second (sym (ap leaves_kept c.in-Two.is) ∙ c.self.view_is))
    c.gather_if_covered-in-Two-2.ensures.ok
