use Rattle.std.proofs.Common.{◌∙◌, ◌∷◌, [], ap, sym}
use Rattle.std.specs.FinMap as map
use Rattle.rds_tree.specs.Cuts.{among_leaves, covered_leaf}
use Rattle.rds_tree.specs.Forms.{leaves_kept}
use Rattle.rds_tree.proofs.Killing.{killed_step}
use Rattle.rds_tree.proofs.TwoLeaves.{two_among}
use Rattle.rds_tree.proofs.leaves.Leaves.kill_covered.Goals as goal

pub returns-in-Two : goal.returns-in-Two
returns-in-Two g c d =
    let picks = covered_leaf c.args.command.now in
    let first = c.in-Two.first in
    let second = c.in-Two.second in
    c.kill_if_covered-in-Two-2.ensures d
    ∙ killed_step (among_leaves picks (first ∷ [])) (among_leaves picks (second ∷ [])) (among_leaves picks c.args.self.now) c.args.but d (map.get c.args.lives.now d) (map.get c.kill_if_covered-in-Two.new.lives d) (c.kill_if_covered-in-Two.ensures d)
    (λ e. two_among picks c.args.self.now first second (sym (ap leaves_kept c.in-Two.is) ∙ c.self.view_is) d e)
