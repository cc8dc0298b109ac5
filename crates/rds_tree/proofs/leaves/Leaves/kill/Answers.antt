use Rattle.std.proofs.Common.{◌∙◌, ap, sym, true}
use Rattle.std.specs.FinMap as map
use Rattle.rds_life.specs.Killed.{is_the}
use Rattle.rds_tree.specs.Cuts.{among_leaves}
use Rattle.rds_tree.specs.Forms.{leaves_kept}
use Rattle.rds_tree.proofs.Killing.{killed_step}
use Rattle.rds_tree.proofs.TwoLeaves.{two_dots}
use Rattle.rds_tree.proofs.leaves.Leaves.kill.Goals as goal

pub returns-in-Two : goal.returns-in-Two
returns-in-Two g c d =
    let first = c.in-Two.first in
    let second = c.in-Two.second in
    c.kill_dot-in-Two-2.ensures d
    ∙ killed_step (is_the first.dot) (is_the second.dot) (among_leaves (λ l. true) c.args.self.now) c.args.but d (map.get c.args.lives.now d) (map.get c.kill_dot-in-Two.new.lives d) (c.kill_dot-in-Two.ensures d)
    (λ e. two_dots c.args.self.now first second (sym (ap leaves_kept c.in-Two.is) ∙ c.self.view_is) d e)
