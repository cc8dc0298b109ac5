use Rattle.std.proofs.Common.{◌∙◌, true}
use Rattle.std.specs.FinMap as map
use Rattle.rds_tree.specs.Cuts.{among_leaves}
use Rattle.rds_tree.specs.Held.{among_held}
use Rattle.rds_tree.proofs.HeldLeaves.{all_among}
use Rattle.rds_tree.proofs.Killing.{killed_step}
use Rattle.rds_tree.proofs.by_kind.ByKind.kill.Goals as goal

pub returns : goal.returns
returns g c d =
    let parts = c.self.inside in
    c.kill-2.ensures d
    ∙ killed_step (among_held (λ v. true) parts.regs) (among_held (λ v. true) parts.elems) (among_leaves (λ l. true) c.args.self.now) c.args.but d (map.get c.args.lives.now d) (map.get c.kill.new.lives d) (c.kill.ensures d)
    (λ e. all_among c.args.self.now parts.regs parts.elems d e c.self.view_is)
