use Rattle.std.proofs.Common.{true}
use Rattle.rds_tree.specs.Cuts.{among_leaves}
use Rattle.rds_tree.specs.Held.{among_held}
use Rattle.rds_tree.proofs.HeldLeaves.{all_among}
use Rattle.rds_tree.proofs.Gathering.{gathers_both_if}
use Rattle.rds_tree.proofs.by_kind.ByKind.gather.Goals as goal

pub returns-clause-ok : goal.returns-clause-ok
returns-clause-ok c =
    let parts = c.self.inside in
    gathers_both_if c.gather-2.result (among_held (λ v. true) parts.regs) (among_held (λ v. true) parts.elems) (among_leaves (λ l. true) c.args.self.now) c.args.dots.now.items c.gather.new.dots.items c.gather-2.new.dots.items c.in_ok-gather.ensures.ok
    (λ d e. all_among c.args.self.now parts.regs parts.elems d e c.self.view_is)
    c.gather-2.ensures.ok
