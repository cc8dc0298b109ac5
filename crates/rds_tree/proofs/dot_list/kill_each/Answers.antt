use Rattle.std.proofs.Common.{◌∙◌, ap, drop, sym}
use Rattle.std.proofs.lemmas.List.{drop_all}
use Rattle.std.specs.FinMap as map
use Rattle.rds_tree.specs.Held.{among_dots}
use Rattle.rds_tree.proofs.Killing.{killed_never}
use Rattle.rds_tree.proofs.dot_list.kill_each.Goals as goal

pub returns : goal.returns
returns g c d =
    let left = drop c.loop-dot.dot-index c.args.dots.now in
    sym (killed_never (among_dots left) c.args.but d (map.get c.loop-dot.lives d) (λ e. ap (λ dots. among_dots dots d e) (drop_all c.loop-dot.dot-index c.args.dots.now c.loop-dot-test.false)))
    ∙ c.loop-dot.invariant d
