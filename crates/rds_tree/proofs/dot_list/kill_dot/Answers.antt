use Rattle.std.proofs.Common.{◌∙◌, sym}
use Rattle.std.specs.FinMap as map
use Rattle.rds_tree.proofs.Killing.{plain_kill, spared_kill}
use Rattle.rds_tree.proofs.dot_list.kill_dot.Goals as goal

pub returns-then-is_but : goal.returns-then-is_but
returns-then-is_but g c d = spared_kill c.args.but c.args.dot d (map.get c.args.lives.now d) (sym c.is_but.ensures ∙ c.if-is_but.true)

pub returns : goal.returns
returns g c d = c.kill_live.ensures d ∙ plain_kill c.args.but c.args.dot d (map.get c.args.lives.now d) (sym c.is_but.ensures ∙ c.if-is_but.false)
