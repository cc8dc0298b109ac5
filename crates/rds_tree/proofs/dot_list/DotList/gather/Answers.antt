use Rattle.std.proofs.Common.{rules}
use Rattle.rds_tree.proofs.Gathering.{gathers_list}
use Rattle.rds_tree.proofs.dot_list.DotList.gather.Goals as goal

pub returns-clause-ok : goal.returns-clause-ok
returns-clause-ok c = gathers_list c.args.self.now c.args.dots.now.items c.extend_from_slice.new.self.items (search rules)
