use Rattle.std.proofs.Common.{◌∙◌}
use Rattle.rds_dots.proofs.Search.{searched}
use Rattle.rds_dots.proofs.lists.has.Goals as goal

pub returns : goal.returns
returns c = c.is_ok.ensures.value ∙ searched c.args.dots.now c.requires c.args.dot c.binary_search.result c.binary_search.ensures.bound c.binary_search.ensures.position
