use Rattle.rds_tree.proofs.FoundLives.{first_dot, kills_first, kills_none}
use Rattle.rds_tree.proofs.edit_delta.dead.Goals as goal

pub killing-init : goal.killing-init
killing-init g c = kills_none c.args.dots.now c.empty-lives.result c.requires c.empty-lives.ensures

pub kill-requires : goal.kill-requires
kill-requires g c = first_dot c.args.dots.now c.killing.rest.now c.in-Some.later.now c.in-Some.dot.now c.killing.lives c.in-Some.ensures.cases.0 c.killing.invariant

pub killing-preserved : goal.killing-preserved
killing-preserved g c = kills_first c.args.dots.now c.killing.rest.now c.in-Some.later.now c.in-Some.dot.now c.killing.lives c.kill.new.self c.in-Some.ensures.cases.0 c.in_ok-kill.ensures.ok c.killing.invariant
