use Rattle.std.proofs.Common.{arith}
use Rattle.rds_delta.proofs.LifelessLemmas.{found_lives, follows, none_later, until_next, until_last}
use Rattle.rds_delta.proofs.step.lifeless_until.Goals as goal

pub returns-in-None : goal.returns-in-None
returns-in-None g c = none_later c.args.lives.now c.args.dot c.requires c.in-None.ensures

pub returns-then-next-dot : goal.returns-then-next-dot
returns-then-next-dot g c = until_last c.args.lives.now c.args.dot c.in-Some.row.0 c.in-Some.row.1.now c.in-Some.ensures c.requires c.if-next-dot.true

pub returns-then-next-dot-2 : goal.returns-then-next-dot-2
returns-then-next-dot-2 g c = found_lives c.args.lives.now c.args.dot c.in-Some.row.0 c.in-Some.row.1.now c.in-Some.ensures c.if-next-dot.false c.if-next-dot-2.true

pub overflow_sub-result : goal.overflow_sub-result
overflow_sub-result g c = let lt = follows c.args.lives.now c.args.dot c.in-Some.row.0 c.in-Some.row.1.now c.in-Some.ensures c.if-next-dot.false c.if-next-dot-2.false in omega (arith, lt)

pub returns : goal.returns
returns g c = until_next c.args.lives.now c.args.dot c.in-Some.row.0 c.in-Some.row.1.now c.in-Some.ensures c.if-next-dot.false c.if-next-dot-2.false
