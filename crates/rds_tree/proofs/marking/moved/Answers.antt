use Rattle.rds_tree.proofs.marking.moved.Goals as goal

pub returns : goal.returns
returns c = record { rest = c.minus.result; was = c.minus.ensures; is = c.plus.ensures }
