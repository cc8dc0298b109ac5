use Rattle.rds_recovery.proofs.BrokenOff.{in_order_no_other, none_made_up, torn_no_other}
use Rattle.rds_recovery.proofs.laws.crashes_make_nothing_up.Goals as goal

pub returns-clause-found : goal.returns-clause-found
returns-clause-found c = none_made_up

pub returns-clause-in_order : goal.returns-clause-in_order
returns-clause-in_order c = in_order_no_other

pub returns-clause-torn : goal.returns-clause-torn
returns-clause-torn c = torn_no_other
