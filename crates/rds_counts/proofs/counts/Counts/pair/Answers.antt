use Rattle.rds_counts.specs.declared.row.Which.TheVariants.{P, N}
use Rattle.rds_counts.proofs.Found.{pair_read}
use Rattle.rds_counts.proofs.Raises.{number_found}
use Rattle.rds_counts.proofs.counts.Counts.pair.Goals as goal

pub returns-clause-p : goal.returns-clause-p
returns-clause-p c = number_found c.self.invariant c.self.view_is _ _ (pair_read c.deref-2.ensures.value c.deref.ensures.value c.find_row.ensures c.pair_at.ensures.found) P

pub returns-clause-n : goal.returns-clause-n
returns-clause-n c = number_found c.self.invariant c.self.view_is _ _ (pair_read c.deref-2.ensures.value c.deref.ensures.value c.find_row.ensures c.pair_at.ensures.found) N
