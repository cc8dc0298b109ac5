use Rattle.std.proofs.Common.{refl}
use Rattle.rds_names.specs.contracts.entry.KindOrd.TheImpl.Laws as kinds
use Rattle.rds_names.specs.contracts.scalar.ScalarOrd.TheImpl.Laws as scalars
use Rattle.rds_names.proofs.Orders as ties
use Rattle.rds_names.proofs.laws.orders_of_values.Goals as goal

pub returns-clause-scalars : goal.returns-clause-scalars
returns-clause-scalars c = record {
  null = λ b. refl;
  truth = refl;
  truths = λ b n. refl;
  sizes = λ m n. refl;
  integers = λ n t. refl;
  bytes = λ s t. refl;
  total = scalars.total-law;
}

pub returns-clause-exact : goal.returns-clause-exact
returns-clause-exact c = ties.scalars_exact

pub returns-clause-kinds : goal.returns-clause-kinds
returns-clause-kinds c = refl

pub returns-clause-kinds_total : goal.returns-clause-kinds_total
returns-clause-kinds_total c = kinds.total-law

pub returns-clause-kinds_exact : goal.returns-clause-kinds_exact
returns-clause-kinds_exact c = ties.kinds_exact
