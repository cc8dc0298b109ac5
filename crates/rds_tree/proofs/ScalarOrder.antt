-- The order of scalars is total.
use Rattle.std.specs.Cmp.{IsTotalOrder}
use Rattle.rds_names.specs.Orders.{scalar_cmp}
use Rattle.rds_names.specs.contracts.scalar.ScalarOrd.TheImpl.Laws as laws

pub scalars_total : IsTotalOrder scalar_cmp
scalars_total = laws.total-law
