-- The orders are total, and only equal values tie.
use Rattle.std.proofs.Common.{◌≡◌, true, false, refl, ap}
use Rattle.std.specs.FinMap.{int_cmp-IsAntisymmetric, nat_cmp-IsAntisymmetric, slice_cmp-IsAntisymmetric}
use Rattle.std.specs.declared.cmp.Ordering.TheVariants.{Equal}
use Rattle.rds_names.specs.declared.entry.Kind.{Kind}
use Rattle.rds_names.specs.declared.entry.Kind.TheVariants.{Reg, Elem}
use Rattle.rds_names.specs.declared.scalar.Scalar.{Scalar}
use Rattle.rds_names.specs.declared.scalar.Scalar.TheVariants.{Null, Bool as Truth, Int, Text}
use Rattle.rds_names.specs.Orders.{kind_cmp, scalar_cmp}

pub kinds_exact : (k l : Kind) → kind_cmp k l ≡ Equal → k ≡ l
kinds_exact Reg Reg h = refl
kinds_exact Elem Elem h = refl
kinds_exact Reg Elem h = absurd (cc)
kinds_exact Elem Reg h = absurd (cc)

pub scalars_exact : (s t : Scalar) → scalar_cmp s t ≡ Equal → s ≡ t
scalars_exact Null Null h = refl
scalars_exact (Truth true) (Truth true) h = refl
scalars_exact (Truth false) (Truth false) h = refl
scalars_exact (Truth true) (Truth false) h = absurd (cc)
scalars_exact (Truth false) (Truth true) h = absurd (cc)
scalars_exact (Int m) (Int n) h = ap Int (int_cmp-IsAntisymmetric m n h)
scalars_exact (Text s) (Text t) h = ap Text (slice_cmp-IsAntisymmetric nat_cmp-IsAntisymmetric s t h)
scalars_exact Null (Truth b) h = absurd (cc)
scalars_exact Null (Int n) h = absurd (cc)
scalars_exact Null (Text t) h = absurd (cc)
scalars_exact (Truth b) Null h = absurd (cc)
scalars_exact (Truth b) (Int n) h = absurd (cc)
scalars_exact (Truth b) (Text t) h = absurd (cc)
scalars_exact (Int m) Null h = absurd (cc)
scalars_exact (Int m) (Truth b) h = absurd (cc)
scalars_exact (Int m) (Text t) h = absurd (cc)
scalars_exact (Text s) Null h = absurd (cc)
scalars_exact (Text s) (Truth b) h = absurd (cc)
scalars_exact (Text s) (Int n) h = absurd (cc)
