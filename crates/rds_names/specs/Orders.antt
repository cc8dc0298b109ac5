-- The orders of scalars and of kinds.
use Rattle.std.specs.Prelude.{◌≡◌, ℕ, ℤ, Bool as Flag, true, false, List}
use Rattle.std.specs.declared.cmp.Ordering.{Ordering}
use Rattle.std.specs.declared.cmp.Ordering.TheVariants.{Less}
use Rattle.std.specs.Ordering.{int_cmp, nat_cmp}
use Rattle.std.specs.Cmp.{IsTotalOrder}
use Rattle.std.specs.Cmp.Lexicographic.{slice_cmp}
use Rattle.rds_names.specs.declared.entry.Kind.{Kind}
use Rattle.rds_names.specs.declared.scalar.Scalar.{Scalar}
use Rattle.rds_names.specs.declared.scalar.Scalar.TheVariants.{Null, Bool as Truth, Int, Text}
use Rattle.rds_names.specs.contracts.entry.KindOrd.TheImpl as kinds
use Rattle.rds_names.specs.contracts.scalar.ScalarOrd.TheImpl as scalars

-- what `cmp` answers of two kinds
abbrev pub kind_cmp : Kind → Kind → Ordering
kind_cmp = (kinds.cmp-value).it

-- what `cmp` answers of two scalars
abbrev pub scalar_cmp : Scalar → Scalar → Ordering
scalar_cmp = (scalars.cmp-value).it

-- null, false, true, integers by size, texts by bytes
pub record IsScalarOrder (R : Scalar → Scalar → Ordering) : Type 0 where
  pub null : (b : Flag) → R Null (Truth b) ≡ Less
  pub truth : R (Truth false) (Truth true) ≡ Less
  pub truths : (b : Flag) (n : ℤ) → R (Truth b) (Int n) ≡ Less
  pub sizes : (m n : ℤ) → R (Int m) (Int n) ≡ int_cmp m n
  pub integers : (n : ℤ) (t : List ℕ) → R (Int n) (Text t) ≡ Less
  pub bytes : (s t : List ℕ) → R (Text s) (Text t) ≡ slice_cmp nat_cmp s t
  pub total : IsTotalOrder R
