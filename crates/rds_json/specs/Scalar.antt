-- The scalar that a value of JSON is.
use Rattle.std.specs.Prelude.{ℤ, Option, Some, None, Result, Ok, Err}
use Rattle.serde_json.specs.Data.{Data, null, boolean, number, string, array, object}
use Rattle.serde_json.specs.Find.{as_i64}
use Rattle.rds_names.specs.declared.fault.Fault.{Fault}
use Rattle.rds_names.specs.declared.fault.Fault.TheVariants.{BadScalar}
use Rattle.rds_names.specs.declared.scalar.Scalar.{Scalar}
use Rattle.rds_names.specs.declared.scalar.Scalar.TheVariants.{Null, Bool as Truth, Int}
use Rattle.rds_names.specs.Scalar.{scalar_of_text}

-- a whole number that fits 64 bits with its sign
abbrev pub scalar_of_integer : Option ℤ → Result Scalar Fault
scalar_of_integer None = Err BadScalar
scalar_of_integer (Some z) = Ok (Int z)

abbrev pub scalar_of : Data → Result Scalar Fault
scalar_of null = Ok Null
scalar_of (boolean b) = Ok (Truth b)
scalar_of (number n) = scalar_of_integer (as_i64 n)
scalar_of (string s) = scalar_of_text s
scalar_of (array ds) = Err BadScalar
scalar_of (object ms) = Err BadScalar
