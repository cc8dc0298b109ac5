-- A value that is being read in one of the formats.
use Rattle.rds_bytes.specs.Reading.{Reader}
use Rattle.rds_codec.specs.declared.in_format.InFormat.{InFormat}
use Rattle.rds_codec.specs.declared.in_format.InFormat.TheVariants.{One, Two}

abbrev pub finish_in : {A B V : Type 0} → (A → Reader V) → (B → Reader V) → InFormat A B → Reader V
finish_in one two (One a) = one a
finish_in one two (Two b) = two b
