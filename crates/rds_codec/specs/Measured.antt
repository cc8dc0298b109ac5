-- A state that was measured for writing, as a value.
use Rattle.std.specs.Prelude.{◌≡◌, ◌≤◌, ◌^◌, length, map as each}
use Rattle.rds_names.specs.declared.fault.Fault.{Fault}
use Rattle.rds_names.specs.declared.fault.Fault.TheVariants.{Memory}
use Rattle.rds_dots.specs.Runs.{runs_of}
use Rattle.rds_life.specs.Life.{seen_of}
use Rattle.rds_state.specs.Value.{StateValue}
use Rattle.rds_bytes.specs.DotRows.{rows_from}
use Rattle.rds_bytes.specs.Table.{table_number}
use Rattle.rds_codec.specs.StateTexts.{keys_in, state_text_in, table_in}
use Rattle.rds_codec.specs.declared.formats.Format.{Format}
use Rattle.rds_codec.specs.declared.formats.Format.TheVariants.{One, Two}
use Rattle.rds_codec.specs.declared.measured.Keys.{Keys}
use Rattle.rds_codec.specs.declared.measured.Keys.TheVariants.{Spelled, Numbered}
use Rattle.rds_codec.specs.declared.measured.Measured.{Measured}

-- the format that writes keys so
abbrev pub format_with : Keys → Format
format_with Spelled = One
format_with (Numbered n) = Two

-- numbers are those of the state's table
abbrev pub AreKeysOf : StateValue → Keys → Type 0
AreKeysOf v Spelled = Unit {0}
AreKeysOf v (Numbered n) =
    (n.keys.items ≡ table_in v) × (n.numbers.items ≡ each (table_number (table_in v)) (keys_in v))

-- the keys, how many rows the seen dots have, and how long the text is
pub record IsMeasured (v : StateValue) (m : Measured) : Type 0 where
  pub keys : AreKeysOf v m.keys
  pub rows : m.rows ≡ length (rows_from 0 (runs_of (seen_of v.lives)))
  pub exact : m.text_length ≡ length (state_text_in (format_with m.keys) v)

-- to measure takes memory in format 2 alone
abbrev pub IsUnmeasured : Format → Fault → Type 0
IsUnmeasured One fault = ⊥
IsUnmeasured Two fault = fault ≡ Memory
