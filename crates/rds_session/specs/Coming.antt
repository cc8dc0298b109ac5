-- What has come of a text.
use Rattle.std.specs.Prelude.{ℕ, List, Result, Ok, Err}
use Rattle.rds_names.specs.declared.fault.Fault.{Fault}
use Rattle.rds_bytes.specs.Reading.{Reader}
use Rattle.rds_codec.specs.declared.formats.Format.{Format}
use Rattle.rds_keep.specs.Feeding.{FeedValue, IsRefused, StandsFor}

-- its format, how many replicas its roster has, and its bytes so far
pub record ComingValue : Type 0 where
  pub format : Format
  pub replicas : ℕ
  pub came : List ℕ

-- a feed stands for the bytes; or they are refused, however they go on
abbrev pub HoldsText : {U V : Type 0} → (U → Reader V) → Reader V → Result (FeedValue U V) Fault → List ℕ → Type 0
HoldsText finish reader (Ok feed) came = StandsFor finish reader feed came
HoldsText finish reader (Err e) came = IsRefused reader came e
