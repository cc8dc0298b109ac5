-- What writing in a format answers.
use Rattle.std.specs.Prelude.{◌≡◌, ℕ, ◌<◌, ◌≤◌, ◌⊎◌, List, length, Result, MatchResult}
use Rattle.std.specs.Global.{Vec}
use Rattle.rds_names.specs.declared.fault.Fault.{Fault}
use Rattle.rds_names.specs.declared.fault.Fault.TheVariants.{Memory, TooLong}
use Rattle.rds_codec.specs.Writing.{IsUnwritten}
use Rattle.rds_codec.specs.declared.limits.TheConstants.{LIMIT}
use Rattle.rds_codec.specs.declared.formats.Format.{Format}
use Rattle.rds_codec.specs.declared.formats.Format.TheVariants.{One, Two}

-- why a text whose length is found with memory isn't written: TooLong only above the limit, or memory ran out
abbrev pub IsTabledUnwritten : ℕ → Fault → Type 0
IsTabledUnwritten length e = (e ≡ Memory) ⊎ ((e ≡ TooLong) × (LIMIT < length))

-- in format 1 the length is found without memory, so that TooLong comes exactly above the limit
abbrev pub IsUnwrittenIn : Format → ℕ → Fault → Type 0
IsUnwrittenIn One = IsUnwritten
IsUnwrittenIn Two = IsTabledUnwritten

-- the text, within the limit
abbrev pub EncodesIn : Format → List ℕ → Result (Vec ℕ) Fault → Type 0
EncodesIn format text result =
    MatchResult result (λ v. (v.items ≡ text) × (length text ≤ LIMIT)) (IsUnwrittenIn format (length text))

abbrev pub EncodesTabled : List ℕ → Result (Vec ℕ) Fault → Type 0
EncodesTabled = EncodesIn Two
