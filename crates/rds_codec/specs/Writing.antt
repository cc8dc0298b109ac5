-- What writing answers.
use Rattle.std.specs.Prelude.{◌≡◌, ℕ, ◌<◌, ◌≤◌, ◌⊎◌, List, [], length, Result, MatchResult}
use Rattle.std.specs.Global.{Vec}
use Rattle.std.specs.Vec.{vec_capacity}
use Rattle.rds_names.specs.declared.fault.Fault.{Fault}
use Rattle.rds_names.specs.declared.fault.Fault.TheVariants.{Memory, TooLong}
use Rattle.rds_codec.specs.declared.limits.TheConstants.{LIMIT}

-- why a text of a length isn't written: TooLong exactly above the limit, else memory ran out
abbrev pub IsUnwritten : ℕ → Fault → Type 0
IsUnwritten length e = ((e ≡ Memory) × (length ≤ LIMIT)) ⊎ ((e ≡ TooLong) × (LIMIT < length))

-- no bytes as yet, and memory for just so many, where a text of a length is within the limit
abbrev pub HasRoom : ℕ → Result (Vec ℕ) Fault → Type 0
HasRoom length result =
    MatchResult result (λ v. (v.items ≡ []) × ((vec_capacity v ≡ length) × (length ≤ LIMIT))) (IsUnwritten length)

-- TooLong exactly above the limit; within it the text, unless memory ran out
abbrev pub Encodes : List ℕ → Result (Vec ℕ) Fault → Type 0
Encodes text result = MatchResult result (λ v. (v.items ≡ text) × (length text ≤ LIMIT)) (IsUnwritten (length text))
