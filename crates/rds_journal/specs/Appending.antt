-- What an append does to a file.
use Rattle.std.specs.Prelude.{◌≡◌, ◌⊎◌, ◌<◌, ◌≤◌, ◌+◌, ℕ, max, List, ◌++◌, length, take, Bool, false, Option, Some}

-- the whole records of the file end there, and other bytes stand behind them only where it is torn
pub record IsEnd (end : ℕ) (is_torn : Bool) (file : List ℕ) : Type 0 where
  pub within : end ≤ length file
  pub whole : is_torn ≡ false → end ≡ length file

-- the file up to its end, and these bytes
abbrev pub appended : List ℕ → ℕ → List ℕ → List ℕ
appended file end bytes = take end file ++ bytes

-- all that stands there is a prefix of the file, which reaches to the end at least
abbrev pub IsCutBack : List ℕ → ℕ → Option (List ℕ) → Type 0
IsCutBack file end seen = (m : ℕ) × (end ≤ m) × (seen ≡ Some (take m file))

-- The bytes aren't there: behind the end stands a prefix of what stood there, or of them.
abbrev pub IsUnappended : List ℕ → ℕ → List ℕ → Option (List ℕ) → Type 0
IsUnappended file end bytes seen =
    IsCutBack file end seen ⊎ ((k : ℕ) × (k < length bytes) × (seen ≡ Some (appended file end (take k bytes))))

-- what a crash leaves is up to the end what it might have left before, and behind it has no more bytes than that one or
-- than were to be written
pub record KeepsFront (end most : ℕ) (old new : List ℕ) : Type 0 where
  pub front : take end new ≡ take end old
  pub bound : length new ≤ max (length old) (end + most)

-- it is up to the end what the file was, and behind it stands a prefix of what stood there, or no more bytes than were
-- to be written
pub record LeavesEnd (file : List ℕ) (end most : ℕ) (new : List ℕ) : Type 0 where
  pub front : take end new ≡ take end file
  pub behind : (take (length new) file ≡ new) ⊎ (length new ≤ end + most)
