-- Values that have one text each: it is read whatever follows, and what is read was spelled so.
use Rattle.std.specs.Prelude.{◌≡◌, ℕ, ◌<◌, List, ◌++◌, Ok}
use Rattle.std.proofs.Common.{get_or}
use Rattle.rds_bytes.specs.Reading.{Reader}

abbrev pub AreBytes : List ℕ → Type 0
AreBytes bytes = (i : ℕ) → get_or bytes i 0 < 256

pub record HasOneText {A : Type 0} (read : Reader A) (text : A → List ℕ) (Is : A → Type 0) : Type 0 where
  pub taken : (a : A) (rest : List ℕ) → Is a → read (text a ++ rest) ≡ Ok (a, rest)
  pub spelled : (bytes : List ℕ) (a : A) (rest : List ℕ) → AreBytes bytes → read bytes ≡ Ok (a, rest) → (bytes ≡ text a ++ rest) × Is a
