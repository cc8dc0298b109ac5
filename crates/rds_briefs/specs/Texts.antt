-- What is kept of a text that is written.
use Rattle.std.specs.Prelude.{◌≡◌, ℕ, true, nat_lt, if◌then◌else◌, List, ◌++◌, length}
use Rattle.rds_briefs.specs.declared.text.Text.{Text}

-- a number as far as eight bytes hold it
abbrev pub capped : ℕ → ℕ
capped n = if nat_lt n 18446744073709551615 then n else 18446744073709551615

-- its bytes while they are kept, and how many they are
pub record HoldsBriefText (x : Text) (t : List ℕ) : Type 0 where
  pub bytes : x.is_kept ≡ true → x.bytes.items ≡ t
  pub length : x.length ≡ capped (length t)

-- whatever text was held, these bytes were put behind it
abbrev pub Extends : Text → Text → List ℕ → Type 0
Extends old new more = (t : List ℕ) → HoldsBriefText old t → HoldsBriefText new (t ++ more)
