-- What writing does.
use Rattle.std.specs.Prelude.{◌≡◌, ℕ, List, ◌++◌, Result, OnOk}

-- where it didn't fail, a text was added at the end
abbrev pub Adds : {T E : Type 0} → List ℕ → List ℕ → List ℕ → Result T E → Type 0
Adds old new text result = OnOk result (new ≡ old ++ text)
