-- States whose documents are the same.
use Rattle.std.specs.Prelude.{◌≡◌, ◌↔◌, ℕ, List}
use Rattle.rds_names.specs.declared.entry.Entry.{Entry}
use Rattle.rds_state.specs.Document.{IsCounted, IsShown, value_in}
use Rattle.rds_state.specs.Value.{StateValue, coordinates}

-- the same entries are live in both, and the same keys are counted, with the same sums
pub record AreSameDocument (v w : StateValue) : Type 0 where
  pub entries : (e : Entry) → IsShown (coordinates v) e ↔ IsShown (coordinates w) e
  pub counted : (key : List ℕ) → IsCounted (coordinates v) key ↔ IsCounted (coordinates w) key
  pub sums : (key : List ℕ) → value_in (coordinates v) key ≡ value_in (coordinates w) key
