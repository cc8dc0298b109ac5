-- The kinds of texts.
use Rattle.std.specs.Prelude.{ℕ, List}
use Rattle.rds_state.specs.Value.{StateValue}
use Rattle.rds_codec.specs.StateTexts.{state_text, IsStateOf}

-- which values have a text, and what it is
pub record Kind (V : Type 0) : Type 1 where
  pub is_value : V → Type 0
  pub text : V → List ℕ

-- a state of so many replicas
abbrev pub state_kind : ℕ → Kind StateValue
state_kind replicas = record { is_value = IsStateOf replicas; text = state_text }
