-- An answer as a value.
use Rattle.std.specs.Prelude.{ℕ, List, refl}
use Rattle.std.specs.Coded.{Coded, code_by, coded×, coded_ℕ, coded_list}
use Rattle.rds_state.specs.Value.{StateValue, coded_state}
use Rattle.rds_delta.specs.contracts.row.Row as row
use Rattle.rds_delta.specs.declared.row.Row.{Row}

-- who asked, the delta, and its certificate
pub record AnswerValue : Type 0 where
  pub asker : ℕ
  pub state : StateValue
  pub certificate : List Row

abbrev pub coded_answer : Coded AnswerValue
coded_answer =
    code_by (ℕ × (StateValue × List Row)) (coded× coded_ℕ (coded× coded_state (coded_list row.the_row.coded)))
    (λ a. (a.asker, (a.state, a.certificate)))
    (λ p. record { asker = p.0; state = p.1.0; certificate = p.1.1 }) (λ _. refl)
