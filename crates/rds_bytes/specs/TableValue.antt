-- A table that is read: its keys, and how many of them have been met in turn.
use Rattle.std.specs.Prelude.{ℕ, List, Option, refl}
use Rattle.std.specs.Coded.{Coded, code_by, coded×, coded_ℕ, coded_list, coded_option}
use Rattle.rds_bytes.specs.Table.{after_key}

pub record TableValue : Type 0 where
  pub keys : List (List ℕ)
  pub met : Option ℕ

abbrev pub coded_table : Coded TableValue
coded_table = code_by (List (List ℕ) × Option ℕ) (coded× (coded_list (coded_list coded_ℕ)) (coded_option coded_ℕ)) (λ t. (t.keys, t.met)) (λ p. record { keys = p.0; met = p.1 }) (λ _. refl)

-- the same keys, after one of them was met
abbrev pub meeting : TableValue → List ℕ → TableValue
meeting t key = record { keys = t.keys; met = after_key t.keys t.met key }
