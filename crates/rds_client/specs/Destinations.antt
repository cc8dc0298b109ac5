-- Where a node is, and what it is shown.
use Rattle.std.specs.Prelude.{ℕ, List, Option, refl}
use Rattle.std.specs.Coded.{Coded, code_by, coded×, coded_list, coded_option, coded_ℕ}

-- the host and port, as it was named, and the value of `Authorization`, where requests have that
pub record DestinationValue : Type 0 where
  pub name : List ℕ
  pub authorization : Option (List ℕ)

abbrev pub coded_destination : Coded DestinationValue
coded_destination =
    code_by (List ℕ × Option (List ℕ)) (coded× (coded_list coded_ℕ) (coded_option (coded_list coded_ℕ)))
    (λ d. (d.name, d.authorization)) (λ p. record { name = p.0; authorization = p.1 }) (λ _. refl)
