-- What is read of two parts, and what is drawn from one.
use Rattle.std.proofs.Common.{◌≡◌, ℕ, List, Some, Option, Ok, refl}
use Rattle.rds_bytes.specs.Reading.{Reader, pair_at, drawn_at}

pub pair_found : {A B : Type 0} (f : Reader A) (g : Reader B) (bytes : List ℕ) (a : A) (middle : List ℕ) (b : B) (rest : List ℕ) → f bytes ≡ Ok (a, middle) → g middle ≡ Ok (b, rest) → pair_at f g bytes ≡ Ok ((a, b), rest)
pair_found f g bytes a middle b rest p q = rw (p, q) refl

pub drawn_found : {A B : Type 0} (make : A → Option B) (f : Reader A) (bytes : List ℕ) (a : A) (rest : List ℕ) (b : B) → f bytes ≡ Ok (a, rest) → make a ≡ Some b → drawn_at make f bytes ≡ Ok (b, rest)
drawn_found make f bytes a rest b p q = rw (p, q) refl
