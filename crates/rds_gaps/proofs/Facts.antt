-- Numbers compared by tests, truth values, and runs that touch.
use Rattle.std.proofs.Common.{◌≡◌, ℕ, ◌+◌, ◌≤◌, Bool, true, false, ◌||◌, refl, arith, leb, ltb}
use Rattle.std.proofs.lemmas.Bool.Decides.{nat_tests}
use Rattle.rds_dots.specs.declared.dot.Run.{Run}
use Rattle.rds_dots.specs.Runs.{start, stop}
use Rattle.rds_dots.specs.RunFacts.{Bounds}

pub ge_of : (a b : ℕ) → ltb a b ≡ false → b ≤ a
ge_of a b h = grind (arith, nat_tests)

pub not_lt : (a b : ℕ) → b ≤ a → ltb a b ≡ false
not_lt a b h = grind (arith, nat_tests)

pub le_of : (a b : ℕ) → leb a b ≡ true → a ≤ b
le_of a b h = grind (arith, nat_tests)

pub le_by : (a b : ℕ) → a ≤ b → leb a b ≡ true
le_by a b h = grind (arith, nat_tests)

pub from_true : (b : Bool) → (b ≡ true → ⊥) → b ≡ false
from_true true h = absurd (h refl)
from_true false h = refl

pub or_none : (a : Bool) → (a || false) ≡ a
or_none true = refl
or_none false = refl

pub or_assoc : (a b c : Bool) → ((a || b) || c) ≡ (a || (b || c))
or_assoc true b c = refl
or_assoc false b c = refl

pub or_last : (a b : Bool) → (a || b) ≡ (a || (b || false))
or_last true b = refl
or_last false true = refl
or_last false false = refl

-- runs that meet or touch are of one replica
pub touching : (r z : Run) → Bounds r → Bounds z → start z ≤ stop r + 1 → start r ≤ stop z + 1 → r.replica ≡ z.replica
touching r z b c p q = let r1 = b.one in let r2 = b.most in let r3 = b.rises in let z1 = c.one in let z2 = c.most in let z3 = c.rises in omega arith
