-- The order of states, and their join.
use Rattle.std.proofs.Common.{◌≡◌, ℕ, max, ap, arith}
use Rattle.std.specs.FinMap as map
use Rattle.rds_dots.specs.declared.dot.Dot.{Dot}
use Rattle.rds_dots.specs.Order.{dots_total, dots_exact}
use Rattle.rds_counts.specs.Place.{Place}
use Rattle.rds_counts.proofs.SameCounts.{same_counts}
use Rattle.rds_life.proofs.LifeOrder.{life_reflexive, life_transitive, life_antisymmetric, life_left, life_right}
use Rattle.rds_life.proofs.LifeOrder.{life_least, life_commutes, life_associates, life_idempotent, agree_joined}
use Rattle.rds_state.specs.Coordinates.{Coordinates, AtMost, AreCompatible, join}
use Rattle.rds_state.specs.Value.{StateValue, coordinates}

-- states that are alike at each coordinate are equal
pub same_coordinates : (a b : Coordinates) → ((d : Dot) → a.life d ≡ b.life d) → ((q : Place) → a.number q ≡ b.number q) → a ≡ b
same_coordinates a b p q = λ i. record { life = λ d. p d i; number = λ x. q x i }

-- and so are their values
pub same_value : (v w : StateValue) → coordinates v ≡ coordinates w → v ≡ w
same_value v w e =
    let l = map.same_map dots_total dots_exact v.lives w.lives (λ d. ap (λ c. c.life d) e) in
    let n = same_counts v.counts w.counts (λ q. ap (λ c. c.number q) e) in
    λ i. record { lives = l i; counts = n i }

max_associates : (x y z : ℕ) → max (max x y) z ≡ max x (max y z)
max_associates x y z = omega arith

pub reflexive : (a : Coordinates) → AtMost a a
reflexive a = record { lives = λ d. life_reflexive (a.life d); numbers = λ q. omega arith }

pub transitive : (a b c : Coordinates) → AtMost a b → AtMost b c → AtMost a c
transitive a b c p q = record { lives = λ d. life_transitive (a.life d) (b.life d) (c.life d) (p.lives d) (q.lives d); numbers = λ x. omega (arith, p.numbers x, q.numbers x) }

pub antisymmetric : (a b : Coordinates) → AtMost a b → AtMost b a → a ≡ b
antisymmetric a b p q = same_coordinates a b (λ d. life_antisymmetric (a.life d) (b.life d) (p.lives d) (q.lives d)) (λ x. omega (arith, p.numbers x, q.numbers x))

pub above_left : (a b : Coordinates) → AtMost a (join a b)
above_left a b = record { lives = λ d. life_left (a.life d) (b.life d); numbers = λ q. omega arith }

pub above_right : (a b : Coordinates) → AreCompatible a b → AtMost b (join a b)
above_right a b h = record { lives = λ d. life_right (a.life d) (b.life d) (h.each_dot d); numbers = λ q. omega arith }

pub least : (a b c : Coordinates) → AtMost a c → AtMost b c → AtMost (join a b) c
least a b c p q = record { lives = λ d. life_least (a.life d) (b.life d) (c.life d) (p.lives d) (q.lives d); numbers = λ x. omega (arith, p.numbers x, q.numbers x) }

pub commutative : (a b : Coordinates) → AreCompatible a b → join a b ≡ join b a
commutative a b h = same_coordinates (join a b) (join b a) (λ d. life_commutes (a.life d) (b.life d) (h.each_dot d)) (λ q. omega arith)

pub compatible_join : (a b c : Coordinates) → AreCompatible a c → AreCompatible b c → AreCompatible (join a b) c
compatible_join a b c p q = record { each_dot = λ d. agree_joined (a.life d) (b.life d) (c.life d) (p.each_dot d) (q.each_dot d) }

pub associative : (a b c : Coordinates) → join (join a b) c ≡ join a (join b c)
associative a b c = same_coordinates (join (join a b) c) (join a (join b c)) (λ d. life_associates (a.life d) (b.life d) (c.life d)) (λ q. max_associates (a.number q) (b.number q) (c.number q))

pub idempotent : (a : Coordinates) → join a a ≡ a
idempotent a = same_coordinates (join a a) a (λ d. life_idempotent (a.life d)) (λ q. omega arith)
