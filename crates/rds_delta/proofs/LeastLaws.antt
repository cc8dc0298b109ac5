-- The least delta has the whole effect, and nothing that isn't needed.
use Rattle.std.proofs.Common.{◌≡◌, ℕ, ◌≤◌, ◌<◌, Bool, true, false, cond, max, refl, sym, ap, subst, arith, nat_lt}
use Rattle.std.proofs.Common.{Option, Some, None}
use Rattle.std.specs.Prelude.{is_some}
use Rattle.std.proofs.lemmas.Bool.Decides.{nat_tests}
use Rattle.rds_life.specs.Life.{Life, Live, Dead, Agree, IsNoLater, join_life}
use Rattle.rds_state.specs.Coordinates.{Coordinates, AtMost, AreCompatible, join}
use Rattle.rds_state.proofs.JoinLaws.{same_coordinates}
use Rattle.rds_delta.specs.Ranks.{Ranks, life_rank, ranks}
use Rattle.rds_delta.specs.Least.{least, IsAbove}

-- at any state that has grown from the second, the least delta has the whole effect
life_grown : (a b m : Option Life) → IsNoLater b m → join_life m (cond (nat_lt (life_rank b) (life_rank a)) a None) ≡ join_life m a
life_grown None None m h = refl
life_grown None (Some (Live f)) m h = refl
life_grown None (Some Dead) m h = refl
life_grown (Some (Live e)) None m h = refl
life_grown (Some (Live e)) (Some (Live f)) None h = absurd h
life_grown (Some (Live e)) (Some (Live f)) (Some (Live g)) h = refl
life_grown (Some (Live e)) (Some (Live f)) (Some Dead) h = refl
life_grown (Some (Live e)) (Some Dead) None h = absurd h
life_grown (Some (Live e)) (Some Dead) (Some (Live g)) h = absurd h
life_grown (Some (Live e)) (Some Dead) (Some Dead) h = refl
life_grown (Some Dead) None m h = refl
life_grown (Some Dead) (Some (Live f)) m h = refl
life_grown (Some Dead) (Some Dead) None h = absurd h
life_grown (Some Dead) (Some Dead) (Some (Live g)) h = absurd h
life_grown (Some Dead) (Some Dead) (Some Dead) h = refl

number_grown : (a b m : ℕ) → b ≤ m → max m (cond (nat_lt b a) a 0) ≡ max m a
number_grown a b m h = grind (arith, nat_tests)

pub grown_delta : (a b m : Coordinates) → AtMost b m → join m (least a (ranks b)) ≡ join m a
grown_delta a b m h = same_coordinates (join m (least a (ranks b))) (join m a) (λ d. life_grown (a.life d) (b.life d) (m.life d) (h.lives d)) (λ q. number_grown (a.number q) (b.number q) (m.number q) (h.numbers q))

life_least : (a b c : Option Life) → join_life b c ≡ join_life b a → IsNoLater (cond (nat_lt (life_rank b) (life_rank a)) a None) c
life_least None None c h = tt
life_least None (Some (Live f)) c h = tt
life_least None (Some Dead) c h = tt
life_least (Some (Live e)) None c h = subst (IsNoLater (Some (Live e))) (sym h) refl
life_least (Some (Live e)) (Some (Live f)) c h = tt
life_least (Some (Live e)) (Some Dead) c h = tt
life_least (Some Dead) None c h = subst (IsNoLater (Some Dead)) (sym h) tt
life_least (Some Dead) (Some (Live f)) None h = cc
life_least (Some Dead) (Some (Live f)) (Some (Live g)) h = cc
life_least (Some Dead) (Some (Live f)) (Some Dead) h = tt
life_least (Some Dead) (Some Dead) c h = tt

number_least : (a b c : ℕ) → max b c ≡ max b a → cond (nat_lt b a) a 0 ≤ c
number_least a b c h = grind (arith, nat_tests)

pub least_delta : (a b c : Coordinates) → join b c ≡ join b a → AtMost (least a (ranks b)) c
least_delta a b c e = record {
  lives = λ d. life_least (a.life d) (b.life d) (c.life d) (ap (λ s. s.life d) e);
  numbers = λ q. number_least (a.number q) (b.number q) (c.number q) (ap (λ s. s.number q) e);
}

life_is_above : (a : Option Life) (n : ℕ) → is_some (cond (nat_lt n (life_rank a)) a None) ≡ true → n < life_rank (cond (nat_lt n (life_rank a)) a None)
life_is_above a n h = grind (arith, nat_tests)

number_is_above : (a b : ℕ) → 0 < cond (nat_lt b a) a 0 → b < cond (nat_lt b a) a 0
number_is_above a b h = grind (arith, nat_tests)

pub least_above : (a : Coordinates) (b : Ranks) → IsAbove (least a b) b
least_above a b = record { lives = λ d. life_is_above (a.life d) (b.rank d); numbers = λ q. number_is_above (a.number q) (b.number q) }

agree_least : (t : Bool) (a c : Option Life) → Agree c a → Agree c (cond t a None)
agree_least true a c h = h
agree_least false a None h = tt
agree_least false a (Some (Live e)) h = tt
agree_least false a (Some Dead) h = tt

pub compatible_least : (a : Coordinates) (b : Ranks) (c : Coordinates) → AreCompatible c a → AreCompatible c (least a b)
compatible_least a b c h = record { each_dot = λ d. agree_least (nat_lt (b.rank d) (life_rank (a.life d))) (a.life d) (c.life d) (h.each_dot d) }

life_above : (d b : Option Life) → (is_some d ≡ true → life_rank b < life_rank d) → d ≡ cond (nat_lt (life_rank b) (life_rank d)) d None
life_above None None h = refl
life_above None (Some (Live f)) h = refl
life_above None (Some Dead) h = refl
life_above (Some (Live e)) None h = refl
life_above (Some (Live e)) (Some (Live f)) h = let k : 1 < 1 = h refl in absurd (omega arith)
life_above (Some (Live e)) (Some Dead) h = let k : 2 < 1 = h refl in absurd (omega arith)
life_above (Some Dead) None h = refl
life_above (Some Dead) (Some (Live f)) h = refl
life_above (Some Dead) (Some Dead) h = let k : 2 < 2 = h refl in absurd (omega arith)

number_above : (d b : ℕ) → (0 < d → b < d) → d ≡ cond (nat_lt b d) d 0
number_above d b h = grind (arith, nat_tests)

-- a delta that is above a state is its own least delta
pub own_least : (d b : Coordinates) → IsAbove d (ranks b) → d ≡ least d (ranks b)
own_least d b h = same_coordinates d (least d (ranks b)) (λ q. life_above (d.life q) (b.life q) (h.lives q)) (λ q. number_above (d.number q) (b.number q) (h.numbers q))

pub above_below : (d b c : Coordinates) → IsAbove d (ranks b) → join b c ≡ join b d → AtMost d c
above_below d b c h e = subst (λ x. AtMost x c) (sym (own_least d b h)) (least_delta d b c e)

agree_above : (d b : Option Life) → (is_some d ≡ true → life_rank b < life_rank d) → Agree d b
agree_above None b h = tt
agree_above (Some (Live e)) None h = tt
agree_above (Some (Live e)) (Some (Live f)) h = let k : 1 < 1 = h refl in absurd (omega arith)
agree_above (Some (Live e)) (Some Dead) h = tt
agree_above (Some Dead) b h = tt

pub above_agrees : (d b : Coordinates) → IsAbove d (ranks b) → AreCompatible d b
above_agrees d b h = record { each_dot = λ q. agree_above (d.life q) (b.life q) (h.lives q) }

agree_sym : (a b : Option Life) → Agree a b → Agree b a
agree_sym None None h = tt
agree_sym None (Some (Live f)) h = tt
agree_sym None (Some Dead) h = tt
agree_sym (Some (Live e)) None h = tt
agree_sym (Some (Live e)) (Some (Live f)) h = sym h
agree_sym (Some (Live e)) (Some Dead) h = tt
agree_sym (Some Dead) b h = dead_right b
  where
    dead_right : (b : Option Life) → Agree b (Some Dead)
    dead_right None = tt
    dead_right (Some (Live f)) = tt
    dead_right (Some Dead) = tt

pub compatible_sym : (a b : Coordinates) → AreCompatible a b → AreCompatible b a
compatible_sym a b h = record { each_dot = λ d. agree_sym (a.life d) (b.life d) (h.each_dot d) }

-- what is left of a life is no later
part_of : (t : Bool) (a : Option Life) → IsNoLater (cond t a None) a
part_of false a = tt
part_of true None = tt
part_of true (Some (Live e)) = refl
part_of true (Some Dead) = tt

part_of_number : (a b : ℕ) → cond (nat_lt b a) a 0 ≤ a
part_of_number a b = grind (arith, nat_tests)

pub least_part : (a : Coordinates) (b : Ranks) → AtMost (least a b) a
least_part a b = record { lives = λ d. part_of (nat_lt (b.rank d) (life_rank (a.life d))) (a.life d); numbers = λ q. part_of_number (a.number q) (b.number q) }
