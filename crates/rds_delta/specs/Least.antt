-- The least delta of a state against a digest (after Enes, Almeida, Baquero, Leitão 2019).
use Rattle.std.specs.Prelude.{◌≡◌, ◌<◌, true, cond, nat_lt, None, is_some}
use Rattle.rds_dots.specs.declared.dot.Dot.{Dot}
use Rattle.rds_counts.specs.Place.{Place}
use Rattle.rds_state.specs.Coordinates.{Coordinates}
use Rattle.rds_delta.specs.Ranks.{Ranks, life_rank}

-- the state's value where its rank or number is above the digest's, and unseen or 0 elsewhere
abbrev pub least : Coordinates → Ranks → Coordinates
least a b = record {
  life = λ d. cond (nat_lt (b.rank d) (life_rank (a.life d))) (a.life d) None;
  number = λ q. cond (nat_lt (b.number q) (a.number q)) (a.number q) 0;
}

-- every component is above the digest's value
pub record IsAbove (a : Coordinates) (b : Ranks) : Type 0 where
  pub lives : (d : Dot) → is_some (a.life d) ≡ true → b.rank d < life_rank (a.life d)
  pub numbers : (q : Place) → 0 < a.number q → b.number q < a.number q

-- no component: every dot is unseen, and every number 0
pub record IsNothing (a : Coordinates) : Type 0 where
  pub lives : (d : Dot) → a.life d ≡ None
  pub numbers : (q : Place) → a.number q ≡ 0
