-- What a digest says of a state: how far each dot has come, and each number, without entries.
use Rattle.std.specs.Prelude.{ℕ, Option, Some, None}
use Rattle.rds_dots.specs.declared.dot.Dot.{Dot}
use Rattle.rds_life.specs.declared.rank.Rank.{Rank}
use Rattle.rds_life.specs.declared.rank.Rank.TheVariants as stages
use Rattle.rds_life.specs.Life.{Life, Live, Dead}
use Rattle.rds_counts.specs.Place.{Place}
use Rattle.rds_state.specs.Coordinates.{Coordinates}

pub record Ranks : Type 0 where
  pub rank : Dot → ℕ
  pub number : Place → ℕ

-- the rank of a life: unseen 0, live 1, dead 2
abbrev pub life_rank : Option Life → ℕ
life_rank None = 0
life_rank (Some (Live e)) = 1
life_rank (Some Dead) = 2

-- the same, of how far a dot has come
abbrev pub rank_number : Rank → ℕ
rank_number stages.Unseen = 0
rank_number stages.Live = 1
rank_number stages.Dead = 2

-- a state's ranks and numbers
abbrev pub ranks : Coordinates → Ranks
ranks a = record { rank = λ d. life_rank (a.life d); number = a.number }
