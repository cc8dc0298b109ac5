-- A digest as a value, and the ranks that it says.
use Rattle.std.specs.Prelude.{◌≡◌, ℕ, true, cond, refl}
use Rattle.std.specs.Coded.{Coded, code_by, coded×}
use Rattle.std.specs.FinSet as set
use Rattle.rds_dots.specs.declared.dot.Dot.{Dot}
use Rattle.rds_dots.specs.Dots.{Dots}
use Rattle.rds_life.specs.Life.{seen_of, live_of}
use Rattle.rds_life.specs.Code.{coded_dot}
use Rattle.rds_counts.specs.Counted.{Counted, number, coded_counts}
use Rattle.rds_state.specs.Value.{StateValue}
use Rattle.rds_delta.specs.Ranks.{Ranks}

-- the seen dots, the live ones of them, and the numbers above 0
pub record DigestValue : Type 0 where
  pub seen : Dots
  pub live : Dots
  pub counts : Counted

-- the first set has no dot that the second lacks
pub record IsInside (s t : Dots) : Type 0 where
  pub each_dot : (d : Dot) → set.contains s d ≡ true → set.contains t d ≡ true

-- what a state's digest keeps of it
abbrev pub digest_of : StateValue → DigestValue
digest_of v = record { seen = seen_of v.lives; live = live_of v.lives; counts = v.counts }

-- a live dot has rank 1, another seen one 2, an unseen one 0
abbrev pub rank_in : DigestValue → Dot → ℕ
rank_in g d = cond (set.contains g.live d) 1 (cond (set.contains g.seen d) 2 0)

-- the ranks and numbers that a digest says
abbrev pub ranks_in : DigestValue → Ranks
ranks_in g = record { rank = λ d. rank_in g d; number = λ q. number g.counts q }

abbrev pub coded_digest : Coded DigestValue
coded_digest = code_by (Dots × (Dots × Counted)) (coded× (set.code coded_dot) (coded× (set.code coded_dot) coded_counts)) (λ g. (g.seen, (g.live, g.counts))) (λ p. record { seen = p.0; live = p.1.0; counts = p.1.1 }) (λ _. refl)
