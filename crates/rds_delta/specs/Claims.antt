-- What a certificate says: a claim for each component of a delta, in order.
use Rattle.std.specs.Prelude.{◌≡◌, ℕ, ◌+◌, ◌-◌, Bool, true, false, ◌&&◌, ◌==◌, nat_le, cond, List, [], ◌∷◌, ◌++◌}
use Rattle.std.specs.Prelude.{map as each}
use Rattle.std.specs.List.{list_all}
use Rattle.std.specs.FinMap as map
use Rattle.rds_dots.specs.declared.dot.Dot.{Dot}
use Rattle.rds_dots.specs.Listed.{dots_from}
use Rattle.rds_counts.specs.Place.{Place}
use Rattle.rds_counts.specs.Counted.{Above, place}
use Rattle.rds_life.specs.Life.{Life, Live, Dead}
use Rattle.rds_delta.specs.Ranks.{Ranks}
use Rattle.rds_state.specs.Value.{StateValue}
use Rattle.rds_delta.specs.declared.row.Row.{Row}
use Rattle.rds_delta.specs.declared.row.Row.TheVariants as rows

-- a live dot, a dead dot with the peer's rank, a number with the peer's
pub data Claim : Type 0 where
  OfLive : Dot → Claim
  OfDead : Dot → ℕ → Claim
  OfCount : Place → ℕ → ℕ → Claim

abbrev pub claim_at : Dot → ℕ → Life → Claim
claim_at d peer (Live e) = OfLive d
claim_at d peer Dead = OfDead d peer

abbrev pub life_claim : (Dot → ℕ) → Dot × Life → Claim
life_claim peer e = claim_at e.0 (peer e.0) e.1

abbrev pub number_claim : (Place → ℕ) → Place × Above → Claim
number_claim peer e = OfCount e.0 (e.1.before + 1) (peer e.0)

-- a claim for each component, in order
abbrev pub claims : Ranks → StateValue → List Claim
claims b v = each (life_claim b.rank) (map.entries v.lives) ++ each (number_claim b.number) (map.entries v.counts)

-- what a row claims
abbrev pub spread : Row → List Claim
spread (rows.Live d) = OfLive d ∷ []
spread (rows.Dead r peer) = each (λ d. OfDead d peer) (dots_from r.replica r.lo (r.hi + 1 - r.lo))
spread (rows.Count key replica which sent peer) = OfCount (place key replica which) sent peer ∷ []

abbrev pub spread_all : List Row → List Claim
spread_all [] = []
spread_all (r ∷ rs) = spread r ++ spread_all rs

-- a run has a dot
abbrev pub is_full : Row → Bool
is_full (rows.Live d) = true
is_full (rows.Dead r peer) = nat_le r.lo r.hi
is_full (rows.Count key replica which sent peer) = true

-- the second goes on where the first ends, with the same rank of the peer
abbrev pub goes_on : Row → Row → Bool
goes_on (rows.Dead r p) (rows.Dead s q) = (r.replica == s.replica) && (p == q) && (s.lo == r.hi + 1)
goes_on (rows.Dead r p) (rows.Live d) = false
goes_on (rows.Dead r p) (rows.Count key replica which sent peer) = false
goes_on (rows.Live d) s = false
goes_on (rows.Count key replica which sent peer) s = false

abbrev pub stops_before : Row → List Row → Bool
stops_before r [] = true
stops_before r (s ∷ rs) = Rattle.std.specs.Prelude.not (goes_on r s)

-- no two neighbours could be one
abbrev pub are_apart : List Row → Bool
are_apart [] = true
are_apart (r ∷ rs) = stops_before r rs && are_apart rs

-- the rows claim each component once, in order, and no two neighbours could be one
pub record IsCertificate (b : Ranks) (v : StateValue) (rs : List Row) : Type 0 where
  pub claimed : spread_all rs ≡ claims b v
  pub full : list_all is_full rs ≡ true
  pub apart : are_apart rs ≡ true
