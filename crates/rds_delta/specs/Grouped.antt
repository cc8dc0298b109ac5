-- Claims as rows, of which no two neighbours could be one.
use Rattle.std.specs.Prelude.{ℕ, cond, List, [], ◌∷◌}
use Rattle.rds_dots.specs.declared.dot.Dot.{Dot}
use Rattle.rds_dots.specs.declared.dot.Run.{Run}
use Rattle.rds_delta.specs.declared.row.Row.{Row}
use Rattle.rds_delta.specs.declared.row.Row.TheVariants as rows
use Rattle.rds_delta.specs.Claims.{Claim, OfLive, OfDead, OfCount, goes_on}

abbrev pub run_of : ℕ → ℕ → ℕ → Run
run_of replica lo hi = record { replica = replica; lo = lo; hi = hi }

-- a dead dot before rows: in one with the first of them where that goes on
abbrev pub dead_front : Dot → ℕ → List Row → List Row
dead_front d p [] = rows.Dead (run_of d.replica d.seq d.seq) p ∷ []
dead_front d p (rows.Live e ∷ rs) = rows.Dead (run_of d.replica d.seq d.seq) p ∷ rows.Live e ∷ rs
dead_front d p (rows.Dead r q ∷ rs) = cond (goes_on (rows.Dead (run_of d.replica d.seq d.seq) p) (rows.Dead r q)) (rows.Dead (run_of d.replica d.seq r.hi) p ∷ rs) (rows.Dead (run_of d.replica d.seq d.seq) p ∷ rows.Dead r q ∷ rs)
dead_front d p (rows.Count key replica which sent peer ∷ rs) = rows.Dead (run_of d.replica d.seq d.seq) p ∷ rows.Count key replica which sent peer ∷ rs

abbrev pub front : Claim → List Row → List Row
front (OfLive d) rs = rows.Live d ∷ rs
front (OfDead d p) rs = dead_front d p rs
front (OfCount q sent peer) rs = rows.Count q.key q.replica q.which sent peer ∷ rs

abbrev pub grouped_onto : List Claim → List Row → List Row
grouped_onto [] rs = rs
grouped_onto (c ∷ cs) rs = front c (grouped_onto cs rs)

abbrev pub rows_of_claims : List Claim → List Row
rows_of_claims cs = grouped_onto cs []
