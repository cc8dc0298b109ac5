-- Whether a delta is needed, component by component, and its certificate says so.
use Rattle.std.specs.Prelude.{◌≡◌, ◌↔◌, IsTrue, Bool, true, false, ◌&&◌, ◌==◌, nat_lt, List}
use Rattle.std.specs.Cmp.Lexicographic.{pointwise}
use Rattle.std.specs.FinMap as map
use Rattle.std.specs.List.{list_all}
use Rattle.std.specs.Str.{bytes_eq}
use Rattle.rds_dots.specs.declared.dot.Dot.{Dot}
use Rattle.rds_dots.specs.declared.dot.Run.{Run}
use Rattle.rds_counts.specs.Counted.{number}
use Rattle.rds_counts.specs.Place.{Place}
use Rattle.rds_counts.specs.declared.row.Which.{Which}
use Rattle.rds_counts.specs.declared.row.Which.TheVariants.{P, N}
use Rattle.rds_state.specs.Chosen.{same_dot}
use Rattle.rds_state.specs.Value.{StateValue, coordinates}
use Rattle.rds_delta.specs.Claims.{IsCertificate, claims}
use Rattle.rds_delta.specs.Digested.{DigestValue, rank_in, ranks_in}
use Rattle.rds_delta.specs.Grouped.{rows_of_claims}
use Rattle.rds_delta.specs.Least.{IsAbove, least}
use Rattle.rds_delta.specs.Ranks.{life_rank}
use Rattle.rds_delta.specs.declared.row.Row.{Row}
use Rattle.rds_delta.specs.declared.row.Row.TheVariants.{Live, Dead, Count}

-- whether a life is above the digest's
abbrev pub is_later : DigestValue → StateValue → Dot → Bool
is_later g v d = nat_lt (rank_in g d) (life_rank (map.get v.lives d))

-- whether a number is above the digest's
abbrev pub is_greater : DigestValue → StateValue → Place → Bool
is_greater g v q = nat_lt (number g.counts q) (number v.counts q)

-- the lives and numbers that are above the digest's: the least delta, as a value
abbrev pub least_state : StateValue → DigestValue → StateValue
least_state v g = record { lives = map.retain_keys v.lives (is_later g v); counts = map.retain_keys v.counts (is_greater g v) }

-- the one certificate of a delta
abbrev pub certificate_of : DigestValue → StateValue → List Row
certificate_of g v = rows_of_claims (claims (ranks_in g) v)

-- whether all that it has is above the digest's
abbrev pub is_all_above : DigestValue → StateValue → Bool
is_all_above g v = list_all (is_later g v) (map.keys v.lives) && list_all (is_greater g v) (map.keys v.counts)

abbrev pub is_same_run : Run → Run → Bool
is_same_run r s = (r.replica == s.replica) && ((r.lo == s.lo) && (r.hi == s.hi))

abbrev pub same_which : Which → Which → Bool
same_which P P = true
same_which N N = true
same_which _ _ = false

abbrev pub same_row : Row → Row → Bool
same_row (Live d) (Live e) = same_dot d e
same_row (Dead r p) (Dead s q) = is_same_run r s && (p == q)
same_row (Count k r w s p) (Count l t x u q) = bytes_eq k l && ((r == t) && (same_which w x && ((s == u) && (p == q))))
same_row _ _ = false

-- the delta is above the digest, and the rows are its certificate
abbrev pub passes : DigestValue → StateValue → List Row → Bool
passes g v rows = is_all_above g v && pointwise same_row rows (certificate_of g v)

-- the value of the least delta is the least delta
abbrev pub IsLeastDelta : Type 0
IsLeastDelta = (v : StateValue) (g : DigestValue) → coordinates (least_state v g) ≡ least (coordinates v) (ranks_in g)

-- the one certificate is the delta's
abbrev pub IsOwnCertificate : Type 0
IsOwnCertificate = (v : StateValue) (g : DigestValue) → IsCertificate (ranks_in g) v (certificate_of g v)

-- what passes is above the digest, and has the delta's certificate; and nothing else passes
abbrev pub PassesExactly : Type 0
PassesExactly = (v : StateValue) (g : DigestValue) (rows : List Row) → IsTrue (passes g v rows) ↔ (IsAbove (coordinates v) (ranks_in g) × IsCertificate (ranks_in g) v rows)
