-- Claims are grouped into the fewest rows in one way.
use Rattle.std.proofs.Common.{◌≡◌, ℕ, zero, suc, ◌+◌, ◌-◌, ◌≤◌, true, false, not, cond, ◌&&◌, ◌==◌, List, [], ◌∷◌, ◌++◌}
use Rattle.std.proofs.Common.{refl, sym, ◌∙◌, ap, arith}
use Rattle.std.proofs.lemmas.Bool.{not-true}
use Rattle.std.specs.Prelude.{map as each, nat_le}
use Rattle.std.specs.List.{list_all}
use Rattle.std.proofs.lemmas.Bool.Decides.{nat_tests}
use Rattle.rds_dots.specs.declared.dot.Dot.{Dot}
use Rattle.rds_dots.specs.declared.dot.Run.{Run}
use Rattle.rds_dots.specs.Listed.{dots_from}
use Rattle.rds_names.specs.Conditions.{and_true, and_left, and_right}
use Rattle.rds_delta.specs.Ranks.{Ranks}
use Rattle.rds_state.specs.Value.{StateValue}
use Rattle.rds_delta.specs.declared.row.Row.{Row}
use Rattle.rds_delta.specs.declared.row.Row.TheVariants as rows
use Rattle.rds_delta.specs.Claims.{Claim, OfLive, OfDead, OfCount, claims, spread, spread_all, is_full, goes_on}
use Rattle.rds_delta.specs.Claims.{stops_before, are_apart, IsCertificate}
use Rattle.rds_delta.specs.Grouped.{run_of, dead_front, front, grouped_onto, rows_of_claims}

pub rows_of_claims-append : (cs ds : List Claim) (rs : List Row) → grouped_onto (cs ++ ds) rs ≡ grouped_onto cs (grouped_onto ds rs)
rows_of_claims-append [] ds rs = refl
rows_of_claims-append (c ∷ cs) ds rs = ap (front c) (rows_of_claims-append cs ds rs)

goes : (r s p q lo hi : ℕ) → r ≡ s → p ≡ q → lo ≡ hi + 1 → ((r == s) && (p == q) && (lo == hi + 1)) ≡ true
goes r s p q lo hi a b c = grind (arith, nat_tests)

-- a dead dot that nothing goes on from
alone : (replica seq p : ℕ) (rs : List Row) → stops_before (rows.Dead (run_of replica seq seq) p) rs ≡ true → dead_front (record { replica = replica; seq = seq }) p rs ≡ rows.Dead (run_of replica seq seq) p ∷ rs
alone replica seq p [] h = refl
alone replica seq p (rows.Live e ∷ rs) h = refl
alone replica seq p (rows.Dead r q ∷ rs) h = ap (λ b. cond b (rows.Dead (run_of replica seq r.hi) p ∷ rs) (rows.Dead (run_of replica seq seq) p ∷ rows.Dead r q ∷ rs)) (not-true (goes_on (rows.Dead (run_of replica seq seq) p) (rows.Dead r q)) h)
alone replica seq p (rows.Count key rep which sent peer ∷ rs) h = refl

run_onto : (replica lo p n : ℕ) (rs : List Row) → stops_before (rows.Dead (run_of replica lo (lo + n)) p) rs ≡ true → grouped_onto (each (λ d. OfDead d p) (dots_from replica lo (suc n))) rs ≡ rows.Dead (run_of replica lo (lo + n)) p ∷ rs
run_onto replica lo p zero rs h =
    let e : lo + 0 ≡ lo = omega arith in
    alone replica lo p rs (ap (λ m. stops_before (rows.Dead (run_of replica lo m) p) rs) (sym e) ∙ h) ∙ ap (λ m. rows.Dead (run_of replica lo m) p ∷ rs) (sym e)
run_onto replica lo p (suc n) rs h =
    let e : lo + suc n ≡ (lo + 1) + n = omega arith in
    let d : Dot = record { replica = replica; seq = lo } in
    ap (dead_front d p) (run_onto replica (lo + 1) p n rs (hi_only replica lo (lo + 1) (lo + suc n) ((lo + 1) + n) p rs e h))
    ∙ ap (λ b. cond b (rows.Dead (run_of replica lo ((lo + 1) + n)) p ∷ rs) (rows.Dead (run_of replica lo lo) p ∷ rows.Dead (run_of replica (lo + 1) ((lo + 1) + n)) p ∷ rs)) (goes replica replica p p (lo + 1) lo refl refl refl)
    ∙ ap (λ m. rows.Dead (run_of replica lo m) p ∷ rs) (sym e)
  where
    hi_only : (replica lo lo' hi hi' p : ℕ) (rs : List Row) → hi ≡ hi' → stops_before (rows.Dead (run_of replica lo hi) p) rs ≡ true → stops_before (rows.Dead (run_of replica lo' hi') p) rs ≡ true
    hi_only replica lo lo' hi hi' p [] e h = refl
    hi_only replica lo lo' hi hi' p (rows.Live d ∷ rs) e h = refl
    hi_only replica lo lo' hi hi' p (rows.Dead r q ∷ rs) e h = ap (λ m. not ((replica == r.replica) && (p == q) && (r.lo == m + 1))) (sym e) ∙ h
    hi_only replica lo lo' hi hi' p (rows.Count key rep which sent peer ∷ rs) e h = refl

le_of : (a b : ℕ) → nat_le a b ≡ true → a ≤ b
le_of a b h = grind (arith, nat_tests)

pub row_onto : (r : Row) (rs : List Row) → is_full r ≡ true → stops_before r rs ≡ true → grouped_onto (spread r) rs ≡ r ∷ rs
row_onto (rows.Live d) rs full stops = refl
row_onto (rows.Dead r p) rs full stops =
    let le = le_of r.lo r.hi full in
    let n = r.hi - r.lo in
    let count : r.hi + 1 - r.lo ≡ suc n = omega arith in
    let last : r.lo + n ≡ r.hi = omega arith in
    ap (λ m. grouped_onto (each (λ d. OfDead d p) (dots_from r.replica r.lo m)) rs) count
    ∙ run_onto r.replica r.lo p n rs (ap (λ m. stops_before (rows.Dead (run_of r.replica r.lo m) p) rs) last ∙ stops)
    ∙ ap (λ m. rows.Dead (run_of r.replica r.lo m) p ∷ rs) last
row_onto (rows.Count key replica which sent peer) rs full stops = refl

-- rows that are apart are those into which their claims are grouped
pub rows_of_claims-spread : (rs : List Row) → list_all is_full rs ≡ true → are_apart rs ≡ true → rows_of_claims (spread_all rs) ≡ rs
rows_of_claims-spread [] full apart = refl
rows_of_claims-spread (r ∷ rs) full apart =
    rows_of_claims-append (spread r) (spread_all rs) []
    ∙ ap (grouped_onto (spread r)) (rows_of_claims-spread rs (and_right (is_full r) _ full) (and_right (stops_before r rs) _ apart))
    ∙ row_onto r rs (and_left (is_full r) _ full) (and_left (stops_before r rs) _ apart)

-- so a certificate has no other rows
pub certificate_is : (b : Ranks) (v : StateValue) (rs : List Row) → IsCertificate b v rs → rs ≡ rows_of_claims (claims b v)
certificate_is b v rs is = sym (rows_of_claims-spread rs is.full is.apart) ∙ ap rows_of_claims is.claimed

pub one_certificate : (b : Ranks) (v : StateValue) (rs others : List Row) → IsCertificate b v rs → IsCertificate b v others → others ≡ rs
one_certificate b v rs others is other = certificate_is b v others other ∙ sym (certificate_is b v rs is)

-- what going on says
record GoesOn (d : Dot) (p : ℕ) (r : Run) (q : ℕ) : Type 0 where
  replica : d.replica ≡ r.replica
  peer : p ≡ q
  next : r.lo ≡ d.seq + 1

from_goes : (a b p q lo hi : ℕ) → ((a == b) && (p == q) && (lo == hi + 1)) ≡ true → (a ≡ b) × (p ≡ q) × (lo ≡ hi + 1)
from_goes a b p q lo hi h = grind (arith, nat_tests)

goes_on_is : (d : Dot) (p : ℕ) (r : Run) (q : ℕ) → goes_on (rows.Dead (run_of d.replica d.seq d.seq) p) (rows.Dead r q) ≡ true → GoesOn d p r q
goes_on_is d p r q h = let k = from_goes d.replica r.replica p q r.lo d.seq h in record { replica = k.0; peer = k.1; next = k.2 }

one_spread : (d : Dot) (p : ℕ) → spread (rows.Dead (run_of d.replica d.seq d.seq) p) ≡ OfDead d p ∷ []
one_spread d p = let e : d.seq + 1 - d.seq ≡ suc zero = omega arith in ap (λ n. each (λ x. OfDead x p) (dots_from d.replica d.seq n)) e

more_spread : (d : Dot) (p : ℕ) (r : Run) (q : ℕ) → r.lo ≤ r.hi → GoesOn d p r q → spread (rows.Dead (run_of d.replica d.seq r.hi) p) ≡ OfDead d p ∷ spread (rows.Dead r q)
more_spread d p r q le g =
    let count : r.hi + 1 - d.seq ≡ suc (r.hi + 1 - r.lo) = omega (arith, g.next) in
    ap (λ n. each (λ x. OfDead x p) (dots_from d.replica d.seq n)) count
    ∙ ap (λ m. OfDead d p ∷ each (λ x. OfDead x p) (dots_from d.replica m (r.hi + 1 - r.lo))) (sym g.next)
    ∙ ap (λ m. OfDead d p ∷ each (λ x. OfDead x p) (dots_from m r.lo (r.hi + 1 - r.lo))) g.replica
    ∙ ap (λ m. OfDead d p ∷ each (λ x. OfDead x m) (dots_from r.replica r.lo (r.hi + 1 - r.lo))) g.peer

one_full : (n : ℕ) → nat_le n n ≡ true
one_full n = grind (arith, nat_tests)

less_full : (a b c : ℕ) → a ≤ c → nat_le a c ≡ true
less_full a b c h = grind (arith, nat_tests)

-- a claim more, and the rows are still in order
record IsFront (c : Claim) (old new : List Row) : Type 0 where
  claimed : spread_all new ≡ c ∷ spread_all old
  full : list_all is_full new ≡ true
  apart : are_apart new ≡ true

dead_is_front : (d : Dot) (p : ℕ) (rs : List Row) → list_all is_full rs ≡ true → are_apart rs ≡ true → IsFront (OfDead d p) rs (dead_front d p rs)
dead_is_front d p [] full apart = record { claimed = ap (λ cs. cs ++ []) (one_spread d p); full = and_true _ _ (one_full d.seq) refl; apart = refl }
dead_is_front d p (rows.Live e ∷ rs) full apart = record { claimed = ap (λ cs. cs ++ spread_all (rows.Live e ∷ rs)) (one_spread d p); full = and_true _ _ (one_full d.seq) full; apart = apart }
dead_is_front d p (rows.Count key replica which sent peer ∷ rs) full apart = record { claimed = ap (λ cs. cs ++ spread_all (rows.Count key replica which sent peer ∷ rs)) (one_spread d p); full = and_true _ _ (one_full d.seq) full; apart = apart }
dead_is_front d p (rows.Dead r q ∷ rs) full apart =
    elim (goes_on (rows.Dead (run_of d.replica d.seq d.seq) p) (rows.Dead r q)) as (λ b. goes_on (rows.Dead (run_of d.replica d.seq d.seq) p) (rows.Dead r q) ≡ b → IsFront (OfDead d p) (rows.Dead r q ∷ rs) (cond b (rows.Dead (run_of d.replica d.seq r.hi) p ∷ rs) (rows.Dead (run_of d.replica d.seq d.seq) p ∷ rows.Dead r q ∷ rs))) [
      | true ↦ λ is.
          let g = goes_on_is d p r q is in
          let le = le_of r.lo r.hi (and_left (is_full (rows.Dead r q)) _ full) in
          record {
            claimed = ap (λ cs. cs ++ spread_all rs) (more_spread d p r q le g);
            full = and_true _ _ (less_full d.seq r.lo r.hi (omega (arith, g.next))) (and_right (is_full (rows.Dead r q)) _ full);
            apart = and_true _ _ (stops_as rs r q d p g (and_left (stops_before (rows.Dead r q) rs) _ apart)) (and_right (stops_before (rows.Dead r q) rs) _ apart);
          }
      | false ↦ λ isnt. record {
        claimed = ap (λ cs. cs ++ spread_all (rows.Dead r q ∷ rs)) (one_spread d p);
        full = and_true _ _ (one_full d.seq) full;
        apart = and_true _ _ (ap not isnt) apart;
      }
    ] refl
  where
    stops_as : (rs : List Row) (r : Run) (q : ℕ) (d : Dot) (p : ℕ) → GoesOn d p r q → stops_before (rows.Dead r q) rs ≡ true → stops_before (rows.Dead (run_of d.replica d.seq r.hi) p) rs ≡ true
    stops_as [] r q d p g h = refl
    stops_as (rows.Live e ∷ rs) r q d p g h = refl
    stops_as (rows.Count key replica which sent peer ∷ rs) r q d p g h = refl
    stops_as (rows.Dead s u ∷ rs) r q d p g h = ap (λ m. not ((m == s.replica) && (p == u) && (s.lo == r.hi + 1))) g.replica ∙ ap (λ m. not ((r.replica == s.replica) && (m == u) && (s.lo == r.hi + 1))) g.peer ∙ h

is_front : (c : Claim) (rs : List Row) → list_all is_full rs ≡ true → are_apart rs ≡ true → IsFront c rs (front c rs)
is_front (OfLive d) rs full apart = record { claimed = refl; full = full; apart = live_apart d rs apart }
  where
    live_apart : (d : Dot) (rs : List Row) → are_apart rs ≡ true → are_apart (rows.Live d ∷ rs) ≡ true
    live_apart d [] h = refl
    live_apart d (r ∷ rs) h = h
is_front (OfDead d p) rs full apart = dead_is_front d p rs full apart
is_front (OfCount q sent peer) rs full apart = record { claimed = refl; full = full; apart = count_apart rs apart }
  where
    count_apart : (rs : List Row) → are_apart rs ≡ true → are_apart (rows.Count q.key q.replica q.which sent peer ∷ rs) ≡ true
    count_apart [] h = refl
    count_apart (r ∷ rs) h = h

pub grouped_is : (cs : List Claim) → record { claimed : spread_all (rows_of_claims cs) ≡ cs; full : list_all is_full (rows_of_claims cs) ≡ true; apart : are_apart (rows_of_claims cs) ≡ true }
grouped_is [] = record { claimed = refl; full = refl; apart = refl }
grouped_is (c ∷ cs) =
    let h = grouped_is cs in
    let f = is_front c (rows_of_claims cs) h.full h.apart in
    record { claimed = f.claimed ∙ ap (λ ds. c ∷ ds) h.claimed; full = f.full; apart = f.apart }

-- and grouped claims are one
pub grouped_certificate : (b : Ranks) (v : StateValue) → IsCertificate b v (rows_of_claims (claims b v))
grouped_certificate b v = let h = grouped_is (claims b v) in record { claimed = h.claimed; full = h.full; apart = h.apart }
