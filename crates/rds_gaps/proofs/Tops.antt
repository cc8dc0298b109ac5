-- The greatest number of a replica among runs.
use Rattle.std.proofs.Common.{◌≡◌, ℕ, suc, zero, ◌+◌, ◌-◌, ◌<◌, ◌≤◌, Bool, true, false, ◌&&◌, ◌||◌, List, [], ◌∷◌}
use Rattle.std.proofs.Common.{length, get_or, Some, refl, sym, ◌∙◌, ap, arith, eqb, leb, inl, inr}
use mathlib.Core.Bool.{false≢true}
use Rattle.std.specs.Ordering.{is_lt, nat_cmp, ordering_then}
use Rattle.std.proofs.lemmas.Bool.Decides.{nat_tests}
use Rattle.std.proofs.lemmas.Bool.{cases_lt}
use Rattle.rds_dots.specs.declared.dot.Dot.{Dot}
use Rattle.rds_dots.specs.declared.dot.Run.{Run}
use Rattle.rds_dots.specs.Dots.{in_run, IsTop}
use Rattle.rds_dots.specs.Runs.{runs_cover, start, stop, begins_past, are_maximal}
use Rattle.rds_dots.specs.RunFacts.{bounds_of, run_parts, start_stop, lt_of, begins_later}
use Rattle.rds_gaps.specs.Lookup.{IsParted, IsTopOf}
use Rattle.rds_gaps.specs.RunSets.{set_of, contains-set_of}
use Rattle.rds_gaps.proofs.Lasts.{run_at}

-- where the run is that has a dot
exists_at : (rs : List Run) (q : Dot) (d : Run) → runs_cover rs q ≡ true → (k : ℕ) × (k < length rs) × (in_run (get_or rs k d) q ≡ true)
exists_at [] q d h = absurd (false≢true h)
exists_at (r ∷ rs) q d h =
    let again = exists_at rs q d in
    elim (in_run r q) as (λ b. in_run r q ≡ b → (b || runs_cover rs q) ≡ true → (k : ℕ) × (k < length (r ∷ rs)) × (in_run (get_or (r ∷ rs) k d) q ≡ true)) [
      | true ↦ λ is _. (0, omega arith, is)
      | false ↦ λ _ later. (let e = again later in let lt = e.1 in (suc e.0, omega arith, e.2))
    ] refl h

or_right : (a b : Bool) → b ≡ true → (a || b) ≡ true
or_right true b h = refl
or_right false b h = h

covers_at : (rs : List Run) (q : Dot) (d : Run) (k : ℕ) → k < length rs → in_run (get_or rs k d) q ≡ true → runs_cover rs q ≡ true
covers_at [] q d k lt h = absurd (omega arith)
covers_at (r ∷ rs) q d zero lt h = ap (λ b. b || runs_cover rs q) h
covers_at (r ∷ rs) q d (suc k) lt h = or_right (in_run r q) (runs_cover rs q) (covers_at rs q d k (omega arith) h)

stop_past : (rs : List Run) → are_maximal rs ≡ true → (m : ℕ) → begins_past m rs ≡ true → (d : Run) (j : ℕ) → j < length rs → m ≤ stop (get_or rs j d)
stop_past [] max m begins d j lt = absurd (omega arith)
stop_past (r ∷ rs) max m begins d zero lt = let p = run_parts r rs max in let l = lt_of m (start r) begins in let le = start_stop r p.bounds in omega arith
stop_past (r ∷ rs) max m begins d (suc j) lt =
    let p = run_parts r rs max in let l = lt_of m (start r) begins in let le = start_stop r p.bounds in
    stop_past rs p.rest m (begins_later rs m (stop r + 1) (omega arith) p.apart) d j (omega arith)

stop_rises : (rs : List Run) → are_maximal rs ≡ true → (d : Run) (k j : ℕ) → k ≤ j → j < length rs → stop (get_or rs k d) ≤ stop (get_or rs j d)
stop_rises [] max d k j le lt = absurd (omega arith)
stop_rises (r ∷ rs) max d zero zero le lt = omega arith
stop_rises (r ∷ rs) max d zero (suc j) le lt = let p = run_parts r rs max in stop_past rs p.rest (stop r) (begins_later rs (stop r) (stop r + 1) (omega arith) p.apart) d j (omega arith)
stop_rises (r ∷ rs) max d (suc k) zero le lt = absurd (omega arith)
stop_rises (r ∷ rs) max d (suc k) (suc j) le lt = stop_rises rs (run_parts r rs max).rest d k j (omega arith) (omega arith)

not_past : (a n ρ lo hi : ℕ) → (eqb a ρ && leb lo n && leb n hi) ≡ true → hi ≤ 281474976710655 → is_lt (ordering_then (nat_cmp a ρ) (nat_cmp 281474976710655 hi)) ≡ false
not_past a n ρ lo hi h most = grind (arith, nat_tests)

same_is : (a n ρ lo hi : ℕ) → (eqb a ρ && leb lo n && leb n hi) ≡ true → a ≡ ρ
same_is a n ρ lo hi h = grind (arith, nat_tests)

up_to : (a n ρ lo hi : ℕ) → (eqb a ρ && leb lo n && leb n hi) ≡ true → n ≤ hi
up_to a n ρ lo hi h = grind (arith, nat_tests)

no_greater : (a ρ hi : ℕ) → hi ≤ 281474976710655 → is_lt (ordering_then (nat_cmp a ρ) (nat_cmp 281474976710655 hi)) ≡ false → ρ ≤ a
no_greater a ρ hi most h = grind (arith, nat_tests)

abbrev pub most_of : ℕ → Dot
most_of replica = record { replica = replica; seq = 281474976710655 }

-- a dot of the replica is in a run before the place
before_end : (rs : List Run) → are_maximal rs ≡ true → (replica i : ℕ) → IsParted (Some (most_of replica)) rs i → (n : ℕ) (d : Run) → let q : Dot = record { replica = replica; seq = n } in runs_cover rs q ≡ true → (k : ℕ) × (k < i) × (k < length rs) × (in_run (get_or rs k d) q ≡ true)
before_end rs max replica i parted n d h =
    let q : Dot = record { replica = replica; seq = n } in
    let e = exists_at rs q d h in
    let k = e.0 in
    let r = get_or rs k d in
    let b = bounds_of r (run_at rs max d k e.1) in
    elim (cases_lt k i) [
      | inl lt ↦ (k, lt, e.1, e.2)
      | inr ge ↦ absurd (false≢true (sym (not_past replica n r.replica r.lo r.hi e.2 b.most) ∙ parted.from k d ge e.1))
    ]

pub top_none : (rs : List Run) → are_maximal rs ≡ true → (replica : ℕ) → IsParted (Some (most_of replica)) rs 0 → IsTopOf rs replica 0
top_none rs max replica parted = record {
  at_most = λ n h. (let none : Run = record { replica = 0; lo = 0; hi = 0 } in let e = before_end rs max replica 0 parted n none h in let lt = e.1 in absurd (omega arith));
  there = λ h. absurd (omega arith);
}

-- and the last run before the place is of the replica, and has no less
record IsLast (r : Run) (replica n : ℕ) : Type 0 where
  pub same : r.replica ≡ replica
  pub reaches : n ≤ r.hi

last_has : (rs : List Run) → are_maximal rs ≡ true → (replica i : ℕ) → 0 < i → i ≤ length rs → IsParted (Some (most_of replica)) rs i → (n : ℕ) (d : Run) → let q : Dot = record { replica = replica; seq = n } in runs_cover rs q ≡ true → IsLast (get_or rs (i - 1) d) replica n
last_has rs max replica i pos within parted n d h =
    let e = before_end rs max replica i parted n d h in
    let k = e.0 in
    let k_lt = e.1 in
    let r = get_or rs k d in
    let l = get_or rs (i - 1) d in
    let rises = stop_rises rs max d k (i - 1) (omega arith) (omega arith) in
    let b = bounds_of l (run_at rs max d (i - 1) (omega arith)) in
    let c = bounds_of r (run_at rs max d k e.2) in
    let below = parted.below (i - 1) d (omega arith) in
    let le = no_greater replica l.replica l.hi b.most below in
    let same = same_is replica n r.replica r.lo r.hi e.3 in
    let up = up_to replica n r.replica r.lo r.hi e.3 in
    let b1 = b.most in let c1 = c.most in let c2 = c.rises in let c3 = c.one in
    record { same = omega arith; reaches = omega arith }

in_last : (ρ a lo hi : ℕ) → ρ ≡ a → lo ≤ hi → (eqb a ρ && leb lo hi && leb hi hi) ≡ true
in_last ρ a lo hi e le = grind (arith, nat_tests)

pub top_last : (rs : List Run) → are_maximal rs ≡ true → (replica i : ℕ) → 0 < i → i ≤ length rs → IsParted (Some (most_of replica)) rs i → (d : Run) → (get_or rs (i - 1) d).replica ≡ replica → IsTopOf rs replica (get_or rs (i - 1) d).hi
top_last rs max replica i pos within parted d same =
    let l = get_or rs (i - 1) d in
    let b = bounds_of l (run_at rs max d (i - 1) (omega arith)) in
    record {
      at_most = λ n h. (last_has rs max replica i pos within parted n d h).reaches;
      there = λ _. (let q : Dot = record { replica = replica; seq = l.hi } in covers_at rs q d (i - 1) (omega arith) (in_last l.replica replica l.lo l.hi same b.rises));
    }

pub top_other : (rs : List Run) → are_maximal rs ≡ true → (replica i : ℕ) → 0 < i → i ≤ length rs → IsParted (Some (most_of replica)) rs i → (d : Run) → ((get_or rs (i - 1) d).replica ≡ replica → ⊥) → IsTopOf rs replica 0
top_other rs max replica i pos within parted d other = record {
  at_most = λ n h. absurd (other (last_has rs max replica i pos within parted n d h).same);
  there = λ h. absurd (omega arith);
}

pub top_set : (rs : List Run) (replica top : ℕ) → IsTopOf rs replica top → IsTop (set_of rs) replica top
top_set rs replica top is = record {
  at_most = λ n h. (let q : Dot = record { replica = replica; seq = n } in is.at_most n (sym (contains-set_of rs q) ∙ h));
  there = λ h. (let q : Dot = record { replica = replica; seq = top } in contains-set_of rs q ∙ is.there h);
}
