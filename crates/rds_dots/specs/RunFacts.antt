-- What runs in order have.
use Rattle.std.proofs.Common.{sym, ◌≡◌, ℕ, ◌+◌, ◌*◌, ◌<◌, ◌≤◌, Bool, true, false, ◌&&◌, ◌||◌, List, [], ◌∷◌, refl, ◌∙◌}
use Rattle.std.proofs.Common.{ap, arith, eqb, leb, ltb}
use mathlib.Core.Bool.{false≢true}
use Rattle.std.proofs.Math.Bool.{and-or_distrib_left}
use Rattle.std.specs.List.{list_any}
use Rattle.std.proofs.lemmas.Bool.Decides.{nat_tests}
use Rattle.rds_dots.specs.declared.dot.Dot.{Dot}
use Rattle.rds_dots.specs.declared.dot.Run.{Run}
use Rattle.rds_dots.specs.Dots.{is_dot}
use Rattle.rds_names.specs.Conditions.{and_left, and_right, and_true}
use Rattle.rds_dots.specs.Runs.{runs_cover, dot_place, start, stop, is_run, begins_past, are_maximal}

-- the limits of a run
pub record Bounds (r : Run) : Type 0 where
  pub small : r.replica ≤ 255
  pub one : 1 ≤ r.lo
  pub rises : r.lo ≤ r.hi
  pub most : r.hi ≤ 281474976710655

small_of : (a lo hi : ℕ) → (leb a 255 && leb 1 lo && leb lo hi && leb hi 281474976710655) ≡ true → a ≤ 255
small_of a lo hi h = grind (arith, nat_tests)

one_of : (a lo hi : ℕ) → (leb a 255 && leb 1 lo && leb lo hi && leb hi 281474976710655) ≡ true → 1 ≤ lo
one_of a lo hi h = grind (arith, nat_tests)

rises_of : (a lo hi : ℕ) → (leb a 255 && leb 1 lo && leb lo hi && leb hi 281474976710655) ≡ true → lo ≤ hi
rises_of a lo hi h = grind (arith, nat_tests)

most_of : (a lo hi : ℕ) → (leb a 255 && leb 1 lo && leb lo hi && leb hi 281474976710655) ≡ true → hi ≤ 281474976710655
most_of a lo hi h = grind (arith, nat_tests)

pub bounds_of : (r : Run) → is_run r ≡ true → Bounds r
bounds_of r h = record { small = small_of r.replica r.lo r.hi h; one = one_of r.replica r.lo r.hi h; rises = rises_of r.replica r.lo r.hi h; most = most_of r.replica r.lo r.hi h }

is_run_of : (a lo hi : ℕ) → a ≤ 255 → 1 ≤ lo → lo ≤ hi → hi ≤ 281474976710655 → (leb a 255 && leb 1 lo && leb lo hi && leb hi 281474976710655) ≡ true
is_run_of a lo hi p q r s = grind (arith, nat_tests)

pub is_run_by : (r : Run) → Bounds r → is_run r ≡ true
is_run_by r b = is_run_of r.replica r.lo r.hi b.small b.one b.rises b.most

-- the parts of a list of maximal runs
pub record RunParts (r : Run) (rs : List Run) : Type 0 where
  pub bounds : Bounds r
  pub apart : begins_past (stop r + 1) rs ≡ true
  pub rest : are_maximal rs ≡ true

pub run_parts : (r : Run) (rs : List Run) → are_maximal (r ∷ rs) ≡ true → RunParts r rs
run_parts r rs h =
    let front = and_left (is_run r && begins_past (stop r + 1) rs) (are_maximal rs) h in
    record { bounds = bounds_of r (and_left (is_run r) _ front); apart = and_right (is_run r) _ front; rest = and_right (is_run r && begins_past (stop r + 1) rs) (are_maximal rs) h }

pub maximal_by : (r : Run) (rs : List Run) → Bounds r → begins_past (stop r + 1) rs ≡ true → are_maximal rs ≡ true → are_maximal (r ∷ rs) ≡ true
maximal_by r rs b p m = and_true _ _ (and_true _ _ (is_run_by r b) p) m

-- whether the run goes through the place
abbrev pub spans : Run → ℕ → Bool
spans r n = leb (start r) n && leb n (stop r)

-- whether one of the runs goes through the place
abbrev pub has : List Run → ℕ → Bool
has rs n = list_any (λ r. spans r n) rs

pub spans_from : (a b n : ℕ) → (leb a n && leb n b) ≡ true → a ≤ n
spans_from a b n h = grind (arith, nat_tests)

pub lt_of : (a b : ℕ) → ltb a b ≡ true → a < b
lt_of a b h = grind (arith, nat_tests)

pub lt_by : (a b : ℕ) → a < b → ltb a b ≡ true
lt_by a b h = grind (arith, nat_tests)

pub start_stop : (r : Run) → Bounds r → start r ≤ stop r
start_stop r b = let rises = b.rises in omega arith

pub begins_later : (rs : List Run) (m n : ℕ) → m ≤ n → begins_past n rs ≡ true → begins_past m rs ≡ true
begins_later [] m n le h = refl
begins_later (r ∷ rs) m n le h = let lt = lt_of n (start r) h in lt_by m (start r) (omega arith)

-- what runs go through lies past where they begin
pub has_past : (rs : List Run) → are_maximal rs ≡ true → (m n : ℕ) → begins_past m rs ≡ true → has rs n ≡ true → m < n
has_past [] max m n begins h = absurd (false≢true h)
has_past (r ∷ rs) max m n begins h =
    let p = run_parts r rs max in
    let lt = lt_of m (start r) begins in
    let le = start_stop r p.bounds in
    elim (spans r n) as (λ b. spans r n ≡ b → (b || has rs n) ≡ true → m < n) [
      | true ↦ λ is _. let from = spans_from (start r) (stop r) n is in omega arith
      | false ↦ λ _ later. let past = has_past rs p.rest (stop r + 1) n p.apart later in omega arith
    ] refl h

pub has_none : (rs : List Run) → are_maximal rs ≡ true → (m n : ℕ) → begins_past m rs ≡ true → n ≤ m → has rs n ≡ false
has_none rs max m n begins le = elim (has rs n) as (λ b. has rs n ≡ b → b ≡ false) [ true ↦ λ h. (let lt = has_past rs max m n begins h in absurd (omega arith)) | false ↦ λ h. refl ] refl

in_is : (a s ρ lo hi : ℕ) → ρ ≤ 255 → 1 ≤ lo → hi ≤ 281474976710655 → (eqb a ρ && leb lo s && leb s hi) ≡ ((leb a 255 && leb 1 s && leb s 281474976710655) && (leb (ρ * 281474976710656 + lo) (a * 281474976710656 + s) && leb (a * 281474976710656 + s) (ρ * 281474976710656 + hi)))
in_is a s ρ lo hi p q r = grind (arith, nat_tests)

and_false : (a : Bool) → false ≡ (a && false)
and_false true = refl
and_false false = refl

-- runs have the dots whose places they go through
pub covers_is : (rs : List Run) → are_maximal rs ≡ true → (d : Dot) → runs_cover rs d ≡ (is_dot d && has rs (dot_place d.replica d.seq))
covers_is [] max d = and_false (is_dot d)
covers_is (r ∷ rs) max d =
    let p = run_parts r rs max in
    let b = p.bounds in
    ap (λ x. x || runs_cover rs d) (in_is d.replica d.seq r.replica r.lo r.hi b.small b.one b.most)
    ∙ ap (λ x. (is_dot d && spans r (dot_place d.replica d.seq)) || x) (covers_is rs p.rest d)
    ∙ sym (and-or_distrib_left (is_dot d) _ _)
