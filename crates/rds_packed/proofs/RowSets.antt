-- The set that rows stand for: its dots and its runs.
use Rattle.std.proofs.Common.{min, ◌≡◌, ℕ, ◌+◌, ◌-◌, ◌<◌, ◌≤◌, Bool, true, false, ◌&&◌, ◌||◌, eqb, leb, List, [], ◌∷◌, refl, sym, ap, ◌∙◌, arith, ◌⊎◌, inl, inr}
use Rattle.std.specs.List.{flat_map, AllByRecursion}
use Rattle.std.specs.FinSet as set
use Rattle.std.specs.Ordering.{eq_by_cmp}
use Rattle.std.proofs.Math.Nat.{min-le_left, min-le_right}
use Rattle.std.proofs.lemmas.Bool.{cases_lt, false≢true, or_left, or_right}
use Rattle.std.proofs.lemmas.Bool.Decides.{nat_tests}
use Rattle.std.proofs.lemmas.List.Folds.{list_any-append}
use Rattle.std.proofs.lemmas.List.Concat.{flat_map-cons}
use Rattle.rds_dots.specs.declared.dot.Dot.{Dot}
use Rattle.rds_dots.specs.declared.dot.Run.{Run}
use Rattle.rds_dots.specs.Dots.{Dots, IsRun, dot_cmp, in_run, is_dot, last_of}
use Rattle.rds_dots.specs.Listed.{lists, dots_of}
use Rattle.rds_dots.specs.Order.{dots_total, dots_exact}
use Rattle.rds_dots.specs.RunFacts.{Bounds, run_parts}
use Rattle.rds_dots.specs.Runs.{runs_cover, are_maximal, runs_of}
use Rattle.rds_dots.specs.RunsOf.{are_runs, runs_are, covered_is_dot}
use Rattle.rds_dots.specs.Sets.{contains_list, dot_limits, lists-run}
use Rattle.rds_bytes.specs.declared.dots.Gap.{Gap}
use Rattle.rds_bytes.specs.declared.dots.DotRow.{DotRow}
use Rattle.rds_bytes.specs.Values.{AreDotsOf}
use Rattle.rds_bytes.specs.DotRows.{rows_from}
use Rattle.rds_bytes.specs.RowDots.{runs_between, row_runs, dots_of_runs, dots_of_rows}
use Rattle.rds_bytes.specs.SetRows.{RowsStand}
use Rattle.rds_packed.proofs.RowAlgebra.{rows_opens, rows_back, runs_back, rows_stand, before_some, before_none}

is_run_of : (r : Run) → Bounds r → IsRun r
is_run_of r b = record { from_one = b.one; rises = b.rises; within = b.most }

-- ---- the dots

lists-runs : (rs : List Run) → are_maximal rs ≡ true → (d : Dot) → lists (flat_map dots_of rs) d ≡ runs_cover rs d
lists-runs [] max d = refl
lists-runs (r ∷ rs) max d =
    let p = run_parts r rs max in
    ap (λ (ds : List Dot). lists ds d) (flat_map-cons dots_of r rs)
    ∙ list_any-append (eq_by_cmp dot_cmp d) (dots_of r) (flat_map dots_of rs)
    ∙ (λ i. lists-run r (is_run_of r p.bounds) d i || lists-runs rs p.rest d i)

pub contains-runs : (rs : List Run) → are_maximal rs ≡ true → (d : Dot) → set.contains (dots_of_runs rs) d ≡ runs_cover rs d
unfolding dots_of_runs
contains-runs rs max d = contains_list (flat_map dots_of rs) d ∙ lists-runs rs max d

-- so these are its maximal runs
pub runs_of-runs : (rs : List Run) → are_maximal rs ≡ true → runs_of (dots_of_runs rs) ≡ rs
runs_of-runs rs max = runs_are (dots_of_runs rs) rs (record { maximal = max; same = λ d. sym (contains-runs rs max d) })

-- ---- rows that stand, and sets of dots

-- a dot of a run of maximal runs
small_runs : (numbers : ℕ) (rs : List Run) → are_maximal rs ≡ true → ((d : Dot) → runs_cover rs d ≡ true → d.replica < numbers) → AllByRecursion (λ (r : Run). r.replica < numbers) rs
small_runs numbers [] max small = tt
small_runs numbers (r ∷ rs) max small =
    let p = run_parts r rs max in
    let b = p.bounds in
    (small (last_of r) (or_left _ _ (in_last r.replica r.lo r.hi b.rises)), small_runs numbers rs p.rest (λ d h. small d (or_right (in_run r d) _ h)))
  where
    in_last : (ρ lo hi : ℕ) → lo ≤ hi → (eqb ρ ρ && leb lo hi && leb hi hi) ≡ true
    in_last ρ lo hi le = grind (arith, nat_tests)

-- how many of so many replicas have a number that a byte can hold
abbrev pub numbers : ℕ → ℕ
numbers replicas = min replicas 256

pub few : (replicas : ℕ) → numbers replicas ≤ 256
few replicas = min-le_right replicas 256

pub numbers_below : (replicas n : ℕ) → n < numbers replicas → n < replicas
numbers_below replicas n lt = omega (arith, min-le_left replicas 256, lt)

pub numbers_of : (replicas n : ℕ) → n < 256 → n < replicas → n < numbers replicas
numbers_of replicas n small lt = omega arith

number_small : (replicas : ℕ) (d : Dot) → (is_dot d ≡ true) × (d.replica < replicas) → d.replica < numbers replicas
number_small replicas d h = let small = (dot_limits d h.0).small in numbers_of replicas d.replica (omega arith) h.1

pub dots_there : (replicas : ℕ) (s : Dots) → AreDotsOf replicas s → RowsStand (numbers replicas) 0 (rows_from 0 (runs_of s)) × (dots_of_rows (rows_from 0 (runs_of s)) ≡ s)
dots_there replicas s are =
    let runs = are_runs s (λ d h. (are d h).0) in
    let max = runs.maximal in
    let small = small_runs (numbers replicas) (runs_of s) max (λ d h. number_small replicas d (are d (sym (runs.same d) ∙ h))) in (
      rows_stand (numbers replicas) (runs_of s) 0 small max,
      ap dots_of_runs (runs_back (runs_of s) max) ∙ set.same_set dots_total dots_exact (dots_of_runs (runs_of s)) s (λ d. contains-runs (runs_of s) max d ∙ runs.same d),
    )

or_cases : (a b : Bool) → (a || b) ≡ true → (a ≡ true) ⊎ (b ≡ true)
or_cases true b h = inl refl
or_cases false b h = inr h

in_run_replica : (a s ρ lo hi : ℕ) → (eqb a ρ && leb lo s && leb s hi) ≡ true → a ≡ ρ
in_run_replica a s ρ lo hi h = grind (arith, nat_tests)

between_replica : (ρ top : ℕ) (gs : List Gap) (from : ℕ) (d : Dot) → runs_cover (runs_between ρ from top gs) d ≡ true → d.replica ≡ ρ
between_replica ρ top [] from d h = elim (or_cases _ _ h) [ inl x ↦ in_run_replica d.replica d.seq ρ from top x | inr y ↦ absurd (false≢true y) ]
between_replica ρ top (g ∷ gs) from d h =
    let rest : List Run = runs_between ρ (g.hi + 1) top gs in
    elim (cases_lt from g.lo) [
      | inl lt ↦ elim (or_cases _ _ (sym (ap (λ (rs : List Run). runs_cover rs d) (before_some ρ from g.lo rest lt)) ∙ h)) [
        | inl x ↦ in_run_replica d.replica d.seq ρ from (g.lo - 1) x
        | inr y ↦ between_replica ρ top gs (g.hi + 1) d y
      ]
      | inr ge ↦ between_replica ρ top gs (g.hi + 1) d (sym (ap (λ (rs : List Run). runs_cover rs d) (before_none ρ from g.lo rest ge)) ∙ h)
    ]

rows_replica : (numbers : ℕ) (rows : List DotRow) (least : ℕ) → RowsStand numbers least rows → (d : Dot) → runs_cover (flat_map row_runs rows) d ≡ true → d.replica < numbers
rows_replica numbers [] least stand d h = absurd (false≢true h)
rows_replica numbers (r ∷ rows) least stand d h =
    let parts = sym (ap (λ (rs : List Run). runs_cover rs d) (flat_map-cons row_runs r rows) ∙ list_any-append (λ (x : Run). in_run x d) (row_runs r) (flat_map row_runs rows)) ∙ h in
    elim (or_cases _ _ parts) [
      | inl x ↦ (let e = between_replica r.replica r.top r.gaps 1 d x in let lt = stand.0.1.0 in omega arith)
      | inr y ↦ rows_replica numbers rows (r.replica + 1) stand.1 d y
    ]

pub dots_back : (replicas : ℕ) (rows : List DotRow) → RowsStand (numbers replicas) 0 rows → AreDotsOf replicas (dots_of_rows rows) × (rows_from 0 (runs_of (dots_of_rows rows)) ≡ rows)
dots_back replicas rows stand =
    let n = numbers replicas in
    let rs : List Run = flat_map row_runs rows in
    let max = (rows_opens n (few replicas) rows 0 stand).maximal in (
      (λ d h. (let covered : runs_cover rs d ≡ true = sym (contains-runs rs max d) ∙ h in (covered_is_dot rs max d covered, numbers_below replicas d.replica (rows_replica n rows 0 stand d covered)))),
      ap (rows_from 0) (runs_of-runs rs max) ∙ rows_back n rows 0 stand,
    )
