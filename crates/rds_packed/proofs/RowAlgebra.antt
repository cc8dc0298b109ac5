-- The rows of a set of dots and its maximal runs give each other.
use Rattle.std.proofs.Common.{◌≡◌, ℕ, ◌+◌, ◌-◌, ◌*◌, ◌<◌, ◌≤◌, ◌≢◌, true, false, eqb, List, [], ◌∷◌, ◌++◌, refl, sym, ap, ◌∙◌, subst, arith, inl, inr}
use Rattle.std.specs.List.{flat_map, AllByRecursion}
use Rattle.std.proofs.lemmas.Bool.{cases_lt, lt-ltb, le-ltb, eq-eqb}
use Rattle.std.proofs.lemmas.Bool.Decides.{eqb_tells}
use Rattle.std.proofs.lemmas.List.Concat.{flat_map-cons}
use Rattle.rds_dots.specs.declared.dot.Run.{Run}
use Rattle.rds_dots.specs.Runs.{dot_place, start, stop, begins_past, are_maximal}
use Rattle.rds_dots.specs.RunFacts.{Bounds, run_parts, maximal_by, lt_of, lt_by}
use Rattle.rds_bytes.specs.declared.dots.Gap.{Gap}
use Rattle.rds_bytes.specs.declared.dots.DotRow.{DotRow}
use Rattle.rds_bytes.specs.DotRows.{a_gap, gap_before, gaps_in, top_in, row_in, rows_from}
use Rattle.rds_bytes.specs.RowDots.{run_before, runs_between, row_runs}
use Rattle.rds_bytes.specs.SetRows.{GapsStand, RowStands, RowsStand}

abbrev pub a_run : ℕ → ℕ → ℕ → Run
a_run replica lo hi = record { replica = replica; lo = lo; hi = hi }

abbrev pub a_row : ℕ → ℕ → List Gap → DotRow
a_row replica top gaps = record { replica = replica; top = top; gaps = gaps }

-- ---- one step of each function

pub ne_eqb : (a b : ℕ) → a ≢ b → eqb a b ≡ false
ne_eqb a b ne = elim (eqb_tells a b) [ inl x ↦ absurd (ne x.1) | inr y ↦ y.0 ]

pub before_some : (ρ from lo : ℕ) (rs : List Run) → from < lo → run_before ρ from lo rs ≡ a_run ρ from (lo - 1) ∷ rs
before_some ρ from lo rs lt = let e = lt-ltb from lo lt in rw e refl

pub before_none : (ρ from lo : ℕ) (rs : List Run) → lo ≤ from → run_before ρ from lo rs ≡ rs
before_none ρ from lo rs le = let e = le-ltb from lo le in rw e refl

pub gap_some : (least lo : ℕ) (gs : List Gap) → least < lo → gap_before least lo gs ≡ a_gap least (lo - 1) ∷ gs
gap_some least lo gs lt = let e = lt-ltb least lo lt in rw e refl

pub gap_none : (least lo : ℕ) (gs : List Gap) → lo ≤ least → gap_before least lo gs ≡ gs
gap_none least lo gs le = let e = le-ltb least lo le in rw e refl

pub gaps_same : (ρ least : ℕ) (r : Run) (rs : List Run) → r.replica ≡ ρ → gaps_in ρ least (r ∷ rs) ≡ gap_before least r.lo (gaps_in ρ (r.hi + 1) rs)
gaps_same ρ least r rs e = let t = eq-eqb r.replica ρ e in rw t refl

pub gaps_other : (ρ least : ℕ) (r : Run) (rs : List Run) → r.replica ≢ ρ → gaps_in ρ least (r ∷ rs) ≡ []
gaps_other ρ least r rs e = let t = ne_eqb r.replica ρ e in rw t refl

pub top_same : (ρ top : ℕ) (r : Run) (rs : List Run) → r.replica ≡ ρ → top_in ρ top (r ∷ rs) ≡ top_in ρ r.hi rs
top_same ρ top r rs e = let t = eq-eqb r.replica ρ e in rw t refl

pub top_other : (ρ top : ℕ) (r : Run) (rs : List Run) → r.replica ≢ ρ → top_in ρ top (r ∷ rs) ≡ top
top_other ρ top r rs e = let t = ne_eqb r.replica ρ e in rw t refl

pub rows_skip : (least : ℕ) (r : Run) (rs : List Run) → r.replica < least → rows_from least (r ∷ rs) ≡ rows_from least rs
rows_skip least r rs lt = let t = lt-ltb r.replica least lt in rw t refl

pub rows_open : (least : ℕ) (r : Run) (rs : List Run) → least ≤ r.replica → rows_from least (r ∷ rs) ≡ row_in r rs ∷ rows_from (r.replica + 1) rs
rows_open least r rs le = let t = le-ltb r.replica least le in rw t refl

-- ---- runs of rows that stand are maximal

pub record Opens (ρ from : ℕ) (rs : List Run) : Type 0 where
  pub maximal : are_maximal rs ≡ true
  pub begins : (n : ℕ) → n < dot_place ρ from → begins_past n rs ≡ true

run_bounds : (ρ lo hi : ℕ) → ρ ≤ 255 → 1 ≤ lo → lo ≤ hi → hi ≤ 281474976710655 → Bounds (a_run ρ lo hi)
run_bounds ρ lo hi p q r s = record { small = p; one = q; rises = r; most = s }

one_opens : (ρ lo hi : ℕ) (rs : List Run) → ρ ≤ 255 → 1 ≤ lo → lo ≤ hi → hi ≤ 281474976710655 → are_maximal rs ≡ true → begins_past (dot_place ρ hi + 1) rs ≡ true → Opens ρ lo (a_run ρ lo hi ∷ rs)
one_opens ρ lo hi rs p q r s max begins = record {
  maximal = maximal_by (a_run ρ lo hi) rs (run_bounds ρ lo hi p q r s) begins max;
  begins = λ n lt. lt_by n (dot_place ρ lo) lt;
}

pub between_opens : (ρ top : ℕ) (more : List Run) → ρ ≤ 255 → top ≤ 281474976710655 → are_maximal more ≡ true → begins_past (dot_place ρ top + 1) more ≡ true
    → (gs : List Gap) (from least : ℕ) → 1 ≤ from → from ≤ least → from ≤ top → GapsStand least top gs → Opens ρ from (runs_between ρ from top gs ++ more)
between_opens ρ top more p q max begins [] from least one le low stand = one_opens ρ from top more p one low q max begins
between_opens ρ top more p q max begins (g ∷ gs) from least one le low stand =
    let lo = stand.0.0 in
    let rise = stand.0.1.0 in
    let below = stand.0.1.1 in
    let later = between_opens ρ top more p q max begins gs (g.hi + 1) (g.hi + 2) (omega arith) (omega arith) (omega arith) stand.1 in
    let rest : List Run = runs_between ρ (g.hi + 1) top gs ++ more in
    elim (cases_lt from g.lo) [
      | inl lt ↦ (
          let made = one_opens ρ from (g.lo - 1) rest p one (omega arith) (omega arith) later.maximal (later.begins (dot_place ρ (g.lo - 1) + 1) (omega arith)) in
          subst (λ (rs : List Run). Opens ρ from (rs ++ more)) (sym (before_some ρ from g.lo (runs_between ρ (g.hi + 1) top gs) lt)) made)
      | inr ge ↦ (
          let made : Opens ρ from rest = record { maximal = later.maximal; begins = λ n h. later.begins n (omega arith) } in
          subst (λ (rs : List Run). Opens ρ from (rs ++ more)) (sym (before_none ρ from g.lo (runs_between ρ (g.hi + 1) top gs) ge)) made)
    ]

-- what rows from a replica on have begins where its dots do
pub rows_opens : (numbers : ℕ) → numbers ≤ 256 → (rows : List DotRow) (least : ℕ) → RowsStand numbers least rows → Opens least 1 (flat_map row_runs rows)
rows_opens numbers few [] least stand = record { maximal = refl; begins = λ n h. refl }
rows_opens numbers few (r ∷ rows) least stand =
    let low = stand.0.0 in
    let row = stand.0.1 in
    let number = row.0 in
    let later = rows_opens numbers few rows (r.replica + 1) stand.1 in
    let top = row.1.1.0 in
    let made = between_opens r.replica r.top (flat_map row_runs rows) (omega arith) top later.maximal (later.begins (dot_place r.replica r.top + 1) (omega arith)) r.gaps 1 1 (omega arith) (omega arith) row.1.0 row.1.1.1 in
    let all : Opens least 1 (row_runs r ++ flat_map row_runs rows) = record { maximal = made.maximal; begins = λ n h. made.begins n (omega arith) } in
    subst (λ (rs : List Run). Opens least 1 rs) (sym (flat_map-cons row_runs r rows)) all

-- ---- the rows of the runs of rows that stand are these rows

-- the runs that follow are of another replica
pub record Others (ρ : ℕ) (rs : List Run) : Type 0 where
  pub no_gaps : (least : ℕ) → gaps_in ρ least rs ≡ []
  pub no_top : (top : ℕ) → top_in ρ top rs ≡ top

same_gap : (g : Gap) (lo hi : ℕ) → lo ≡ g.lo → hi ≡ g.hi → a_gap lo hi ≡ g
same_gap g lo hi p q i = record { lo = p i; hi = q i }

-- with a gap that is still open before them
gaps_open : (ρ top : ℕ) (more : List Run) → Others ρ more → (gs : List Gap) (edge from : ℕ) → edge < from → GapsStand (from + 1) top gs → gaps_in ρ edge (runs_between ρ from top gs ++ more) ≡ a_gap edge (from - 1) ∷ gs
gaps_open ρ top more others [] edge from lt stand =
    gaps_same ρ edge (a_run ρ from top) more refl ∙ gap_some edge from (gaps_in ρ (top + 1) more) lt ∙ ap (λ (gs : List Gap). a_gap edge (from - 1) ∷ gs) (others.no_gaps (top + 1))
gaps_open ρ top more others (g ∷ gs) edge from lt stand =
    let lo = stand.0.0 in
    let rise = stand.0.1.0 in
    let rest : List Run = runs_between ρ (g.hi + 1) top gs in
    let some = before_some ρ from g.lo rest (omega arith) in
    let next : g.lo - 1 + 1 ≡ g.lo = omega arith in
    let later : gaps_in ρ (g.lo - 1 + 1) (rest ++ more) ≡ a_gap g.lo (g.hi + 1 - 1) ∷ gs =
    ap (λ n. gaps_in ρ n (rest ++ more)) next ∙ gaps_open ρ top more others gs g.lo (g.hi + 1) (omega arith) (subst (λ n. GapsStand n top gs) (omega arith) stand.1) in
    ap (λ (rs : List Run). gaps_in ρ edge (rs ++ more)) some
    ∙ gaps_same ρ edge (a_run ρ from (g.lo - 1)) (rest ++ more) refl
    ∙ gap_some edge from (gaps_in ρ (g.lo - 1 + 1) (rest ++ more)) lt
    ∙ ap (λ (es : List Gap). a_gap edge (from - 1) ∷ es) (later ∙ ap (λ (x : Gap). x ∷ gs) (same_gap g g.lo (g.hi + 1 - 1) refl (omega arith)))

gaps_back : (ρ top : ℕ) (more : List Run) → Others ρ more → (gs : List Gap) → GapsStand 1 top gs → gaps_in ρ 1 (runs_between ρ 1 top gs ++ more) ≡ gs
gaps_back ρ top more others [] stand =
    gaps_same ρ 1 (a_run ρ 1 top) more refl ∙ gap_none 1 1 (gaps_in ρ (top + 1) more) (omega arith) ∙ others.no_gaps (top + 1)
gaps_back ρ top more others (g ∷ gs) stand =
    let lo = stand.0.0 in
    let rise = stand.0.1.0 in
    let rest : List Run = runs_between ρ (g.hi + 1) top gs in
    let later = subst (λ n. GapsStand n top gs) (omega arith) stand.1 in
    elim (cases_lt 1 g.lo) [
      | inl lt ↦ (
          let next : g.lo - 1 + 1 ≡ g.lo = omega arith in
          ap (λ (rs : List Run). gaps_in ρ 1 (rs ++ more)) (before_some ρ 1 g.lo rest lt)
          ∙ gaps_same ρ 1 (a_run ρ 1 (g.lo - 1)) (rest ++ more) refl
          ∙ gap_none 1 1 (gaps_in ρ (g.lo - 1 + 1) (rest ++ more)) (omega arith)
          ∙ ap (λ n. gaps_in ρ n (rest ++ more)) next
          ∙ gaps_open ρ top more others gs g.lo (g.hi + 1) (omega arith) later
          ∙ ap (λ (x : Gap). x ∷ gs) (same_gap g g.lo (g.hi + 1 - 1) refl (omega arith)))
      | inr ge ↦
          ap (λ (rs : List Run). gaps_in ρ 1 (rs ++ more)) (before_none ρ 1 g.lo rest ge)
          ∙ gaps_open ρ top more others gs 1 (g.hi + 1) (omega arith) later
          ∙ ap (λ (x : Gap). x ∷ gs) (same_gap g 1 (g.hi + 1 - 1) (omega arith) (omega arith))
    ]

top_back : (ρ top : ℕ) (more : List Run) → Others ρ more → (gs : List Gap) (from t : ℕ) → top_in ρ t (runs_between ρ from top gs ++ more) ≡ top
top_back ρ top more others [] from t = top_same ρ t (a_run ρ from top) more refl ∙ others.no_top top
top_back ρ top more others (g ∷ gs) from t =
    let rest : List Run = runs_between ρ (g.hi + 1) top gs in
    elim (cases_lt from g.lo) [
      | inl lt ↦ ap (λ (rs : List Run). top_in ρ t (rs ++ more)) (before_some ρ from g.lo rest lt) ∙ top_same ρ t (a_run ρ from (g.lo - 1)) (rest ++ more) refl ∙ top_back ρ top more others gs (g.hi + 1) (g.lo - 1)
      | inr ge ↦ ap (λ (rs : List Run). top_in ρ t (rs ++ more)) (before_none ρ from g.lo rest ge) ∙ top_back ρ top more others gs (g.hi + 1) t
    ]

skip_back : (ρ top : ℕ) (more : List Run) (gs : List Gap) (from : ℕ) → rows_from (ρ + 1) (runs_between ρ from top gs ++ more) ≡ rows_from (ρ + 1) more
skip_back ρ top more [] from = rows_skip (ρ + 1) (a_run ρ from top) more (omega arith)
skip_back ρ top more (g ∷ gs) from =
    let rest : List Run = runs_between ρ (g.hi + 1) top gs in
    elim (cases_lt from g.lo) [
      | inl lt ↦ ap (λ (rs : List Run). rows_from (ρ + 1) (rs ++ more)) (before_some ρ from g.lo rest lt) ∙ rows_skip (ρ + 1) (a_run ρ from (g.lo - 1)) (rest ++ more) (omega arith) ∙ skip_back ρ top more gs (g.hi + 1)
      | inr ge ↦ ap (λ (rs : List Run). rows_from (ρ + 1) (rs ++ more)) (before_none ρ from g.lo rest ge) ∙ skip_back ρ top more gs (g.hi + 1)
    ]

-- a list that begins with a run of the replica
pub record Begins (ρ : ℕ) (rs : List Run) : Type 0 where
  pub first : Run
  pub rest : List Run
  pub is : rs ≡ first ∷ rest
  pub of : first.replica ≡ ρ

pub between_begins : (ρ top : ℕ) (more : List Run) (gs : List Gap) (from : ℕ) → Begins ρ (runs_between ρ from top gs ++ more)
between_begins ρ top more [] from = record { first = a_run ρ from top; rest = more; is = refl; of = refl }
between_begins ρ top more (g ∷ gs) from =
    let rest : List Run = runs_between ρ (g.hi + 1) top gs in
    elim (cases_lt from g.lo) [
      | inl lt ↦ record { first = a_run ρ from (g.lo - 1); rest = rest ++ more; is = ap (λ (rs : List Run). rs ++ more) (before_some ρ from g.lo rest lt); of = refl }
      | inr ge ↦ (
          let later = between_begins ρ top more gs (g.hi + 1) in
          record { first = later.first; rest = later.rest; is = ap (λ (rs : List Run). rs ++ more) (before_none ρ from g.lo rest ge) ∙ later.is; of = later.of })
    ]

first_row : (ρ least : ℕ) (rs : List Run) → Begins ρ rs → least ≤ ρ → rows_from least rs ≡ a_row ρ (top_in ρ 0 rs) (gaps_in ρ 1 rs) ∷ rows_from (ρ + 1) rs
first_row ρ least rs b le =
    let r = b.first in
    let of = b.of in
    let Row : List Run → List DotRow = λ (xs : List Run). a_row ρ (top_in ρ 0 xs) (gaps_in ρ 1 xs) ∷ rows_from (ρ + 1) xs in
    let opened = rows_open least r b.rest (omega arith) in
    let tops : top_in r.replica r.hi b.rest ≡ top_in ρ 0 (r ∷ b.rest) = ap (λ n. top_in n r.hi b.rest) of ∙ sym (top_same ρ 0 r b.rest of) in
    let rows : rows_from (r.replica + 1) b.rest ≡ rows_from (ρ + 1) (r ∷ b.rest) = ap (λ n. rows_from (n + 1) b.rest) of ∙ sym (rows_skip (ρ + 1) r b.rest (omega arith)) in
    let made : row_in r b.rest ∷ rows_from (r.replica + 1) b.rest ≡ Row (r ∷ b.rest) =
    λ i. a_row (of i) (tops i) (gaps_in (of i) 1 (r ∷ b.rest)) ∷ rows i in
    ap (rows_from least) b.is ∙ opened ∙ made ∙ ap Row (sym b.is)

-- after a row come runs of later replicas
others_by : (ρ τ : ℕ) (rs : List Run) → Begins τ rs → ρ < τ → Others ρ rs
others_by ρ τ rs b lt =
    let of = b.of in
    let ne : b.first.replica ≢ ρ = λ e. omega arith in
    record {
      no_gaps = λ least. ap (gaps_in ρ least) b.is ∙ gaps_other ρ least b.first b.rest ne;
      no_top = λ top. ap (top_in ρ top) b.is ∙ top_other ρ top b.first b.rest ne;
    }

pub others_after : (numbers ρ : ℕ) (rows : List DotRow) → RowsStand numbers (ρ + 1) rows → Others ρ (flat_map row_runs rows)
others_after numbers ρ [] stand = record { no_gaps = λ least. refl; no_top = λ top. refl }
others_after numbers ρ (r ∷ rows) stand =
    let low = stand.0.0 in
    subst (λ (rs : List Run). Others ρ rs) (sym (flat_map-cons row_runs r rows))
    (others_by ρ r.replica (row_runs r ++ flat_map row_runs rows) (between_begins r.replica r.top (flat_map row_runs rows) r.gaps 1) (omega arith))

pub rows_back : (numbers : ℕ) (rows : List DotRow) (least : ℕ) → RowsStand numbers least rows → rows_from least (flat_map row_runs rows) ≡ rows
rows_back numbers [] least stand = refl
rows_back numbers (r ∷ rows) least stand =
    let ρ = r.replica in
    let more : List Run = flat_map row_runs rows in
    let all : List Run = row_runs r ++ more in
    let others = others_after numbers ρ rows stand.1 in
    let low = stand.0.0 in
    let opened = first_row ρ least all (between_begins ρ r.top more r.gaps 1) low in
    let tops : top_in ρ 0 all ≡ r.top = top_back ρ r.top more others r.gaps 1 0 in
    let gaps : gaps_in ρ 1 all ≡ r.gaps = gaps_back ρ r.top more others r.gaps stand.0.1.1.1.1 in
    let later : rows_from (ρ + 1) all ≡ rows = skip_back ρ r.top more r.gaps 1 ∙ rows_back numbers rows (ρ + 1) stand.1 in
    ap (rows_from least) (flat_map-cons row_runs r rows) ∙ opened ∙ (λ i. a_row ρ (tops i) (gaps i) ∷ later i)

-- ---- the runs of the rows of maximal runs are these runs

same_run : (r : Run) (replica lo hi : ℕ) → replica ≡ r.replica → lo ≡ r.lo → hi ≡ r.hi → a_run replica lo hi ≡ r
same_run r replica lo hi p q e i = record { replica = p i; lo = q i; hi = e i }

-- what comes after a run of another replica is of a later one
later_replica : (a s b t : ℕ) → 1 ≤ t → t ≤ 281474976710655 → s ≤ 281474976710655 → a * 281474976710656 + s + 1 < b * 281474976710656 + t → b ≢ a → a < b
later_replica a s b t p q r lt ne = omega arith

later_lo : (a s b t : ℕ) → b ≡ a → a * 281474976710656 + s + 1 < b * 281474976710656 + t → s + 1 < t
later_lo a s b t e lt = omega arith

later_or_same : (a s b t : ℕ) → t ≤ 281474976710655 → a * 281474976710656 + s + 1 < b * 281474976710656 + t → a ≤ b
later_or_same a s b t q lt = omega arith

-- a replica's row begins at 1, with a gap where its first run doesn't
opening : (ρ lo top : ℕ) (gs : List Gap) (more : List Run) → 1 ≤ lo → runs_between ρ 1 top (gap_before 1 lo gs) ++ more ≡ runs_between ρ lo top gs ++ more
opening ρ lo top gs more one =
    let Runs : List Gap → List Run = λ (es : List Gap). runs_between ρ 1 top es ++ more in
    elim (cases_lt 1 lo) [
      | inl lt ↦ (
          let next : lo - 1 + 1 ≡ lo = omega arith in
          ap Runs (gap_some 1 lo gs lt) ∙ ap (λ (rs : List Run). rs ++ more) (before_none ρ 1 1 (runs_between ρ (lo - 1 + 1) top gs) (omega arith)) ∙ ap (λ n. runs_between ρ n top gs ++ more) next)
      | inr ge ↦ (let is : 1 ≡ lo = omega arith in ap Runs (gap_none 1 lo gs ge) ∙ ap (λ n. runs_between ρ n top gs ++ more) is)
    ]

abbrev later_rows : ℕ → List Run → List Run
later_rows ρ rs = flat_map row_runs (rows_from (ρ + 1) rs)

runs_again : (r : Run) (rs : List Run) → are_maximal (r ∷ rs) ≡ true → runs_between r.replica r.lo (top_in r.replica r.hi rs) (gaps_in r.replica (r.hi + 1) rs) ++ later_rows r.replica rs ≡ r ∷ rs
runs_again r [] max = refl
runs_again r (t ∷ ts) max =
    let ρ = r.replica in
    let p = run_parts r (t ∷ ts) max in
    let b = p.bounds in
    let c = (run_parts t ts p.rest).bounds in
    let most = b.most in
    let t-one = c.one in
    let t-rises = c.rises in
    let t-most = c.most in
    let lt : stop r + 1 < start t = lt_of (stop r + 1) (start t) p.apart in
    let again = runs_again t ts p.rest in
    elim (eqb_tells t.replica ρ) [
      | inl same ↦ (
          let e = same.1 in
          let past : r.hi + 1 < t.lo = later_lo r.replica r.hi t.replica t.lo e lt in
          let top = top_in ρ t.hi ts in
          let gs = gaps_in ρ (t.hi + 1) ts in
          let more = later_rows ρ ts in
          let rest : List Run = runs_between ρ (t.lo - 1 + 1) top gs in
          let tops : top_in ρ r.hi (t ∷ ts) ≡ top = top_same ρ r.hi t ts e in
          let gaps : gaps_in ρ (r.hi + 1) (t ∷ ts) ≡ a_gap (r.hi + 1) (t.lo - 1) ∷ gs = gaps_same ρ (r.hi + 1) t ts e ∙ gap_some (r.hi + 1) t.lo gs past in
          let rows : later_rows ρ (t ∷ ts) ≡ more = ap (λ (x : List DotRow). flat_map row_runs x) (rows_skip (ρ + 1) t ts (omega arith)) in
          let rises = b.rises in
          let first : run_before ρ r.lo (r.hi + 1) rest ≡ r ∷ rest = before_some ρ r.lo (r.hi + 1) rest (omega arith) ∙ ap (λ (x : Run). x ∷ rest) (same_run r ρ r.lo (r.hi + 1 - 1) refl refl (omega arith)) in
          let next : t.lo - 1 + 1 ≡ t.lo = omega arith in
          let ours : runs_between ρ (t.lo - 1 + 1) top gs ++ more ≡ t ∷ ts =
          ap (λ n. runs_between ρ n top gs ++ more) next
          ∙ ap (λ n. runs_between n t.lo (top_in n t.hi ts) (gaps_in n (t.hi + 1) ts) ++ later_rows n ts) (sym e) ∙ again in
          (λ i. runs_between ρ r.lo (tops i) (gaps i) ++ rows i) ∙ ap (λ (x : List Run). x ++ more) first ∙ ap (λ (x : List Run). r ∷ x) ours)
      | inr other ↦ (
          let past : ρ < t.replica = later_replica r.replica r.hi t.replica t.lo t-one (omega arith) most lt other.1 in
          let τ = t.replica in
          let top = top_in τ t.hi ts in
          let gs = gaps_in τ (t.hi + 1) ts in
          let tops : top_in ρ r.hi (t ∷ ts) ≡ r.hi = top_other ρ r.hi t ts other.1 in
          let gaps : gaps_in ρ (r.hi + 1) (t ∷ ts) ≡ [] = gaps_other ρ (r.hi + 1) t ts other.1 in
          let own : gaps_in τ 1 (t ∷ ts) ≡ gap_before 1 t.lo gs = gaps_same τ 1 t ts refl in
          let rows : later_rows ρ (t ∷ ts) ≡ t ∷ ts =
          ap (λ (x : List DotRow). flat_map row_runs x) (rows_open (ρ + 1) t ts (omega arith))
          ∙ flat_map-cons row_runs (row_in t ts) (rows_from (τ + 1) ts)
          ∙ ap (λ (x : List Gap). runs_between τ 1 top x ++ later_rows τ ts) own
          ∙ opening τ t.lo top gs (later_rows τ ts) t-one ∙ again in
          λ i. runs_between ρ r.lo (tops i) (gaps i) ++ rows i)
    ]

pub runs_back : (rs : List Run) → are_maximal rs ≡ true → flat_map row_runs (rows_from 0 rs) ≡ rs
runs_back [] max = refl
runs_back (r ∷ rs) max =
    let ρ = r.replica in
    let b = (run_parts r rs max).bounds in
    let top = top_in ρ r.hi rs in
    let gs = gaps_in ρ (r.hi + 1) rs in
    ap (λ (x : List DotRow). flat_map row_runs x) (rows_open 0 r rs (omega arith))
    ∙ flat_map-cons row_runs (row_in r rs) (rows_from (ρ + 1) rs)
    ∙ ap (λ (x : List Gap). runs_between ρ 1 top x ++ later_rows ρ rs) (gaps_same ρ 1 r rs refl)
    ∙ opening ρ r.lo top gs (later_rows ρ rs) b.one
    ∙ runs_again r rs max

-- ---- the rows of maximal runs stand

record Tops (ρ hi top : ℕ) : Type 0 where
  low : hi ≤ top
  most : top ≤ 281474976710655

tops_of : (r : Run) (rs : List Run) → are_maximal (r ∷ rs) ≡ true → Tops r.replica r.hi (top_in r.replica r.hi rs)
tops_of r [] max = (let b = (run_parts r [] max).bounds in record { low = omega arith; most = b.most })
tops_of r (t ∷ ts) max =
    let ρ = r.replica in
    let p = run_parts r (t ∷ ts) max in
    let b = p.bounds in
    let c = (run_parts t ts p.rest).bounds in
    let t-rises = c.rises in
    let lt : stop r + 1 < start t = lt_of (stop r + 1) (start t) p.apart in
    let again = tops_of t ts p.rest in
    let low = again.low in
    elim (eqb_tells t.replica ρ) [
      | inl same ↦ (
          let e = same.1 in
          let past : r.hi + 1 < t.lo = later_lo r.replica r.hi t.replica t.lo e lt in
          let is : top_in t.replica t.hi ts ≡ top_in ρ r.hi (t ∷ ts) = ap (λ n. top_in n t.hi ts) e ∙ sym (top_same ρ r.hi t ts e) in
          let whole : Tops ρ r.hi (top_in t.replica t.hi ts) = record { low = omega arith; most = again.most } in
          subst (λ n. Tops ρ r.hi n) is whole)
      | inr other ↦ (
          let whole : Tops ρ r.hi r.hi = record { low = omega arith; most = b.most } in
          subst (λ n. Tops ρ r.hi n) (sym (top_other ρ r.hi t ts other.1)) whole)
    ]

gaps_stand : (r : Run) (rs : List Run) → are_maximal (r ∷ rs) ≡ true → (least : ℕ) → least ≤ r.hi + 1 → GapsStand least (top_in r.replica r.hi rs) (gaps_in r.replica (r.hi + 1) rs)
gaps_stand r [] max least le = tt
gaps_stand r (t ∷ ts) max least le =
    let ρ = r.replica in
    let p = run_parts r (t ∷ ts) max in
    let c = (run_parts t ts p.rest).bounds in
    let t-rises = c.rises in
    let lt : stop r + 1 < start t = lt_of (stop r + 1) (start t) p.apart in
    elim (eqb_tells t.replica ρ) [
      | inl same ↦ (
          let e = same.1 in
          let past : r.hi + 1 < t.lo = later_lo r.replica r.hi t.replica t.lo e lt in
          let tops = tops_of t ts p.rest in
          let low = tops.low in
          let again = gaps_stand t ts p.rest (t.lo - 1 + 2) (omega arith) in
          let made : GapsStand least (top_in t.replica t.hi ts) (a_gap (r.hi + 1) (t.lo - 1) ∷ gaps_in t.replica (t.hi + 1) ts) = ((le, (omega arith, omega arith)), again) in
          let top-is : top_in t.replica t.hi ts ≡ top_in ρ r.hi (t ∷ ts) = ap (λ n. top_in n t.hi ts) e ∙ sym (top_same ρ r.hi t ts e) in
          let gaps-are : a_gap (r.hi + 1) (t.lo - 1) ∷ gaps_in t.replica (t.hi + 1) ts ≡ gaps_in ρ (r.hi + 1) (t ∷ ts) =
          ap (λ n. a_gap (r.hi + 1) (t.lo - 1) ∷ gaps_in n (t.hi + 1) ts) e ∙ sym (gaps_same ρ (r.hi + 1) t ts e ∙ gap_some (r.hi + 1) t.lo (gaps_in ρ (t.hi + 1) ts) past) in
          subst (λ (x : List Gap). GapsStand least (top_in ρ r.hi (t ∷ ts)) x) gaps-are (subst (λ n. GapsStand least n (a_gap (r.hi + 1) (t.lo - 1) ∷ gaps_in t.replica (t.hi + 1) ts)) top-is made))
      | inr other ↦ subst (λ (x : List Gap). GapsStand least (top_in ρ r.hi (t ∷ ts)) x) (sym (gaps_other ρ (r.hi + 1) t ts other.1)) tt
    ]

row_stands : (numbers : ℕ) (r : Run) (rs : List Run) → r.replica < numbers → are_maximal (r ∷ rs) ≡ true → RowStands numbers (row_in r rs)
row_stands numbers r rs small max =
    let ρ = r.replica in
    let b = (run_parts r rs max).bounds in
    let tops = tops_of r rs max in
    let rises = b.rises in
    let one = b.one in
    let low = tops.low in
    let top = top_in ρ r.hi rs in
    let gs = gaps_in ρ (r.hi + 1) rs in
    let gaps : GapsStand 1 top (gap_before 1 r.lo gs) = elim (cases_lt 1 r.lo) [
      | inl lt ↦ (
          let made : GapsStand 1 top (a_gap 1 (r.lo - 1) ∷ gs) = ((omega arith, (omega arith, omega arith)), gaps_stand r rs max (r.lo - 1 + 2) (omega arith)) in
          subst (λ (x : List Gap). GapsStand 1 top x) (sym (gap_some 1 r.lo gs lt)) made)
      | inr ge ↦ subst (λ (x : List Gap). GapsStand 1 top x) (sym (gap_none 1 r.lo gs ge)) (gaps_stand r rs max 1 (omega arith))
    ] in
    (small, (omega arith, (tops.most, subst (λ (x : List Gap). GapsStand 1 top x) (sym (gaps_same ρ 1 r rs refl)) gaps)))

pub rows_stand : (numbers : ℕ) (rs : List Run) (least : ℕ) → AllByRecursion (λ (r : Run). r.replica < numbers) rs → are_maximal rs ≡ true → RowsStand numbers least (rows_from least rs)
rows_stand numbers [] least small max = tt
rows_stand numbers (r ∷ rs) least small max =
    let p = run_parts r rs max in
    elim (cases_lt r.replica least) [
      | inl lt ↦ subst (λ (x : List DotRow). RowsStand numbers least x) (sym (rows_skip least r rs lt)) (rows_stand numbers rs least small.1 p.rest)
      | inr ge ↦ (
          let made : RowsStand numbers least (row_in r rs ∷ rows_from (r.replica + 1) rs) = ((ge, row_stands numbers r rs small.0 max), rows_stand numbers rs (r.replica + 1) small.1 p.rest) in
          subst (λ (x : List DotRow). RowsStand numbers least x) (sym (rows_open least r rs ge)) made)
    ]
