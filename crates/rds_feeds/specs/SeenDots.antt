-- A set of dots that is read row by row, and each row gap by gap.
use Rattle.std.specs.Prelude.{ℕ, ◌+◌, ◌≤◌, List, [], ◌∷◌, Option, Some, None, Result, Ok, refl}
use Rattle.std.specs.Coded.{Coded, code_by, coded×, coded_ℕ, coded_option}
use Rattle.std.specs.FinSet as set
use Rattle.rds_names.specs.declared.fault.Fault.{Fault}
use Rattle.rds_dots.specs.declared.dot.Run.{Run}
use Rattle.rds_dots.specs.declared.dot.TheConstants.{MAX_SEQ}
use Rattle.rds_dots.specs.Dots.{Dots}
use Rattle.rds_life.specs.Code.{coded_dots}
use Rattle.rds_bytes.specs.declared.dots.Gap.{Gap}
use Rattle.rds_bytes.specs.declared.dots.DotRow.{DotRow}
use Rattle.rds_bytes.specs.declared.dot_rows.RowHead.{RowHead}
use Rattle.rds_bytes.specs.Reading.{Reader, made_at, gap_at, row_head_at}
use Rattle.rds_bytes.specs.RowDots.{first_after_gap, run_before, row_runs, dots_of_runs}
use Rattle.rds_feeds.specs.Chained.{chain}
use Rattle.rds_feeds.specs.Parts.{makes}
use Rattle.rds_feeds.specs.Rows.{times}

-- the dots of whole rows of so many replicas, and from which replica on the next row may be
pub record RowsValue : Type 0 where
  pub replicas : ℕ
  pub least : ℕ
  pub seen : Dots

-- the dots of whole rows, with those before the last gap that was read of a row
pub record GapsValue : Type 0 where
  pub replicas : ℕ
  pub replica : ℕ
  pub top : ℕ
  pub before : Option Gap
  pub seen : Dots

abbrev pub coded_rows : Coded RowsValue
coded_rows = code_by (ℕ × (ℕ × Dots)) (coded× coded_ℕ (coded× coded_ℕ coded_dots)) (λ r. (r.replicas, (r.least, r.seen)))
    (λ p. record { replicas = p.0; least = p.1.0; seen = p.1.1 }) (λ _. refl)

abbrev coded_gap : Coded Gap
coded_gap = code_by (ℕ × ℕ) (coded× coded_ℕ coded_ℕ) (λ g. (g.lo, g.hi)) (λ p. record { lo = p.0; hi = p.1 }) (λ _. refl)

abbrev GapsParts : Type 0
GapsParts = ℕ × (ℕ × (ℕ × (Option Gap × Dots)))

abbrev pub coded_gaps : Coded GapsValue
coded_gaps = code_by GapsParts (coded× coded_ℕ (coded× coded_ℕ (coded× coded_ℕ (coded× (coded_option coded_gap) coded_dots))))
    (λ g. (g.replicas, (g.replica, (g.top, (g.before, g.seen)))))
    (λ p. record { replicas = p.0; replica = p.1.0; top = p.1.1.0; before = p.1.1.1.0; seen = p.1.1.1.1 }) (λ _. refl)

-- the set with the dots of runs
abbrev pub with_runs : List Run → Dots → Dots
with_runs rs s = set.union (dots_of_runs rs) s

-- a row is begun: how many gaps it has, and none that was read
abbrev pub begin_row : RowsValue → RowHead → ℕ × GapsValue
begin_row r h =
    (h.gaps, record { replicas = r.replicas; replica = h.replica; top = h.top; before = None; seen = r.seen })

-- the next gap was read: the dots before it are there
abbrev pub add_gap : GapsValue → Gap → GapsValue
add_gap g gap = record {
  replicas = g.replicas;
  replica = g.replica;
  top = g.top;
  before = Some gap;
  seen = with_runs (run_before g.replica (first_after_gap g.before) gap.lo []) g.seen;
}

-- all gaps were read: the dots after the last are there too
abbrev pub last_run : GapsValue → Run
last_run g = record { replica = g.replica; lo = first_after_gap g.before; hi = g.top }

abbrev pub end_row : GapsValue → RowsValue
end_row g = record { replicas = g.replicas; least = g.replica + 1; seen = with_runs (last_run g ∷ []) g.seen }

-- a whole row was read
abbrev pub add_row : RowsValue → DotRow → RowsValue
add_row r row = record { replicas = r.replicas; least = row.replica + 1; seen = with_runs (row_runs row) r.seen }

-- the dots after the last gap are some, and within the limit
abbrev pub IsBelowTop : GapsValue → Type 0
IsBelowTop g = (first_after_gap g.before ≤ g.top) × (g.top ≤ MAX_SEQ)

-- how the next gap is read, and the dots before it are put in
abbrev pub next_gap : GapsValue → Reader GapsValue
next_gap g = made_at (add_gap g) (gap_at g.top g.before)

abbrev pub gaps_of : ℕ × GapsValue → Reader GapsValue
gaps_of x = times next_gap x.0 x.1

abbrev pub whole_row : GapsValue → Result RowsValue Fault
whole_row g = Ok (end_row g)

-- how the next row is read, and its dots are put in
abbrev pub next_row : RowsValue → Reader RowsValue
next_row r = makes (chain (made_at (begin_row r) (row_head_at r.replicas r.least)) gaps_of) whole_row
