-- A set of dots in few bytes that is read row by row, and each row gap by gap, is the one that is read at once.
use Rattle.std.proofs.Common.{◌≡◌, ℕ, ◌+◌, ◌-◌, Bool, true, false, cond, List, [], ◌∷◌, ◌++◌, Option, None, Result, Ok, Err, refl, sym, ap, ◌∙◌, append_assoc}
use Rattle.std.specs.Prelude.{nat_lt, ◌^◌}
use Rattle.std.specs.FinSet as set
use Rattle.std.specs.List.{flat_map}
use Rattle.std.proofs.lemmas.List.{append-nil}
use Rattle.std.proofs.lemmas.List.Concat.{flat_map-cons}
use Rattle.rds_names.specs.declared.fault.Fault.{Fault}
use Rattle.rds_dots.specs.declared.dot.Run.{Run}
use Rattle.rds_dots.specs.Dots.{Dots}
use Rattle.rds_bytes.specs.declared.dots.Gap.{Gap}
use Rattle.rds_bytes.specs.declared.dots.DotRow.{DotRow}
use Rattle.rds_bytes.specs.declared.dot_rows.RowHead.{RowHead}
use Rattle.rds_bytes.specs.RowDots.{first_after_gap, run_before, runs_between, row_runs, dots_of_rows}
use Rattle.rds_bytes.specs.Packed.{packed_at}
use Rattle.rds_bytes.specs.Reading.{◌>>=◌, Reader, made_at, last, least_replica, row_by}
use Rattle.rds_bytes.proofs.PartFormats.{last-push}
use Rattle.rds_feeds.specs.Chained.{chain}
use Rattle.rds_feeds.specs.Parts.{makes}
use Rattle.rds_feeds.specs.Rows.{times}
use Rattle.rds_feeds.specs.SeenDots.{RowsValue, GapsValue, with_runs, begin_row, add_gap, end_row, add_row}
use Rattle.rds_packed.specs.SeenReading.{packed_gap_at, packed_gaps_at, packed_head_at, packed_dot_row_at, packed_dot_rows_at, packed_dots_at}
use Rattle.rds_packed.specs.SeenRows.{next_packed_gap, next_packed_row}
use Rattle.rds_packed.proofs.RowsRead.{adding, adding-push, times_are_rows, rows_where, rows_read}
use Rattle.rds_packed.proofs.SeenRuns.{with_both, with_none, with_all}

tested : (r : Run) (rs : List Run) (b : Bool) → cond b (r ∷ []) [] ++ rs ≡ cond b (r ∷ rs) rs
tested r rs true = refl
tested r rs false = refl

before_both : (ρ least lo : ℕ) (rs : List Run) → run_before ρ least lo [] ++ rs ≡ run_before ρ least lo rs
before_both ρ least lo rs = tested (record { replica = ρ; lo = least; hi = lo - 1 }) rs (nat_lt least lo)

module _ {A B : Type 0} (make make' : A → B) (same : (a : A) → make a ≡ make' a) where
  abbrev by_one : A × List ℕ → Result (B × List ℕ) Fault
  by_one a = Ok (make a.0, a.1)

  abbrev by_other : A × List ℕ → Result (B × List ℕ) Fault
  by_other a = Ok (make' a.0, a.1)

  made_same : (r : Result (A × List ℕ) Fault) → (r >>= by_one) ≡ (r >>= by_other)
  made_same (Ok a) = ap (λ (b : B). Ok (b, a.1)) (same a.0)
  made_same (Err e) = refl

-- ---- gaps

gaps_top : (gs : List Gap) (g : GapsValue) → (adding add_gap g gs).top ≡ g.top
gaps_top [] g = refl
gaps_top (x ∷ gs) g = gaps_top gs (add_gap g x)

gaps_last : (gs pre : List Gap) (g : GapsValue) → g.before ≡ last pre → (adding add_gap g gs).before ≡ last (pre ++ gs)
gaps_last [] pre g is = is ∙ ap last (sym (append-nil pre))
gaps_last (x ∷ gs) pre g is = gaps_last gs (pre ++ x ∷ []) (add_gap g x) (sym (last-push pre x)) ∙ ap last (append_assoc pre (x ∷ []) gs)

row_of : GapsValue → List Gap → DotRow
row_of g gs = record { replica = g.replica; top = g.top; gaps = gs }

gaps_end : (gs : List Gap) (g : GapsValue)
    → end_row (adding add_gap g gs) ≡ record { replicas = g.replicas; least = g.replica + 1; seen = with_runs (runs_between g.replica (first_after_gap g.before) g.top gs) g.seen }
gaps_end [] g = refl
gaps_end (x ∷ gs) g =
    let least = first_after_gap g.before in
    let later : List Run = runs_between g.replica (x.hi + 1) g.top gs in
    gaps_end gs (add_gap g x)
    ∙ ap (λ (s : Dots). record { replicas = g.replicas; least = g.replica + 1; seen = s })
    (with_both later (run_before g.replica least x.lo []) g.seen ∙ ap (λ (rs : List Run). with_runs rs g.seen) (before_both g.replica least x.lo later))

module _ (g : GapsValue) (none : g.before ≡ None) where
  gap_same : (before : List Gap) (bytes : List ℕ) → next_packed_gap (adding add_gap g before) bytes ≡ made_at (λ a. adding add_gap g (before ++ a ∷ [])) (packed_gap_at g.top (last before)) bytes
  gap_same before bytes =
      let v = adding add_gap g before in
      ap (λ (t : ℕ). made_at (add_gap v) (packed_gap_at t v.before) bytes) (gaps_top before g)
      ∙ ap (λ (o : Option Gap). made_at (add_gap v) (packed_gap_at g.top o) bytes) (gaps_last before [] g none)
      ∙ made_same (add_gap v) (λ a. adding add_gap g (before ++ a ∷ [])) (λ a. sym (adding-push add_gap g before a)) (packed_gap_at g.top (last before) bytes)

  gaps_read : (n : ℕ) (bytes : List ℕ) → times next_packed_gap n g bytes ≡ made_at (adding add_gap g) (packed_gaps_at g.top n) bytes
  gaps_read n bytes = times_are_rows (λ before. packed_gap_at g.top (last before)) next_packed_gap (adding add_gap g) gap_same n [] bytes

-- ---- rows

module _ (r : RowsValue) where
  abbrev begun : RowHead × List ℕ → Result ((ℕ × GapsValue) × List ℕ) Fault
  begun h = Ok (begin_row r h.0, h.1)

  abbrev then_gaps : (ℕ × GapsValue) × List ℕ → Result (GapsValue × List ℕ) Fault
  then_gaps y = times next_packed_gap y.0.0 y.0.1 y.1

  abbrev then_end : GapsValue × List ℕ → Result (RowsValue × List ℕ) Fault
  then_end g = Ok (end_row g.0, g.1)

  abbrev gaps_made : GapsValue → List Gap × List ℕ → Result (GapsValue × List ℕ) Fault
  gaps_made g b = Ok (adding add_gap g b.0, b.1)

  abbrev with_head : RowHead → List Gap × List ℕ → Result ((RowHead × List Gap) × List ℕ) Fault
  with_head h b = Ok ((h, b.0), b.1)

  abbrev head_gaps : RowHead × List ℕ → Result ((RowHead × List Gap) × List ℕ) Fault
  head_gaps h = packed_gaps_at h.0.top h.0.gaps h.1 >>= with_head h.0

  abbrev row_made : (RowHead × List Gap) × List ℕ → Result (DotRow × List ℕ) Fault
  row_made p = Ok (row_by p.0, p.1)

  abbrev row_added : DotRow × List ℕ → Result (RowsValue × List ℕ) Fault
  row_added row = Ok (add_row r row.0, row.1)

  after_gaps : (h : RowHead) (b : Result (List Gap × List ℕ) Fault) → ((b >>= gaps_made (begin_row r h).1) >>= then_end) ≡ (((b >>= with_head h) >>= row_made) >>= row_added)
  after_gaps h (Ok b) = ap (λ (v : RowsValue). Ok (v, b.1)) (gaps_end b.0 (begin_row r h).1)
  after_gaps h (Err e) = refl

  after_head : (x : Result (RowHead × List ℕ) Fault) → (((x >>= begun) >>= then_gaps) >>= then_end) ≡ (((x >>= head_gaps) >>= row_made) >>= row_added)
  after_head (Ok h) =
      ap (λ (y : Result (GapsValue × List ℕ) Fault). y >>= then_end) (gaps_read (begin_row r h.0).1 refl h.0.gaps h.1) ∙ after_gaps h.0 (packed_gaps_at h.0.top h.0.gaps h.1)
  after_head (Err e) = refl

  row_read : (before : List DotRow) (bytes : List ℕ) → r.least ≡ least_replica (last before) → next_packed_row r bytes ≡ made_at (add_row r) (packed_dot_row_at r.replicas before) bytes
  unfolding packed_dot_row_at
  row_read before bytes least =
      after_head (packed_head_at r.replicas r.least bytes)
      ∙ ap (λ (n : ℕ). ((packed_head_at r.replicas n bytes >>= head_gaps) >>= row_made) >>= row_added) least

rows_replicas : (rows : List DotRow) (r : RowsValue) → (adding add_row r rows).replicas ≡ r.replicas
rows_replicas [] r = refl
rows_replicas (row ∷ rows) r = rows_replicas rows (add_row r row)

rows_least : (rows pre : List DotRow) (r : RowsValue) → r.least ≡ least_replica (last pre) → (adding add_row r rows).least ≡ least_replica (last (pre ++ rows))
rows_least [] pre r is = is ∙ ap (λ (rows : List DotRow). least_replica (last rows)) (sym (append-nil pre))
rows_least (row ∷ rows) pre r is =
    rows_least rows (pre ++ row ∷ []) (add_row r row) (ap least_replica (sym (last-push pre row))) ∙ ap (λ (rows : List DotRow). least_replica (last rows)) (append_assoc pre (row ∷ []) rows)

rows_seen : (rows : List DotRow) (r : RowsValue) → (adding add_row r rows).seen ≡ with_runs (flat_map row_runs rows) r.seen
rows_seen [] r = with_none r.seen
rows_seen (row ∷ rows) r =
    rows_seen rows (add_row r row) ∙ with_both (flat_map row_runs rows) (row_runs row) r.seen ∙ ap (λ (rs : List Run). with_runs rs r.seen) (sym (flat_map-cons row_runs row rows))

-- ---- the set

abbrev pub no_rows : ℕ → RowsValue
no_rows replicas = record { replicas = replicas; least = 0; seen = set.empty }

module _ (replicas : ℕ) where
  abbrev after_rows : List DotRow → RowsValue
  after_rows rows = adding add_row (no_rows replicas) rows

  pub row_same : (before : List DotRow) (bytes : List ℕ) → next_packed_row (after_rows before) bytes ≡ made_at (λ a. after_rows (before ++ a ∷ [])) (packed_dot_row_at replicas before) bytes
  row_same before bytes =
      let v = after_rows before in
      row_read v before bytes (rows_least before [] (no_rows replicas) refl)
      ∙ ap (λ (n : ℕ). made_at (add_row v) (packed_dot_row_at n before) bytes) (rows_replicas before (no_rows replicas))
      ∙ made_same (add_row v) (λ a. after_rows (before ++ a ∷ [])) (λ a. sym (adding-push add_row (no_rows replicas) before a)) (packed_dot_row_at replicas before bytes)

  abbrev dots_made : List DotRow × List ℕ → Result (Dots × List ℕ) Fault
  dots_made xs = Ok ((after_rows xs.0).seen, xs.1)

  abbrev dots_by : List DotRow × List ℕ → Result (Dots × List ℕ) Fault
  dots_by xs = Ok (dots_of_rows xs.0, xs.1)

  all_seen : (y : Result (List DotRow × List ℕ) Fault) → (y >>= dots_made) ≡ (y >>= dots_by)
  all_seen (Ok x) = ap (λ (s : Dots). Ok (s, x.1)) (rows_seen x.0 (no_rows replicas) ∙ with_all (flat_map row_runs x.0))
  all_seen (Err e) = refl

  pub dots_read : (started : Reader ℕ) → ((bytes : List ℕ) → started bytes ≡ packed_at bytes) → (bytes : List ℕ)
      → makes (chain started (λ n. rows_where (packed_dot_row_at replicas) next_packed_row after_rows row_same n (nat_lt n (2 ^ 32)))) (λ r. Ok r.seen) bytes ≡ packed_dots_at replicas bytes
  unfolding packed_dots_at packed_dot_rows_at
  dots_read started is bytes =
      rows_read (packed_dot_row_at replicas) next_packed_row after_rows row_same (λ r. r.seen) started packed_at is bytes ∙ all_seen (packed_dot_rows_at replicas bytes)
