-- A set of dots is a format.
use Rattle.std.proofs.Common.{◌≡◌, ℕ, ◌+◌, ◌^◌, ◌<◌, ◌≤◌, true, leb, List, [], ◌∷◌, ◌++◌, length, Option, refl, sym, subst, arith}
use Rattle.std.specs.Int.{w64, to_be_bytes}
use Rattle.std.proofs.lemmas.Bool.{leb-true, ltb-true, le-leb, lt-ltb}
use Rattle.rds_dots.specs.Dots.{Dots}
use Rattle.rds_names.specs.Conditions.{and_true, and_left, and_right}
use Rattle.rds_dots.specs.Runs.{runs_of}
use Rattle.rds_bytes.specs.declared.dots.Gap.{Gap}
use Rattle.rds_bytes.specs.declared.dots.DotRow.{DotRow}
use Rattle.rds_bytes.specs.Values.{AreDotsOf}
use Rattle.rds_bytes.specs.DotRows.{rows_from, CanCountAll}
use Rattle.rds_bytes.specs.RowDots.{dots_of_rows}
use Rattle.rds_bytes.specs.Spelling.{gap_text, gaps_text, dot_row_text, dot_rows_text, dots_text}
use Rattle.rds_bytes.specs.Reading as read
use Rattle.rds_bytes.specs.Reading.{byte_at, number_at, then_at, when_at, is_between, is_end, last, least_lo, least_replica}
use Rattle.rds_bytes.proofs.Format.{IsFormat, byte_format, number16, number32, number64, then_format, pair_format, made_format, when_format, refit}
use Rattle.rds_bytes.proofs.Lists.{AllAfter, list_format}
use Rattle.rds_bytes.proofs.PartFormats.{last-push}
use Rattle.rds_bytes.specs.SetRows.{GapsStand, RowStands, RowsStand}
use Rattle.rds_bytes.proofs.RowSets.{numbers, few, numbers_below, numbers_of, dots_there, dots_back}

-- ---- gaps

abbrev IsGapAfter : ℕ → List Gap → Gap → Type 0
IsGapAfter top before g = (least_lo (last before) ≤ g.lo) × ((g.lo ≤ g.hi) × (g.hi < top))

abbrev AreEnds : ℕ → List Gap → ℕ × ℕ → Type 0
AreEnds top before p = ((p.0 < 2 ^ 64) × (leb (least_lo (last before)) p.0 ≡ true)) × ((p.1 < 2 ^ 64) × (is_end top p.0 p.1 ≡ true))

gap_there : (top : ℕ) → top ≤ 281474976710655 → (before : List Gap) (g : Gap) → IsGapAfter top before g → AreEnds top before (g.lo, g.hi) × (g ≡ g)
gap_there top most before g h =
    let rise = h.1.0 in
    let below = h.1.1 in
    (((omega arith, le-leb (least_lo (last before)) g.lo h.0), (omega arith, and_true _ _ (le-leb g.lo g.hi rise) (lt-ltb g.hi top below))), refl)

gap_back : (top : ℕ) (before : List Gap) (p : ℕ × ℕ) → AreEnds top before p → IsGapAfter top before (read.gap_by p) × (p ≡ p)
gap_back top before p h =
    ((leb-true (least_lo (last before)) p.0 h.0.1, (leb-true p.0 p.1 (and_left (leb p.0 p.1) _ h.1.1), ltb-true p.1 top (and_right (leb p.0 p.1) _ h.1.1))), refl)

gap_format : (top : ℕ) → top ≤ 281474976710655 → (before : List Gap) → IsFormat (read.gap_at top (last before)) gap_text (IsGapAfter top before)
unfolding read.gap_at
gap_format top most before =
    made_format read.gap_by (λ g. (g.lo, g.hi)) _ _ _ (IsGapAfter top before) (gap_there top most before) (gap_back top before)
    (then_format _ _ _ (λ lo. to_be_bytes w64) _ (λ lo hi. (hi < 2 ^ 64) × (is_end top lo hi ≡ true)) (when_format (leb (least_lo (last before))) _ _ _ number64) (λ lo fits. when_format (is_end top lo) _ _ _ number64))

gaps_of : (top : ℕ) (gs before : List Gap) → AllAfter (IsGapAfter top) before gs → GapsStand (least_lo (last before)) top gs
gaps_of top [] before h = tt
gaps_of top (g ∷ gs) before h = (h.0, subst (λ (o : Option Gap). GapsStand (least_lo o) top gs) (last-push before g) (gaps_of top gs (before ++ g ∷ []) h.1))

of_gaps : (top : ℕ) (gs before : List Gap) → GapsStand (least_lo (last before)) top gs → AllAfter (IsGapAfter top) before gs
of_gaps top [] before h = tt
of_gaps top (g ∷ gs) before h = (h.0, of_gaps top gs (before ++ g ∷ []) (subst (λ (o : Option Gap). GapsStand (least_lo o) top gs) (sym (last-push before g)) h.1))

-- few enough to be counted in four bytes
abbrev pub CanCount : List Gap → Type 0
CanCount gs = length gs < 2 ^ 32

gaps_format : (top : ℕ) → top ≤ 281474976710655 → IsFormat (read.gaps_at top) gaps_text (λ gs. CanCount gs × GapsStand 1 top gs)
unfolding read.gaps_at
gaps_format top most =
    refit _ _ _ (λ gs. CanCount gs × GapsStand 1 top gs) (λ gs h. (h.0, gaps_of top gs [] h.1)) (λ gs h. (h.0, of_gaps top gs [] h.1))
    (list_format _ _ _ (gap_format top most) _ _ _ number32)

-- ---- rows

abbrev AreNumbers : ℕ × List Gap → Type 0
AreNumbers p = ((p.0 < 2 ^ 64) × (is_between 1 281474976710655 p.0 ≡ true)) × (CanCount p.1 × GapsStand 1 p.0 p.1)

numbers_format : IsFormat read.numbers_at (λ p. to_be_bytes w64 p.0 ++ gaps_text p.1) AreNumbers
unfolding read.numbers_at
numbers_format =
    then_format _ _ _ (λ top. gaps_text) _ (λ top gs. CanCount gs × GapsStand 1 top gs) (when_format (is_between 1 281474976710655) _ _ _ number64)
    (λ top fits. gaps_format top (leb-true top 281474976710655 (and_right (leb 1 top) _ fits.1)))

abbrev IsRowAfter : ℕ → List DotRow → DotRow → Type 0
IsRowAfter replicas before r = ((least_replica (last before) ≤ r.replica) × RowStands (numbers replicas) r) × CanCount r.gaps

abbrev AreRowParts : ℕ → List DotRow → ℕ × (ℕ × List Gap) → Type 0
AreRowParts replicas before p = ((p.0 < 256) × (read.is_next_replica replicas (least_replica (last before)) p.0 ≡ true)) × AreNumbers p.1

row_there : (replicas : ℕ) → (before : List DotRow) (r : DotRow) → IsRowAfter replicas before r → AreRowParts replicas before (r.replica, (r.top, r.gaps)) × (r ≡ r)
row_there replicas before r h =
    let row = h.0.1 in
    let number = row.0 in
    let small = few replicas in
    let one = row.1.0 in
    let most = row.1.1.0 in (
      (
        (omega arith, and_true _ _ (le-leb (least_replica (last before)) r.replica h.0.0) (lt-ltb r.replica replicas (numbers_below replicas r.replica number))),
        ((omega arith, and_true _ _ (le-leb 1 r.top one) (le-leb r.top 281474976710655 most)), (h.1, row.1.1.1)),
      ),
      refl,
    )

row_back : (replicas : ℕ) (before : List DotRow) (p : ℕ × (ℕ × List Gap)) → AreRowParts replicas before p → IsRowAfter replicas before (read.dot_row_by p) × (p ≡ p)
row_back replicas before p h =
    let test = h.0.1 in
    let top = h.1.0.1 in (
      (
        (
          leb-true (least_replica (last before)) p.0 (and_left (leb (least_replica (last before)) p.0) _ test),
          (
            numbers_of replicas p.0 h.0.0 (ltb-true p.0 replicas (and_right (leb (least_replica (last before)) p.0) _ test)),
            (leb-true 1 p.1.0 (and_left (leb 1 p.1.0) _ top), (leb-true p.1.0 281474976710655 (and_right (leb 1 p.1.0) _ top), h.1.1.1)),
          ),
        ),
        h.1.1.0,
      ),
      refl,
    )

row_format : (replicas : ℕ) → (before : List DotRow) → IsFormat (read.dot_row_at replicas before) dot_row_text (IsRowAfter replicas before)
unfolding read.dot_row_at
row_format replicas before =
    made_format read.dot_row_by (λ r. (r.replica, (r.top, r.gaps))) _ _ _ (IsRowAfter replicas before) (row_there replicas before) (row_back replicas before)
    (pair_format _ _ _ _ _ _ (when_format (read.is_next_replica replicas (least_replica (last before))) _ _ _ byte_format) numbers_format)

rows_of : (replicas : ℕ) (rows before : List DotRow) → AllAfter (IsRowAfter replicas) before rows → RowsStand (numbers replicas) (least_replica (last before)) rows × CanCountAll rows
rows_of replicas [] before h = (tt, tt)
rows_of replicas (r ∷ rows) before h =
    let again = rows_of replicas rows (before ++ r ∷ []) h.1 in
    ((h.0.0, subst (λ (o : Option DotRow). RowsStand (numbers replicas) (least_replica o) rows) (last-push before r) again.0), (h.0.1, again.1))

of_rows : (replicas : ℕ) (rows before : List DotRow) → RowsStand (numbers replicas) (least_replica (last before)) rows × CanCountAll rows → AllAfter (IsRowAfter replicas) before rows
of_rows replicas [] before h = tt
of_rows replicas (r ∷ rows) before h =
    ((h.0.0, h.1.0), of_rows replicas rows (before ++ r ∷ []) (subst (λ (o : Option DotRow). RowsStand (numbers replicas) (least_replica o) rows) (sym (last-push before r)) h.0.1, h.1.1))

few_rows : (n : ℕ) (rows : List DotRow) (least : ℕ) → least ≤ n → RowsStand n least rows → least + length rows ≤ n
few_rows n [] least le stand = omega arith
few_rows n (r ∷ rows) least le stand =
    let low = stand.0.0 in
    let small = stand.0.1.0 in
    let again = few_rows n rows (r.replica + 1) (omega arith) stand.1 in omega arith

abbrev pub AreRows : ℕ → List DotRow → Type 0
AreRows replicas rows = RowsStand (numbers replicas) 0 rows × CanCountAll rows

pub rows_format : (replicas : ℕ) → IsFormat (read.dot_rows_at replicas) dot_rows_text (AreRows replicas)
unfolding read.dot_rows_at
rows_format replicas =
    refit _ _ _ (AreRows replicas) (λ rows h. rows_of replicas rows [] h.1)
    (λ rows h. (let len = few_rows (numbers replicas) rows 0 (omega arith) h.0 in let small = few replicas in (omega arith, of_rows replicas rows [] h)))
    (list_format _ _ _ (row_format replicas) _ _ _ number16)

-- ---- the set

abbrev pub CanCountDots : Dots → Type 0
CanCountDots s = CanCountAll (rows_from 0 (runs_of s))

abbrev pub AreDots : ℕ → Dots → Type 0
AreDots replicas s = AreDotsOf replicas s × CanCountDots s

set_there : (replicas : ℕ) (s : Dots) → AreDots replicas s → AreRows replicas (rows_from 0 (runs_of s)) × (dots_of_rows (rows_from 0 (runs_of s)) ≡ s)
set_there replicas s h = let is = dots_there replicas s h.0 in ((is.0, h.1), is.1)

set_back : (replicas : ℕ) → (rows : List DotRow) → AreRows replicas rows → AreDots replicas (dots_of_rows rows) × (rows_from 0 (runs_of (dots_of_rows rows)) ≡ rows)
set_back replicas rows h = let is = dots_back replicas rows h.0 in ((is.0, subst CanCountAll (sym is.1) h.1), is.1)

pub dots_format : (replicas : ℕ) → IsFormat (read.dots_at replicas) dots_text (AreDots replicas)
unfolding read.dots_at dots_text
dots_format replicas =
    made_format dots_of_rows (λ s. rows_from 0 (runs_of s)) _ dot_rows_text (AreRows replicas) (AreDots replicas) (set_there replicas) (set_back replicas) (rows_format replicas)
