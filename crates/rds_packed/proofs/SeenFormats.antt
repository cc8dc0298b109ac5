-- A set of dots in few bytes is a format, so each set has one text.
use Rattle.std.proofs.Common.{◌≡◌, ℕ, ◌+◌, ◌-◌, ◌^◌, ◌<◌, ◌≤◌, true, leb, List, [], ◌∷◌, ◌++◌, length, Option, Some, None, refl, sym, ap, subst, ◌∙◌, arith}
use Rattle.std.proofs.lemmas.Bool.{leb-true, ltb-true, le-leb, lt-ltb}
use Rattle.rds_names.specs.Conditions.{and_true, and_left, and_right}
use Rattle.rds_dots.specs.Dots.{Dots}
use Rattle.rds_dots.specs.Runs.{runs_of}
use Rattle.rds_bytes.specs.declared.dots.Gap.{Gap}
use Rattle.rds_bytes.specs.declared.dots.DotRow.{DotRow}
use Rattle.rds_bytes.specs.declared.dot_rows.RowHead.{RowHead}
use Rattle.rds_bytes.specs.DotRows.{rows_from, CanCountAll}
use Rattle.rds_bytes.specs.OneText.{HasOneText}
use Rattle.rds_bytes.specs.Packed.{packed_at, packed_text, HasPackedText}
use Rattle.rds_bytes.specs.Reading.{byte_at, is_between, is_end, is_next_replica, last, least_lo, least_replica, gap_by, row_by, row_head_by}
use Rattle.rds_bytes.specs.RowDots.{dots_of_rows}
use Rattle.rds_bytes.specs.SetRows.{GapsStand, RowStands, RowsStand}
use Rattle.rds_bytes.proofs.Format.{IsFormat, byte_format, then_format, pair_format, made_format, when_format, refit}
use Rattle.rds_bytes.proofs.Lists.{AllAfter, list_format}
use Rattle.rds_bytes.proofs.PartFormats.{last-push}
use Rattle.rds_bytes.proofs.TabledFormats.{one_text}
use Rattle.rds_packed.specs.PackedReading.{given_at, packed_u32_at}
use Rattle.rds_packed.specs.SeenReading as read
use Rattle.rds_packed.specs.SeenReading.{further_at}
use Rattle.rds_packed.specs.SeenTexts.{gap_end, packed_gap_text, packed_gaps_text, row_head_of, packed_head_text, packed_dot_row_text, packed_dot_rows_text, packed_dots_text, AreFewDotsOf}
use Rattle.rds_packed.proofs.Combined.{packed_format, given_format, respell}
use Rattle.rds_packed.proofs.ListFormats.{texts_after, after_list_format}
use Rattle.rds_packed.proofs.RowFormats.{packed_u32_format}
use Rattle.rds_packed.proofs.RowSets.{numbers, few, numbers_below, numbers_of, dots_there, dots_back}

-- ---- gaps in order

abbrev IsGapAfter : ℕ → List Gap → Gap → Type 0
IsGapAfter top before g = (least_lo (last before) ≤ g.lo) × ((g.lo ≤ g.hi) × (g.hi < top))

gaps_of : (top : ℕ) (gs before : List Gap) → AllAfter (IsGapAfter top) before gs → GapsStand (least_lo (last before)) top gs
gaps_of top [] before h = tt
gaps_of top (g ∷ gs) before h = (h.0, subst (λ (o : Option Gap). GapsStand (least_lo o) top gs) (last-push before g) (gaps_of top gs (before ++ g ∷ []) h.1))

of_gaps : (top : ℕ) (gs before : List Gap) → GapsStand (least_lo (last before)) top gs → AllAfter (IsGapAfter top) before gs
of_gaps top [] before h = tt
of_gaps top (g ∷ gs) before h = (h.0, of_gaps top gs (before ++ g ∷ []) (subst (λ (o : Option Gap). GapsStand (least_lo o) top gs) (sym (last-push before g)) h.1))

abbrev text_after : List Gap → Gap → List ℕ
text_after before g = packed_gap_text (gap_end (last before)) g

gaps_text : (gs before : List Gap) → texts_after text_after before gs ≡ packed_gaps_text (gap_end (last before)) gs
gaps_text [] before = refl
gaps_text (g ∷ gs) before =
    let now : gap_end (last (before ++ g ∷ [])) ≡ g.hi = ap gap_end (last-push before g) in
    ap (λ (t : List ℕ). text_after before g ++ t) (gaps_text gs (before ++ g ∷ []) ∙ ap (λ (n : ℕ). packed_gaps_text n gs) now)

end_least : (o : Option Gap) → gap_end o ≤ least_lo o
end_least None = omega arith
end_least (Some g) = omega arith

-- ---- rows in order

abbrev CanCount : List Gap → Type 0
CanCount gs = length gs < 2 ^ 32

abbrev IsRowAfter : ℕ → List DotRow → DotRow → Type 0
IsRowAfter replicas before r = ((least_replica (last before) ≤ r.replica) × RowStands (numbers replicas) r) × CanCount r.gaps

rows_of : (replicas : ℕ) (rows before : List DotRow) → AllAfter (IsRowAfter replicas) before rows → RowsStand (numbers replicas) (least_replica (last before)) rows × CanCountAll rows
rows_of replicas [] before h = (tt, tt)
rows_of replicas (r ∷ rows) before h =
    let again = rows_of replicas rows (before ++ r ∷ []) h.1 in
    ((h.0.0, subst (λ (o : Option DotRow). RowsStand (numbers replicas) (least_replica o) rows) (last-push before r) again.0), (h.0.1, again.1))

of_rows : (replicas : ℕ) (rows before : List DotRow) → RowsStand (numbers replicas) (least_replica (last before)) rows × CanCountAll rows → AllAfter (IsRowAfter replicas) before rows
of_rows replicas [] before h = tt
of_rows replicas (r ∷ rows) before h =
    ((h.0.0, h.1.0), of_rows replicas rows (before ++ r ∷ []) (subst (λ (o : Option DotRow). RowsStand (numbers replicas) (least_replica o) rows) (sym (last-push before r)) h.0.1, h.1.1))

few_rows : (n : ℕ) (rows : List DotRow) (least : ℕ) → least ≤ n → RowsStand n least rows → least + length rows ≤ n
few_rows n [] least le stand = omega arith
few_rows n (r ∷ rows) least le stand =
    let low = stand.0.0 in
    let small = stand.0.1.0 in
    let again = few_rows n rows (r.replica + 1) (omega arith) stand.1 in omega arith

abbrev AreRows : ℕ → List DotRow → Type 0
AreRows replicas rows = RowsStand (numbers replicas) 0 rows × CanCountAll rows

set_there : (replicas : ℕ) (s : Dots) → AreFewDotsOf replicas s → AreRows replicas (rows_from 0 (runs_of s)) × (dots_of_rows (rows_from 0 (runs_of s)) ≡ s)
set_there replicas s h = let is = dots_there replicas s h.0 in ((is.0, h.1), is.1)

set_back : (replicas : ℕ) → (rows : List DotRow) → AreRows replicas rows → AreFewDotsOf replicas (dots_of_rows rows) × (rows_from 0 (runs_of (dots_of_rows rows)) ≡ rows)
set_back replicas rows h = let is = dots_back replicas rows h.0 in ((is.0, subst CanCountAll (sym is.1) h.1), is.1)

-- ---- formats

abbrev IsFurther : ℕ → ℕ → Type 0
IsFurther from n = (from ≤ n) × HasPackedText (n - from)

further_there : (from n : ℕ) → IsFurther from n → HasPackedText (n - from) × (from + (n - from) ≡ n)
further_there from n h = let le = h.0 in (h.1, omega (arith, le))

further_back : (from n : ℕ) → HasPackedText n → IsFurther from (from + n) × ((from + n) - from ≡ n)
further_back from n h = ((omega arith, omega (arith, h)), omega arith)

abbrev AreEnds : ℕ → List Gap → ℕ × ℕ → Type 0
AreEnds top before p = (IsFurther (gap_end (last before)) p.0 × (leb (least_lo (last before)) p.0 ≡ true)) × (IsFurther p.0 p.1 × (is_end top p.0 p.1 ≡ true))

gap_there : (top : ℕ) → top ≤ 281474976710655 → (before : List Gap) (g : Gap) → IsGapAfter top before g → AreEnds top before (g.lo, g.hi) × (g ≡ g)
gap_there top most before g h =
    let low = h.0 in
    let rise = h.1.0 in
    let below = h.1.1 in
    let end = end_least (last before) in (
      (
        ((omega (arith, end, low), omega (arith, rise, below, most)), le-leb (least_lo (last before)) g.lo low),
        ((rise, omega (arith, below, most)), and_true _ _ (le-leb g.lo g.hi rise) (lt-ltb g.hi top below)),
      ),
      refl,
    )

gap_back : (top : ℕ) (before : List Gap) (p : ℕ × ℕ) → AreEnds top before p → IsGapAfter top before (gap_by p) × (p ≡ p)
gap_back top before p h =
    ((leb-true (least_lo (last before)) p.0 h.0.1, (leb-true p.0 p.1 (and_left (leb p.0 p.1) _ h.1.1), ltb-true p.1 top (and_right (leb p.0 p.1) _ h.1.1))), refl)

-- what a row begins with
abbrev IsHead : ℕ → ℕ → RowHead → Type 0
IsHead replicas least h = ((h.replica < 256) × (is_next_replica replicas least h.replica ≡ true)) × ((HasPackedText h.top × (is_between 1 281474976710655 h.top ≡ true)) × (h.gaps < 2 ^ 32))

abbrev AreGapsOf : RowHead → List Gap → Type 0
AreGapsOf h gs = (length gs ≡ h.gaps) × GapsStand 1 h.top gs

abbrev RowParts : Type 0
RowParts = RowHead × List Gap

abbrev AreRowParts : ℕ → List DotRow → RowParts → Type 0
AreRowParts replicas before p = IsHead replicas (least_replica (last before)) p.0 × AreGapsOf p.0 p.1

abbrev row_parts : DotRow → RowParts
row_parts r = (row_head_of r, r.gaps)

row_there : (replicas : ℕ) (before : List DotRow) (r : DotRow) → IsRowAfter replicas before r → AreRowParts replicas before (row_parts r) × (r ≡ r)
row_there replicas before r h =
    let row = h.0.1 in
    let number = row.0 in
    let small = few replicas in
    let one = row.1.0 in
    let most = row.1.1.0 in (
      (
        (
          (omega (arith, number, small), and_true _ _ (le-leb (least_replica (last before)) r.replica h.0.0) (lt-ltb r.replica replicas (numbers_below replicas r.replica number))),
          ((omega (arith, most), and_true _ _ (le-leb 1 r.top one) (le-leb r.top 281474976710655 most)), h.1),
        ),
        (refl, row.1.1.1),
      ),
      refl,
    )

row_back : (replicas : ℕ) (before : List DotRow) (p : RowParts) → AreRowParts replicas before p → IsRowAfter replicas before (row_by p) × (row_parts (row_by p) ≡ p)
row_back replicas before p h =
    let test = h.0.0.1 in
    let top = h.0.1.0.1 in
    let least = least_replica (last before) in
    let count : length p.1 ≡ p.0.gaps = h.1.0 in (
      (
        (
          leb-true least p.0.replica (and_left (leb least p.0.replica) _ test),
          (
            numbers_of replicas p.0.replica h.0.0.0 (ltb-true p.0.replica replicas (and_right (leb least p.0.replica) _ test)),
            (leb-true 1 p.0.top (and_left (leb 1 p.0.top) _ top), (leb-true p.0.top 281474976710655 (and_right (leb 1 p.0.top) _ top), h.1.1)),
          ),
        ),
        subst (λ (n : ℕ). n < 2 ^ 32) (sym count) h.0.1.1,
      ),
      λ i. (record { replica = p.0.replica; top = p.0.top; gaps = count i }, p.1),
    )

module _ (one : HasOneText packed_at packed_text HasPackedText) where
  further_format : (from : ℕ) → IsFormat (further_at from) (λ n. packed_text (n - from)) (IsFurther from)
  further_format from = made_format (λ n. from + n) (λ n. n - from) packed_at packed_text HasPackedText (IsFurther from) (further_there from) (further_back from) (packed_format one)

  gap_format : (top : ℕ) → top ≤ 281474976710655 → (before : List Gap) → IsFormat (read.packed_gap_at top (last before)) (text_after before) (IsGapAfter top before)
  unfolding read.packed_gap_at
  gap_format top most before =
      made_format gap_by (λ g. (g.lo, g.hi)) _ (λ p. packed_text (p.0 - gap_end (last before)) ++ packed_text (p.1 - p.0)) (AreEnds top before) (IsGapAfter top before) (gap_there top most before) (gap_back top before)
      (then_format _ _ (λ lo. packed_text (lo - gap_end (last before))) (λ lo hi. packed_text (hi - lo)) _ (λ lo hi. IsFurther lo hi × (is_end top lo hi ≡ true))
      (when_format (leb (least_lo (last before))) _ _ _ (further_format (gap_end (last before)))) (λ lo fits. when_format (is_end top lo) _ _ _ (further_format lo)))

  gaps_format : (h : RowHead) → h.top ≤ 281474976710655 → IsFormat (read.packed_gaps_at h.top h.gaps) (packed_gaps_text 0) (AreGapsOf h)
  gaps_format h most =
      respell _ (texts_after text_after []) (packed_gaps_text 0) (AreGapsOf h) (λ gs _. gaps_text gs [])
      (refit _ _ _ (AreGapsOf h) (λ gs x. (x.0, gaps_of h.top gs [] x.1)) (λ gs x. (x.0, of_gaps h.top gs [] x.1))
      (after_list_format (λ before. read.packed_gap_at h.top (last before)) text_after (IsGapAfter h.top) (gap_format h.top most) (given_at h.gaps) (λ _. []) (λ n. n ≡ h.gaps) (given_format h.gaps)))

  head_format : (replicas least : ℕ) → IsFormat (read.packed_head_at replicas least) packed_head_text (IsHead replicas least)
  unfolding read.packed_head_at
  head_format replicas least =
      made_format row_head_by (λ h. (h.replica, (h.top, h.gaps))) _ (λ p. p.0 ∷ (packed_text p.1.0 ++ packed_text p.1.1))
      (λ p. ((p.0 < 256) × (is_next_replica replicas least p.0 ≡ true)) × ((HasPackedText p.1.0 × (is_between 1 281474976710655 p.1.0 ≡ true)) × (p.1.1 < 2 ^ 32)))
      (IsHead replicas least) (λ h x. (x, refl)) (λ p x. (x, refl))
      (pair_format _ _ _ _ _ _ (when_format (is_next_replica replicas least) byte_at (λ b. b ∷ []) (λ b. b < 256) byte_format)
      (pair_format _ _ _ _ _ _ (when_format (is_between 1 281474976710655) packed_at packed_text HasPackedText (packed_format one)) (packed_u32_format one)))

  row_format : (replicas : ℕ) (before : List DotRow) → IsFormat (read.packed_dot_row_at replicas before) packed_dot_row_text (IsRowAfter replicas before)
  unfolding read.packed_dot_row_at
  row_format replicas before =
      made_format row_by row_parts _ (λ p. packed_head_text p.0 ++ packed_gaps_text 0 p.1) (AreRowParts replicas before) (IsRowAfter replicas before) (row_there replicas before) (row_back replicas before)
      (then_format (read.packed_head_at replicas (least_replica (last before))) (λ h. read.packed_gaps_at h.top h.gaps) packed_head_text (λ _. packed_gaps_text 0) (IsHead replicas (least_replica (last before))) AreGapsOf
      (head_format replicas (least_replica (last before))) (λ h fits. gaps_format h (leb-true h.top 281474976710655 (and_right (leb 1 h.top) _ fits.1.0.1))))

  rows_format : (replicas : ℕ) → IsFormat (read.packed_dot_rows_at replicas) packed_dot_rows_text (AreRows replicas)
  unfolding read.packed_dot_rows_at
  rows_format replicas =
      refit _ _ _ (AreRows replicas) (λ rows h. rows_of replicas rows [] h.1)
      (λ rows h. (let len = few_rows (numbers replicas) rows 0 (omega arith) h.0 in let small = few replicas in (omega (arith, len, small), of_rows replicas rows [] h)))
      (list_format _ _ _ (row_format replicas) packed_u32_at packed_text _ (packed_u32_format one))

  dots_format : (replicas : ℕ) → IsFormat (read.packed_dots_at replicas) packed_dots_text (AreFewDotsOf replicas)
  unfolding read.packed_dots_at packed_dots_text
  dots_format replicas =
      made_format dots_of_rows (λ s. rows_from 0 (runs_of s)) _ packed_dot_rows_text (AreRows replicas) (AreFewDotsOf replicas) (set_there replicas) (set_back replicas) (rows_format replicas)

  pub packed_dots_one_text : (replicas : ℕ) → HasOneText (read.packed_dots_at replicas) packed_dots_text (AreFewDotsOf replicas)
  packed_dots_one_text replicas = one_text _ _ _ (dots_format replicas)
