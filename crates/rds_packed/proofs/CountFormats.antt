-- Counters in few bytes are a format over the packed numbers of a table's keys, so each has one text.
use Rattle.std.proofs.Common.{◌≡◌, ℕ, ◌^◌, ◌<◌, Bool, true, ltb, ◌&&◌, ◌||◌, List, [], ◌∷◌, ◌++◌, length, Option, Some, None, refl, sym, ap, subst, ◌∙◌, arith}
use Rattle.std.specs.List.{flat_map, AllByRecursion}
use Rattle.std.proofs.lemmas.Bool.{leb-true, ltb-true, lt-ltb}
use Rattle.rds_counts.specs.declared.row.CountRow.{CountRow}
use Rattle.rds_counts.specs.Counted.{Counted, counts_of, is_row, row_before_next, rows_fit, AreCountRows}
use Rattle.rds_counts.specs.CountedLemmas.{fits_rows, rows_fit_of}
use Rattle.rds_names.specs.Conditions.{and_true, and_left, and_right}
use Rattle.rds_counts.specs.RowsOf.{count_rows}
use Rattle.rds_counts.specs.RowsOfLemmas.{count_rows-counts_of}
use Rattle.rds_bytes.specs.Values.{is_key_text, IsKeyText, HasKey, IsCountRowOf, AreCountsOf}
use Rattle.rds_bytes.specs.OneText.{HasOneText}
use Rattle.rds_bytes.specs.Packed.{packed_at, packed_text, HasPackedText}
use Rattle.rds_bytes.specs.Spelling.{keyed_place_text}
use Rattle.rds_bytes.specs.Tabled.{IsShortTable, IsKeyOf, AreTabledCounts}
use Rattle.rds_bytes.specs.Reading as read
use Rattle.rds_packed.specs.CountTexts as packed
use Rattle.rds_packed.specs.CountTexts.{packed_counts_text, packed_count_row_text, packed_counters_text}
use Rattle.rds_bytes.specs.Reading.{Reader, last, comes_after_row, is_next_place, is_count, is_second}
use Rattle.rds_bytes.proofs.Format.{IsFormat, byte_format, then_format, pair_format, made_format, when_format, refit}
use Rattle.rds_bytes.proofs.Lists.{AllAfter, all_both, both_all, list_format}
use Rattle.rds_bytes.proofs.PartFormats.{last-push}
use Rattle.rds_bytes.proofs.TabledFormats.{has_all, one_text}
use Rattle.rds_packed.specs.PackedReading.{packed_u32_at, packed_key_at}
use Rattle.rds_packed.specs.PackedTexts.{packed_key_text}
use Rattle.rds_packed.proofs.Combined.{packed_format}
use Rattle.rds_packed.proofs.RowFormats.{packed_u32_format, packed_key_format}

-- ---- a row

abbrev ArePair : ℕ × ℕ → Type 0
ArePair x = (HasPackedText x.0 × (is_count x.0 ≡ true)) × (HasPackedText x.1 × (is_second x.0 x.1 ≡ true))

counts_format : HasOneText packed_at packed_text HasPackedText → IsFormat packed.packed_counts_at (λ x. packed_counts_text x.0 x.1) ArePair
unfolding packed.packed_counts_at
counts_format one =
    then_format _ _ _ (λ p. packed_text) _ (λ p n. HasPackedText n × (is_second p n ≡ true)) (when_format is_count packed_at packed_text HasPackedText (packed_format one))
    (λ p fits. when_format (is_second p) packed_at packed_text HasPackedText (packed_format one))

-- it comes next, and its replica and numbers are within their limits
pub record IsRowAfter (replicas : ℕ) (before : List CountRow) (r : CountRow) : Type 0 where
  pub next : is_next_place replicas before (r.key, r.replica) ≡ true
  pub is : is_row r ≡ true

abbrev row_parts : CountRow → (List ℕ × ℕ) × (ℕ × ℕ)
row_parts r = ((r.key, r.replica), (r.p, r.n))

abbrev IsPlaceOf : (List ℕ → Type 0) → ℕ → List CountRow → List ℕ × ℕ → Type 0
IsPlaceOf IsKey replicas before p = (IsKey p.0 × (p.1 < 256)) × (is_next_place replicas before p ≡ true)

abbrev ArePartsOf : (List ℕ → Type 0) → ℕ → List CountRow → (List ℕ × ℕ) × (ℕ × ℕ) → Type 0
ArePartsOf IsKey replicas before x = IsPlaceOf IsKey replicas before x.0 × ArePair x.1

abbrev IsRowOf : (List ℕ → Type 0) → ℕ → List CountRow → CountRow → Type 0
IsRowOf IsKey replicas before r = IsRowAfter replicas before r × HasKey IsKey r

row_there : (IsKey : List ℕ → Type 0) (replicas : ℕ) (before : List CountRow) (r : CountRow) → IsRowOf IsKey replicas before r → ArePartsOf IsKey replicas before (row_parts r) × (r ≡ r)
row_there IsKey replicas before r h =
    let some = ltb 0 r.p || ltb 0 r.n in
    let below = ltb-true r.replica 256 (and_right (some && is_count r.p && is_count r.n) _ h.0.is) in
    let both = and_left (some && is_count r.p && is_count r.n) _ h.0.is in
    let n = and_right (some && is_count r.p) (is_count r.n) both in
    let front = and_left (some && is_count r.p) (is_count r.n) both in
    let p = and_right some (is_count r.p) front in
    let p_most = leb-true r.p 281474976710655 p in
    let n_most = leb-true r.n 281474976710655 n in
    ((((h.1, below), h.0.next), ((omega (arith, p_most), p), (omega (arith, n_most), and_true _ _ n (and_left some (is_count r.p) front)))), refl)

pub row_is : (p n replica : ℕ) → is_count p ≡ true → is_second p n ≡ true → replica < 256 → ((ltb 0 p || ltb 0 n) && is_count p && is_count n && ltb replica 256) ≡ true
row_is p n replica first second small =
    let some = and_right (is_count n) (ltb 0 p || ltb 0 n) second in
    let most = and_left (is_count n) (ltb 0 p || ltb 0 n) second in
    and_true _ _ (and_true _ _ (and_true _ _ some first) most) (lt-ltb replica 256 small)

row_back : (IsKey : List ℕ → Type 0) (replicas : ℕ) (before : List CountRow) (x : (List ℕ × ℕ) × (ℕ × ℕ)) → ArePartsOf IsKey replicas before x → IsRowOf IsKey replicas before (read.count_row_by x) × (x ≡ x)
row_back IsKey replicas before x h = ((record { next = h.0.1; is = row_is x.1.0 x.1.1 x.0.1 h.1.0.1 h.1.1.1 h.0.0.1 }, h.0.0.0), refl)

-- ---- rows

-- the first of the rows comes after a row
abbrev pub follows : Option CountRow → List CountRow → Bool
follows after [] = true
follows after (r ∷ rows) = comes_after_row after r.key r.replica

next_is : (r : CountRow) (rows : List CountRow) → follows (Some r) rows ≡ row_before_next r rows
next_is r [] = refl
next_is r (s ∷ rows) = refl

follows_none : (rows : List CountRow) → follows None rows ≡ true
follows_none [] = refl
follows_none (r ∷ rows) = refl

next_pushed : (r : CountRow) (rows before : List CountRow) → follows (last (before ++ r ∷ [])) rows ≡ row_before_next r rows
next_pushed r rows before = ap (λ (o : Option CountRow). follows o rows) (last-push before r) ∙ next_is r rows

abbrev IsReplicaOf : ℕ → CountRow → Type 0
IsReplicaOf replicas r = r.replica < replicas

module _ (replicas : ℕ) where
  abbrev AreOf : List CountRow → Type 0
  AreOf rows = AllByRecursion (IsCountRowOf replicas) rows

  abbrev AreBelow : List CountRow → Type 0
  AreBelow rows = AllByRecursion (IsReplicaOf replicas) rows

  abbrev IsNext : List CountRow → CountRow → Type 0
  IsNext = IsRowAfter replicas

  pub rows_of : (rows before : List CountRow) → AllAfter IsNext before rows → ((follows (last before) rows ≡ true) × (rows_fit rows ≡ true)) × AreBelow rows
  rows_of [] before h = ((refl, refl), tt)
  rows_of (r ∷ rows) before h =
      let again = rows_of rows (before ++ r ∷ []) h.1 in
      let next : row_before_next r rows ≡ true = sym (next_pushed r rows before) ∙ again.0.0 in
      let after = and_left (comes_after_row (last before) r.key r.replica) _ h.0.next in
      let below = ltb-true r.replica replicas (and_right (comes_after_row (last before) r.key r.replica) _ h.0.next) in
      ((after, and_true _ _ (and_true _ _ h.0.is next) again.0.1), (below, again.1))

  of_rows : (rows before : List CountRow) → follows (last before) rows ≡ true → rows_fit rows ≡ true → AreBelow rows → AllAfter IsNext before rows
  of_rows [] before first fit each = tt
  of_rows (r ∷ rows) before first fit each =
      let front = and_left (is_row r && row_before_next r rows) (rows_fit rows) fit in
      let next : follows (last (before ++ r ∷ [])) rows ≡ true = next_pushed r rows before ∙ and_right (is_row r) _ front in
      (record { next = and_true _ _ first (lt-ltb r.replica replicas each.0); is = and_left (is_row r) _ front }, of_rows rows (before ++ r ∷ []) next (and_right (is_row r && row_before_next r rows) _ fit) each.1)

  -- of texts, and of so many replicas
  of_both : (IsKey : List ℕ → Type 0) → ((k : List ℕ) → IsKey k → IsKeyText k) → (rows : List CountRow) → AllByRecursion (HasKey IsKey) rows → AreBelow rows → AreOf rows
  of_both IsKey texts [] keys below = tt
  of_both IsKey texts (r ∷ rows) keys below = ((texts r.key keys.0, below.0), of_both IsKey texts rows keys.1 below.1)

  are_below : (rows : List CountRow) → AreOf rows → AreBelow rows
  are_below [] h = tt
  are_below (r ∷ rows) h = (h.0.1, are_below rows h.1)

  abbrev CanCountRows : List CountRow → Type 0
  CanCountRows rows = length rows < 2 ^ 32

  abbrev AreRead : List CountRow → Type 0
  AreRead rows = CanCountRows rows × (AreCountRows rows × AreOf rows)

  -- ---- the counters

  abbrev pub AreCounts : Counted → Type 0
  AreCounts m = AreCountsOf replicas m × CanCountRows (count_rows m)

  same_rows : (m : Counted) (h : AreCountsOf replicas m) → count_rows m ≡ h.rows
  same_rows m h = ap count_rows (sym h.value) ∙ count_rows-counts_of h.rows h.are_rows

  there : (m : Counted) → AreCounts m → AreRead (count_rows m) × (counts_of (count_rows m) ≡ m)
  there m h =
      let same = same_rows m h.0 in
      ((h.1, (subst AreCountRows (sym same) h.0.are_rows, subst AreOf (sym same) h.0.each_row)), ap counts_of same ∙ h.0.value)

  back : (rows : List CountRow) → AreRead rows → AreCounts (counts_of rows) × (count_rows (counts_of rows) ≡ rows)
  back rows h =
      let same = count_rows-counts_of rows h.1.0 in
      ((record { rows = rows; are_rows = h.1.0; each_row = h.1.1; value = refl }, subst CanCountRows (sym same) h.0), same)

-- ---- rows and counters, for a format of their keys

abbrev AreReadOf : (List ℕ → Type 0) → ℕ → List CountRow → Type 0
AreReadOf IsKey replicas rows = AreRead replicas rows × AllByRecursion (HasKey IsKey) rows

abbrev pub AreCountsWith : (List ℕ → Type 0) → ℕ → Counted → Type 0
AreCountsWith IsKey replicas m = AreCounts replicas m × AllByRecursion (HasKey IsKey) (count_rows m)

module _ (one : HasOneText packed_at packed_text HasPackedText) (key : Reader (List ℕ)) (key_text : List ℕ → List ℕ) (IsKey : List ℕ → Type 0) (are_texts : (k : List ℕ) → IsKey k → IsKeyText k) (key_is : IsFormat key key_text IsKey) (replicas : ℕ) where
  place_format : (before : List CountRow) → IsFormat (read.keyed_place_at key replicas before) (λ p. keyed_place_text key_text p.0 p.1) (IsPlaceOf IsKey replicas before)
  unfolding read.keyed_place_at
  place_format before = when_format (is_next_place replicas before) _ _ _ (pair_format _ _ _ _ _ _ key_is byte_format)

  row_format : (before : List CountRow) → IsFormat (packed.packed_count_row_at key replicas before) (packed_count_row_text key_text) (IsRowOf IsKey replicas before)
  unfolding packed.packed_count_row_at
  row_format before =
      made_format read.count_row_by row_parts _ _ _ (IsRowOf IsKey replicas before) (row_there IsKey replicas before) (row_back IsKey replicas before)
      (pair_format _ _ _ _ _ _ (place_format before) (counts_format one))

  rows_format : IsFormat (packed.packed_count_rows_at key replicas) (λ rows. packed_text (length rows) ++ flat_map (packed_count_row_text key_text) rows) (AreReadOf IsKey replicas)
  unfolding packed.packed_count_rows_at
  rows_format =
      refit _ _ _ (AreReadOf IsKey replicas)
      (λ rows h. (let both = all_both (IsRowAfter replicas) (HasKey IsKey) [] rows h.1 in let is = rows_of replicas rows [] both.0 in ((h.0, (fits_rows rows is.0.1, of_both replicas IsKey are_texts rows both.1 is.1)), both.1)))
      (λ rows h. (h.0.0, both_all (IsRowAfter replicas) (HasKey IsKey) [] rows (of_rows replicas rows [] (follows_none rows) (rows_fit_of rows h.0.1.0) (are_below replicas rows h.0.1.1)) h.1))
      (list_format _ _ _ row_format packed_u32_at packed_text _ (packed_u32_format one))

  counts_there : (m : Counted) → AreCountsWith IsKey replicas m → AreReadOf IsKey replicas (count_rows m) × (counts_of (count_rows m) ≡ m)
  counts_there m h = (let t = there replicas m h.0 in ((t.0, h.1), t.1))

  counts_back : (rows : List CountRow) → AreReadOf IsKey replicas rows → AreCountsWith IsKey replicas (counts_of rows) × (count_rows (counts_of rows) ≡ rows)
  counts_back rows h = (let b = back replicas rows h.0 in ((b.0, subst (AllByRecursion (HasKey IsKey)) (sym b.1) h.1), b.1))

  packed_counters_format : IsFormat (packed.packed_counters_at key replicas) (packed_counters_text key_text) (AreCountsWith IsKey replicas)
  unfolding packed.packed_counters_at packed_counters_text
  packed_counters_format = made_format counts_of count_rows _ _ (AreReadOf IsKey replicas) (AreCountsWith IsKey replicas) counts_there counts_back rows_format

-- ---- by the keys of a table

module _ (one : HasOneText packed_at packed_text HasPackedText) (table : List (List ℕ)) (is : IsShortTable table) where
  pub packed_counters_one_text : (replicas : ℕ) → HasOneText (packed.packed_counters_at (packed_key_at table) replicas) (packed_counters_text (packed_key_text table)) (AreTabledCounts table replicas)
  packed_counters_one_text replicas =
      one_text _ _ _
      (refit _ _ (AreCountsWith (IsKeyOf table) replicas) (AreTabledCounts table replicas)
      (λ m h. record { few = h.0.1; are_counts = h.0.0; keys = h.1 })
      (λ m h. ((h.are_counts, h.few), h.keys))
      (packed_counters_format one (packed_key_at table) (packed_key_text table) (IsKeyOf table) (λ k h. has_all is_key_text table k is.1.texts h) (packed_key_format one table is) replicas))
