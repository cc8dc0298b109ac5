-- Live rows in few bytes are a format over the packed numbers of a table's keys, so each list of rows has one text.
use Rattle.std.proofs.Common.{◌≡◌, ℕ, ◌^◌, ◌<◌, true, ltb, ◌&&◌, List, [], ◌∷◌, ◌++◌, length, Option, Some, None, refl, ap, ◌∙◌, arith}
use Rattle.std.specs.Prelude.{slice_get}
use Rattle.std.specs.List.{AllByRecursion}
use Rattle.std.specs.FinSet as set
use Rattle.std.proofs.lemmas.Bool.{ltb-true, lt-ltb}
use Rattle.rds_names.specs.Conditions.{and_true, and_left, and_right}
use Rattle.rds_names.specs.declared.entry.Entry.{Entry}
use Rattle.rds_dots.specs.declared.dot.Dot.{Dot}
use Rattle.rds_dots.specs.Dots.{Dots}
use Rattle.rds_life.specs.Fits.{fits, dot_before_next}
use Rattle.rds_life.proofs.LivedLemmas.{fits_rows, rows_fit}
use Rattle.rds_bytes.specs.OneText.{HasOneText}
use Rattle.rds_bytes.specs.Packed.{packed_at, packed_text, HasPackedText}
use Rattle.rds_bytes.specs.Reading.{Reader, dot_of_row, last}
use Rattle.rds_bytes.specs.Table.{has_key, table_number}
use Rattle.rds_bytes.specs.Tabled.{IsShortTable, IsKeyOf, AreTabledRows}
use Rattle.rds_bytes.specs.Values.{is_key_text, IsKeyText, IsEntry, IsLiveRow, HasKeys, AreDotsOf}
use Rattle.rds_bytes.proofs.Format.{IsFormat, pair_format, drawn_format, when_format, refit}
use Rattle.rds_bytes.proofs.Lists.{AllAfter, all_both, both_all}
use Rattle.rds_bytes.proofs.LiveFormats.{AreOnlyDots, IsDotAfter, AreLive, AreLiveOf, follows, dots_fit}
use Rattle.rds_bytes.proofs.PartFormats.{last-push}
use Rattle.rds_bytes.proofs.TabledFormats.{has_all, one_text}
use Rattle.rds_bytes.proofs.TableLaws.{has_at, number_at_place, key_at_number, number_below}
use Rattle.rds_packed.specs.PackedReading as read
use Rattle.rds_packed.specs.PackedReading.{dot_before}
use Rattle.rds_packed.specs.PackedTexts.{dot_or_zeroth, packed_key_text, packed_row_text, packed_rows_text, packed_lives_text}
use Rattle.rds_packed.proofs.Combined.{packed_format, respell}
use Rattle.rds_packed.proofs.DotFormats.{dot_format}
use Rattle.rds_packed.proofs.EntryFormats.{entry_format}
use Rattle.rds_packed.proofs.ListFormats.{texts_after, after_list_format}

-- ---- rows in order

abbrev IsRowAfter : Dots → List (Dot × Entry) → Dot × Entry → Type 0
IsRowAfter s before row = IsDotAfter s before row × IsEntry row.1

next_is : (d : Dot) (rows : List (Dot × Entry)) → follows (Some d) rows ≡ dot_before_next d rows
next_is d [] = refl
next_is d (row ∷ rows) = refl

rows_of : (s : Dots) (rows : List (Dot × Entry)) → AllAfter (IsRowAfter s) [] rows → AreLive s rows
rows_of s rows h =
    let both = all_both (IsDotAfter s) IsLiveRow [] rows h in
    (fits_rows s rows (dots_fit s rows [] both.0).1, both.1)

of_rows : (s : Dots) (rows before : List (Dot × Entry)) → follows (dot_of_row (last before)) rows ≡ true → fits (set.contains s) rows ≡ true → AllByRecursion IsLiveRow rows → AllAfter (IsRowAfter s) before rows
of_rows s [] before first fit each = tt
of_rows s (row ∷ rows) before first fit each =
    let d = row.0 in
    let front = and_left (set.contains s d && dot_before_next d rows) (fits (set.contains s) rows) fit in
    let next : follows (dot_of_row (last (before ++ row ∷ []))) rows ≡ true =
    ap (λ (o : Option (Dot × Entry)). follows (dot_of_row o) rows) (last-push before row) ∙ next_is d rows ∙ and_right (set.contains s d) _ front in
    ((and_true _ _ first (and_left (set.contains s d) _ front), each.0), of_rows s rows (before ++ row ∷ []) next (and_right (set.contains s d && dot_before_next d rows) _ fit) each.1)

follows_none : (rows : List (Dot × Entry)) → follows None rows ≡ true
follows_none [] = refl
follows_none (row ∷ rows) = refl

-- ---- texts

module _ (key_text : List ℕ → List ℕ) where
  abbrev text_after : List (Dot × Entry) → Dot × Entry → List ℕ
  text_after before row = packed_row_text key_text (dot_before before) row

  rows_text : (rows before : List (Dot × Entry)) → texts_after text_after before rows ≡ packed_rows_text key_text (dot_before before) rows
  rows_text [] before = refl
  rows_text (row ∷ rows) before =
      let now : dot_before (before ++ row ∷ []) ≡ row.0 = ap (λ (o : Option (Dot × Entry)). dot_or_zeroth (dot_of_row o)) (last-push before row) in
      ap (λ (t : List ℕ). text_after before row ++ t) (rows_text rows (before ++ row ∷ []) ∙ ap (λ (d : Dot). packed_rows_text key_text d rows) now)

-- ---- rows, for a format of their keys

module _ (one : HasOneText packed_at packed_text HasPackedText) where
  abbrev pub IsU32 : ℕ → Type 0
  IsU32 n = n < 2 ^ 32

  pub packed_u32_format : IsFormat read.packed_u32_at packed_text IsU32
  packed_u32_format =
      refit _ _ (λ n. HasPackedText n × (ltb n (2 ^ 32) ≡ true)) IsU32 (λ n h. ltb-true n (2 ^ 32) h.1) (λ n h. (omega (arith, h), lt-ltb n (2 ^ 32) h))
      (when_format (λ n. ltb n (2 ^ 32)) packed_at packed_text HasPackedText (packed_format one))

  module _ (key : Reader (List ℕ)) (key_text : List ℕ → List ℕ) (IsKey : List ℕ → Type 0) (are_texts : (k : List ℕ) → IsKey k → IsKeyText k) (key_is : IsFormat key key_text IsKey) where
    row_format : (s : Dots) → AreOnlyDots s → (before : List (Dot × Entry)) → IsFormat (read.packed_row_at key s before) (text_after key_text before) (λ row. IsRowAfter s before row × HasKeys IsKey row)
    unfolding read.packed_row_at
    row_format s dots before =
        refit _ _ _ (λ row. IsRowAfter s before row × HasKeys IsKey row) (λ row h. ((h.0, h.1.0), h.1.1)) (λ row h. (h.0.0, (h.0.1, h.1)))
        (pair_format _ _ _ _ _ _ (dot_format one s dots before) (entry_format IsKey are_texts one key key_text key_is))

    pub packed_lives_format : (s : Dots) → AreOnlyDots s → IsFormat (read.packed_lives_at key s) (packed_lives_text key_text) (AreLiveOf IsKey s)
    unfolding read.packed_lives_at
    packed_lives_format s dots =
        respell _ (λ rows. packed_text (length rows) ++ texts_after (text_after key_text) [] rows) (packed_lives_text key_text) (AreLiveOf IsKey s)
        (λ rows _. ap (λ (t : List ℕ). packed_text (length rows) ++ t) (rows_text key_text rows []))
        (refit _ _ _ (AreLiveOf IsKey s)
        (λ rows h. (let both = all_both (IsRowAfter s) (HasKeys IsKey) [] rows h.1 in ((h.0, rows_of s rows both.0), both.1)))
        (λ rows h. (h.0.0, both_all (IsRowAfter s) (HasKeys IsKey) [] rows (of_rows s rows [] (follows_none rows) (rows_fit s rows h.0.1.0) h.0.1.1) h.1))
        (after_list_format (read.packed_row_at key s) (text_after key_text) (λ before row. IsRowAfter s before row × HasKeys IsKey row) (row_format s dots) read.packed_u32_at packed_text IsU32 packed_u32_format))

  -- ---- by the keys of a table

  module _ (table : List (List ℕ)) (is : IsShortTable table) where
    number_there : (k : List ℕ) → has_key table k ≡ true → IsU32 (table_number table k) × (slice_get table (table_number table k) ≡ Some k)
    number_there k h = (let few = is.0 in let less = number_below table k h in (omega (arith, few, less), key_at_number table k h))

    number_back : (n : ℕ) (k : List ℕ) → IsU32 n → slice_get table n ≡ Some k → (has_key table k ≡ true) × (table_number table k ≡ n)
    number_back n k lt at = (has_at table n k at, number_at_place table n k is.1.differ at)

    pub packed_key_format : IsFormat (read.packed_key_at table) (packed_key_text table) (IsKeyOf table)
    unfolding read.packed_key_at
    packed_key_format = drawn_format (slice_get table) (table_number table) read.packed_u32_at packed_text IsU32 (IsKeyOf table) number_there number_back packed_u32_format

    pub packed_key_one_text : HasOneText (read.packed_key_at table) (packed_key_text table) (IsKeyOf table)
    packed_key_one_text = one_text _ _ _ packed_key_format

    pub packed_lives_one_text : (s : Dots) → AreDotsOf 256 s → HasOneText (read.packed_lives_at (read.packed_key_at table) s) (packed_lives_text (packed_key_text table)) (AreTabledRows table s)
    packed_lives_one_text s dots =
        one_text _ _ _
        (refit _ _ (AreLiveOf (IsKeyOf table) s) (AreTabledRows table s)
        (λ rows h. record { few = h.0.0; are_rows = h.0.1.0; each_row = h.0.1.1; keys = h.1 })
        (λ rows h. ((h.few, (h.are_rows, h.each_row)), h.keys))
        (packed_lives_format (read.packed_key_at table) (packed_key_text table) (IsKeyOf table) (λ k h. has_all is_key_text table k is.1.texts h) packed_key_format s (λ d h. (dots d h).0)))
