-- What a table that was read is after it gave the keys of rows.
use Rattle.std.proofs.Common.{◌≡◌, ◌↔◌, ℕ, true, List, [], ◌∷◌, ◌++◌, length, Option, Some, refl, sym, ap, ◌∙◌}
use Rattle.std.specs.Prelude.{fold}
use Rattle.std.specs.Cmp.Lexicographic.{pointwise_decides}
use Rattle.std.proofs.lemmas.List.Concat.{flat_map-cons}
use Rattle.std.proofs.lemmas.Slice.Eq.{bytes_eq-Decides}
use Rattle.rds_names.specs.Roster.{all_differ}
use Rattle.rds_names.specs.declared.entry.Entry.{Entry}
use Rattle.rds_dots.specs.declared.dot.Dot.{Dot}
use Rattle.rds_counts.specs.declared.row.CountRow.{CountRow}
use Rattle.rds_bytes.specs.Sources.{after_rows, after_counts}
use Rattle.rds_bytes.specs.Table.{AreIn, table_of, after_key, live_keys, counter_keys, used_keys, is_tabled}
use Rattle.rds_bytes.specs.TableValue.{TableValue, meeting}
use Rattle.rds_bytes.proofs.TableLaws.{is_table, meets_all}

-- ---- a source after the keys of rows

module _ {K : Type 0} (f : K → List ℕ → K) where
  fold_append : (k : K) (xs ys : List (List ℕ)) → fold f k (xs ++ ys) ≡ fold f (fold f k xs) ys
  fold_append k [] ys = refl
  fold_append k (x ∷ xs) ys = fold_append (f k x) xs ys

  rows_folded : (k : K) (rows : List (Dot × Entry)) → fold f k (live_keys rows) ≡ after_rows f k rows
  rows_folded k [] = refl
  rows_folded k (row ∷ rows) =
      ap (fold f k) (flat_map-cons (λ (row : Dot × Entry). row.1.path) row rows) ∙ fold_append k row.1.path (live_keys rows) ∙ rows_folded (fold f k row.1.path) rows

  counts_folded : (k : K) (rows : List CountRow) → fold f k (counter_keys rows) ≡ after_counts f k rows
  counts_folded k [] = refl
  counts_folded k (r ∷ rows) = counts_folded (f k r.key) rows

  -- after the keys that rows use
  pub used_folded : (k : K) (rows : List (Dot × Entry)) (counts : List CountRow) → fold f k (used_keys rows counts) ≡ after_counts f (after_rows f k rows) counts
  used_folded k rows counts =
      fold_append k (live_keys rows) (counter_keys counts) ∙ ap (λ (j : K). fold f j (counter_keys counts)) (rows_folded k rows) ∙ counts_folded (after_rows f k rows) counts

-- ---- a table

-- it keeps its keys, and meets them
pub table_after : (keys : List (List ℕ)) (t : TableValue) → fold meeting t keys ≡ (let s : TableValue = record { keys = t.keys; met = fold (after_key t.keys) t.met keys } in s)
table_after [] t = refl
table_after (k ∷ keys) t = table_after keys (meeting t k)

module _ (t : TableValue) (rows : List (Dot × Entry)) (counts : List CountRow) (differ : all_differ t.keys ≡ true) (none : t.met ≡ Some 0) (are : AreIn t.keys (used_keys rows counts)) where
  abbrev later : TableValue
  later = after_counts meeting (after_rows meeting t rows) counts

  met_is : later.met ≡ fold (after_key t.keys) (Some 0) (used_keys rows counts)
  met_is =
      ap (λ (s : TableValue). s.met) (sym (used_folded meeting t rows counts) ∙ table_after (used_keys rows counts) t)
      ∙ ap (λ (m : Option ℕ). fold (after_key t.keys) m (used_keys rows counts)) none

  -- all of the table was met in turn exactly where it has the keys in the order of first use
  pub rows_meet : (is_tabled t.keys (used_keys rows counts) ≡ true) ↔ (later.met ≡ Some (length t.keys))
  rows_meet = (
    λ tabled. met_is ∙ meets_all t.keys differ (used_keys rows counts) are ((pointwise_decides bytes_eq-Decides (table_of (used_keys rows counts)) t.keys).0 tabled),
    λ met. (pointwise_decides bytes_eq-Decides (table_of (used_keys rows counts)) t.keys).1 (is_table t.keys differ (used_keys rows counts) are (sym met_is ∙ met)),
  )
