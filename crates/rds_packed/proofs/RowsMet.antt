-- What is known of live rows with one more that was read.
use Rattle.std.proofs.Common.{◌≡◌, ℕ, List, [], ◌∷◌, ◌++◌, Option, Some, Ok, refl, sym, ap, subst, ◌∙◌}
use Rattle.std.specs.Prelude.{fold}
use Rattle.std.proofs.lemmas.Grind.{flat_map-append}
use Rattle.std.proofs.lemmas.List.{append-nil}
use Rattle.rds_names.specs.declared.entry.Entry.{Entry}
use Rattle.rds_dots.specs.declared.dot.Dot.{Dot}
use Rattle.rds_dots.specs.Dots.{Dots}
use Rattle.rds_life.specs.Life.{AreRows}
use Rattle.rds_bytes.specs.Reading.{Reader, made_at}
use Rattle.rds_bytes.specs.Table.{after_key, live_keys}
use Rattle.rds_bytes.specs.TableValue.{TableValue, meeting}
use Rattle.rds_bytes.proofs.MetKeys.{table_after}
use Rattle.rds_feeds.specs.Numbered.{met_of, with_met}
use Rattle.rds_feeds.specs.Parts.{WasRead}
use Rattle.rds_feeds.specs.WasRead.{made_read}
use Rattle.rds_packed.specs.GoOn.{packed_rows_go_on}
use Rattle.rds_packed.specs.PackedReading.{packed_row_at}

abbrev pub met_by : List (List ℕ) → List (Dot × Entry) → Option ℕ
met_by table rows = met_of table (live_keys rows)

-- they are rows, and what they meet was told
pub row_added : (key : Reader (List ℕ)) (seen : Dots) (table : List (List ℕ)) (rows : List (Dot × Entry)) (part : (Dot × Entry) × Option ℕ) → AreRows seen rows
    → WasRead (made_at (with_met (met_by table) rows) (packed_row_at key seen rows)) part → (part.1 ≡ met_by table (rows ++ part.0 ∷ [])) × AreRows seen (rows ++ part.0 ∷ [])
row_added key seen table rows part are read =
    let made = made_read (with_met (met_by table) rows) (packed_row_at key seen rows) read.0 part read.1 read.2 in
    let go = packed_rows_go_on key seen rows made.0 are (read.0, read.1, made.1, read.3) in
    subst (λ (x : (Dot × Entry) × Option ℕ). (x.1 ≡ met_by table (rows ++ x.0 ∷ [])) × AreRows seen (rows ++ x.0 ∷ [])) made.2 (refl, go)

module _ {K : Type 0} (f : K → List ℕ → K) where
  fold_append : (k : K) (xs ys : List (List ℕ)) → fold f k (xs ++ ys) ≡ fold f (fold f k xs) ys
  fold_append k [] ys = refl
  fold_append k (x ∷ xs) ys = fold_append (f k x) xs ys

-- what is read with what it meets
pub met_found : {A : Type 0} (met_by : List A → Option ℕ) (before : List A) (f : Reader A) (bytes : List ℕ) (a : A) (met : Option ℕ) (rest : List ℕ) → f bytes ≡ Ok (a, rest) → met ≡ met_by (before ++ a ∷ [])
    → made_at (with_met met_by before) f bytes ≡ Ok ((a, met), rest)
met_found met_by before f bytes a met rest read is = rw read (ap (λ (m : Option ℕ). Ok ((a, m), rest)) (sym is))

module _ (table : List (List ℕ)) (rows : List (Dot × Entry)) (row : Dot × Entry) where
  live_keys_push : live_keys (rows ++ row ∷ []) ≡ live_keys rows ++ row.1.path
  live_keys_push = flat_map-append (λ (r : Dot × Entry). r.1.path) rows (row ∷ []) ∙ ap (λ (keys : List (List ℕ)). live_keys rows ++ keys) (append-nil row.1.path)

  -- what is met after one more row
  pub row_met : (met : Option ℕ) (now : TableValue) → met ≡ met_by table rows → now ≡ fold meeting (record { keys = table; met = met }) row.1.path → now.met ≡ met_by table (rows ++ row ∷ [])
  row_met met now so_far is =
      ap (λ (t : TableValue). t.met) (is ∙ table_after row.1.path (record { keys = table; met = met }))
      ∙ ap (λ (m : Option ℕ). fold (after_key table) m row.1.path) so_far
      ∙ sym (fold_append (after_key table) (Some 0) (live_keys rows) row.1.path)
      ∙ ap (met_of table) (sym live_keys_push)
