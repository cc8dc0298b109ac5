-- Live rows are no more than the bytes of their text.
use Rattle.std.proofs.Common.{ℕ, ◌≤◌, List, [], ◌∷◌, length, arith, length-append}
use Rattle.rds_names.specs.declared.entry.Entry.{Entry}
use Rattle.rds_dots.specs.declared.dot.Dot.{Dot}
use Rattle.rds_bytes.specs.Packed.{packed_text}
use Rattle.rds_packed.specs.PackedTexts.{zeroth_dot, dot_step_text, packed_entry_text, packed_row_text, packed_rows_text, packed_lives_text}

module _ (key_text : List ℕ → List ℕ) where
  rows_below : (rows : List (Dot × Entry)) (from : Dot) → length rows ≤ length (packed_rows_text key_text from rows)
  rows_below [] from = omega arith
  rows_below (row ∷ rows) from =
      let later = rows_below rows row.0 in
      let both = length-append (packed_row_text key_text from row) (packed_rows_text key_text row.0 rows) in
      let own = length-append (dot_step_text from row.0) (packed_entry_text key_text row.1) in
      omega (arith, later, both, own)

  pub lives_below : (rows : List (Dot × Entry)) → length rows ≤ length (packed_lives_text key_text rows)
  lives_below rows =
      let all = rows_below rows zeroth_dot in
      let both = length-append (packed_text (length rows)) (packed_rows_text key_text zeroth_dot rows) in
      omega (arith, all, both)
