-- The texts of rows with numbers in place of their keys, and their lengths.
use Rattle.std.proofs.Common.{◌≡◌, ℕ, suc, ◌+◌, ◌*◌, ◌<◌, ◌≤◌, ◌^◌, List, [], ◌∷◌, ◌++◌, length, take, drop, refl, sym, ap, ◌∙◌, arith, append_assoc, length-append, map as each}
use Rattle.std.specs.List.{flat_map, AllByRecursion}
use Rattle.std.specs.Int.{w32, to_be_bytes}
use Rattle.std.proofs.lemmas.List.Concat.{flat_map-cons}
use Rattle.rds_names.specs.declared.entry.Entry.{Entry}
use Rattle.rds_dots.specs.declared.dot.Dot.{Dot}
use Rattle.rds_counts.specs.declared.row.CountRow.{CountRow}
use Rattle.rds_counts.specs.Counted.{Counted}
use Rattle.rds_counts.specs.RowsOf.{count_rows}
use Rattle.rds_bytes.specs.Spelling.{byte_text, kind_byte, scalar_text, dot_text, keyed_live_row_text, keyed_live_rows_text, keyed_count_row_text, keyed_count_rows_text, keyed_counters_text}
use Rattle.rds_bytes.specs.Table.{table_of, table_number, live_keys, counter_keys, used_keys}
use Rattle.rds_bytes.specs.TableTexts.{number_text}
use Rattle.rds_bytes.specs.Numbers.{numbers_text, numbered_row_text, numbered_rows_text, numbered_counts_text, count_of_keys, numbered_length}
use Rattle.rds_bytes.proofs.NumberLaws.{paths_more}

each_append : (f : List ℕ → ℕ) (xs ys : List (List ℕ)) → each f (xs ++ ys) ≡ each f xs ++ each f ys
each_append f [] ys = refl
each_append f (x ∷ xs) ys = ap (λ (t : List ℕ). f x ∷ t) (each_append f xs ys)

take_each : (f : List ℕ → ℕ) (xs ys : List (List ℕ)) → take (length xs) (each f (xs ++ ys)) ≡ each f xs
take_each f [] ys = refl
take_each f (x ∷ xs) ys = ap (λ (t : List ℕ). f x ∷ t) (take_each f xs ys)

drop_each : (f : List ℕ → ℕ) (xs ys : List (List ℕ)) → drop (length xs) (each f (xs ++ ys)) ≡ each f ys
drop_each f [] ys = refl
drop_each f (x ∷ xs) ys = drop_each f xs ys

numbers_spelled : (table keys : List (List ℕ)) → numbers_text (each (table_number table) keys) ≡ flat_map (number_text table) keys
numbers_spelled table [] = refl
numbers_spelled table (k ∷ keys) =
    flat_map-cons (to_be_bytes w32) (table_number table k) (each (table_number table) keys)
    ∙ ap (λ (t : List ℕ). number_text table k ++ t) (numbers_spelled table keys)
    ∙ sym (flat_map-cons (number_text table) k keys)

module _ (table : List (List ℕ)) where
  abbrev f : List ℕ → ℕ
  f = table_number table

  regrouped : (row : Dot × Entry) (rows : List (Dot × Entry)) (more : List (List ℕ)) → live_keys (row ∷ rows) ++ more ≡ row.1.path ++ (live_keys rows ++ more)
  regrouped row rows more = ap (λ (t : List (List ℕ)). t ++ more) (paths_more row rows) ∙ append_assoc row.1.path (live_keys rows) more

  row_spelled : (row : Dot × Entry) → numbered_row_text row (each f row.1.path) ≡ keyed_live_row_text (number_text table) row
  row_spelled row = ap (λ (t : List ℕ). dot_text row.0 ++ ((byte_text (length row.1.path) ++ t) ++ (byte_text (kind_byte row.1.kind) ++ scalar_text row.1.value))) (numbers_spelled table row.1.path)

  pub rows_spelled : (rows : List (Dot × Entry)) (more : List (List ℕ)) → numbered_rows_text rows (each f (live_keys rows ++ more)) ≡ flat_map (keyed_live_row_text (number_text table)) rows
  rows_spelled [] more = refl
  rows_spelled (row ∷ rows) more =
      let n = length row.1.path in
      let ns = ap (each f) (regrouped row rows more) in
      (λ i. numbered_row_text row (take n (ns i)) ++ numbered_rows_text rows (drop n (ns i)))
      ∙ (λ i. numbered_row_text row (take_each f row.1.path (live_keys rows ++ more) i) ++ numbered_rows_text rows (drop_each f row.1.path (live_keys rows ++ more) i))
      ∙ (λ i. row_spelled row i ++ rows_spelled rows more i)
      ∙ sym (flat_map-cons (keyed_live_row_text (number_text table)) row rows)

  pub counts_spelled : (counts : List CountRow) → numbered_counts_text counts (each f (counter_keys counts)) ≡ flat_map (keyed_count_row_text (number_text table)) counts
  counts_spelled [] = refl
  counts_spelled (r ∷ counts) = ap (λ (t : List ℕ). keyed_count_row_text (number_text table) r ++ t) (counts_spelled counts) ∙ sym (flat_map-cons (keyed_count_row_text (number_text table)) r counts)

  keys_counted : (rows : List (Dot × Entry)) → count_of_keys rows ≡ length (live_keys rows)
  keys_counted [] = refl
  keys_counted (row ∷ rows) = (λ i. length row.1.path + keys_counted rows i) ∙ sym (length-append row.1.path (live_keys rows)) ∙ sym (ap length (paths_more row rows))

  pub numbers_left : (rows : List (Dot × Entry)) (more : List (List ℕ)) → drop (count_of_keys rows) (each f (live_keys rows ++ more)) ≡ each f more
  numbers_left rows more = ap (λ n. drop n (each f (live_keys rows ++ more))) (keys_counted rows) ∙ drop_each f (live_keys rows) more

  length_each : (keys : List (List ℕ)) → length (each f keys) ≡ length keys
  length_each [] = refl
  length_each (k ∷ keys) = ap suc (length_each keys)

  pub numbers_enough : (rows : List (Dot × Entry)) (more : List (List ℕ)) → count_of_keys rows ≤ length (each f (live_keys rows ++ more))
  numbers_enough rows more = let a = length_each (live_keys rows ++ more) in let b = length-append (live_keys rows) more in let c = keys_counted rows in omega (arith, a, b, c)

  pub counts_enough : (counts : List CountRow) → length counts ≤ length (each f (counter_keys counts))
  counts_enough [] = omega arith
  counts_enough (r ∷ counts) = let more = counts_enough counts in omega arith

  number_lengths : (keys : List (List ℕ)) → length (flat_map (number_text table) keys) ≡ 4 * length keys
  number_lengths [] = refl
  number_lengths (k ∷ keys) =
      let a = ap length (flat_map-cons (number_text table) k keys) ∙ length-append (number_text table k) (flat_map (number_text table) keys) in
      let b = number_lengths keys in
      omega (arith, a, b)

  row_length : (row : Dot × Entry) → length (keyed_live_row_text (number_text table) row) ≡ 11 + 4 * length row.1.path + length (scalar_text row.1.value)
  row_length row =
      let keys = flat_map (number_text table) row.1.path in
      let tail = byte_text (kind_byte row.1.kind) ++ scalar_text row.1.value in
      let a = length-append (byte_text (length row.1.path) ++ keys) tail in
      let b = number_lengths row.1.path in
      omega (arith, a, b)

  pub rows_length : (rows : List (Dot × Entry)) → length (flat_map (keyed_live_row_text (number_text table)) rows) ≡ numbered_length rows
  rows_length [] = refl
  rows_length (row ∷ rows) =
      let a = ap length (flat_map-cons (keyed_live_row_text (number_text table)) row rows) ∙ length-append (keyed_live_row_text (number_text table) row) (flat_map (keyed_live_row_text (number_text table)) rows) in
      let b = row_length row in
      let c = rows_length rows in
      omega (arith, a, b, c)

  pub counts_length : (counts : List CountRow) → length (flat_map (keyed_count_row_text (number_text table)) counts) ≡ 21 * length counts
  counts_length [] = refl
  counts_length (r ∷ counts) =
      let a = ap length (flat_map-cons (keyed_count_row_text (number_text table)) r counts) ∙ length-append (keyed_count_row_text (number_text table) r) (flat_map (keyed_count_row_text (number_text table)) counts) in
      let b = counts_length counts in
      omega (arith, a, b)

-- ---- rows and counters with the numbers of their own table

module _ (rows : List (Dot × Entry)) (counts : List CountRow) (numbers : List ℕ) (are : numbers ≡ each (table_number (table_of (used_keys rows counts))) (used_keys rows counts)) where
  abbrev own : List (List ℕ)
  own = table_of (used_keys rows counts)

  pub own_enough : count_of_keys rows ≤ length numbers
  own_enough = rw are (numbers_enough own rows (counter_keys counts))

  pub own_left : drop (count_of_keys rows) numbers ≡ each (table_number own) (counter_keys counts)
  own_left = ap (drop (count_of_keys rows)) are ∙ numbers_left own rows (counter_keys counts)

  pub own_rows : numbered_rows_text rows numbers ≡ flat_map (keyed_live_row_text (number_text own)) rows
  own_rows = ap (numbered_rows_text rows) are ∙ rows_spelled own rows (counter_keys counts)

  pub own_counts : (left : List ℕ) → left ≡ drop (count_of_keys rows) numbers → numbered_counts_text counts left ≡ flat_map (keyed_count_row_text (number_text own)) counts
  own_counts left is = ap (numbered_counts_text counts) (is ∙ own_left) ∙ counts_spelled own counts

  pub left_enough : (left : List ℕ) → left ≡ drop (count_of_keys rows) numbers → length counts ≤ length left
  left_enough left is = rw (is ∙ own_left) (counts_enough own counts)

  -- what was added, part after part
  pub all_added : (a b c d e left : List ℕ) → left ≡ drop (count_of_keys rows) numbers → b ≡ a ++ to_be_bytes w32 (length rows) → c ≡ b ++ numbered_rows_text rows numbers → d ≡ c ++ to_be_bytes w32 (length counts) → e ≡ d ++ numbered_counts_text counts left
      → e ≡ a ++ (keyed_live_rows_text (number_text own) rows ++ keyed_count_rows_text (number_text own) counts)
  all_added a b c d e left is p q r s =
      let n = to_be_bytes w32 (length rows) in
      let m = to_be_bytes w32 (length counts) in
      let x = flat_map (keyed_live_row_text (number_text own)) rows in
      let y = flat_map (keyed_count_row_text (number_text own)) counts in
      let c_is : c ≡ a ++ (n ++ x) = q ∙ (λ i. p i ++ own_rows i) ∙ append_assoc a n x in
      let e_is : e ≡ c ++ (m ++ y) = s ∙ (λ i. r i ++ own_counts left is i) ∙ append_assoc c m y in
      e_is ∙ ap (λ (t : List ℕ). t ++ (m ++ y)) c_is ∙ append_assoc a (n ++ x) (m ++ y)

-- ---- lengths, whatever the table

pub lives_length : (rows : List (Dot × Entry)) (table : List (List ℕ)) → 4 + numbered_length rows ≡ length (keyed_live_rows_text (number_text table) rows)
lives_length rows table =
    let a = rows_length table rows in
    let b = length-append (to_be_bytes w32 (length rows)) (flat_map (keyed_live_row_text (number_text table)) rows) in
    omega (arith, a, b)

pub counters_length : (m : Counted) (table : List (List ℕ)) → 4 + 21 * length (count_rows m) ≡ length (keyed_counters_text (number_text table) m)
unfolding keyed_counters_text
counters_length m table =
    let a = counts_length table (count_rows m) in
    let b = length-append (to_be_bytes w32 (length (count_rows m))) (flat_map (keyed_count_row_text (number_text table)) (count_rows m)) in
    omega (arith, a, b)
