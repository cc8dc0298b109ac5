-- Rows with the numbers of their keys in a table are spelled by these keys.
use Rattle.std.proofs.Common.{◌≡◌, ℕ, ◌+◌, ◌<◌, Bool, true, ◌&&◌, List, [], ◌∷◌, ◌++◌, length, take, drop, Result, Ok, Err, refl, sym, ap, ◌∙◌, arith, append_assoc, length-append, map as each}
use Rattle.std.specs.List.{flat_map}
use Rattle.std.specs.FinSet as set
use Rattle.std.specs.Ordering.{is_lt, nat_cmp, ordering_then}
use Rattle.std.proofs.lemmas.Bool.Decides.{nat_tests}
use Rattle.std.proofs.lemmas.List.Concat.{flat_map-cons}
use Rattle.rds_names.specs.Conditions.{and_left, and_right}
use Rattle.rds_names.specs.declared.entry.Entry.{Entry}
use Rattle.rds_dots.specs.declared.dot.Dot.{Dot}
use Rattle.rds_dots.specs.Dots.{is_dot}
use Rattle.rds_dots.specs.Sets.{dot_limits}
use Rattle.rds_life.specs.Fits.{fits, dot_before_next}
use Rattle.rds_life.specs.Life.{Lived, live_rows, seen_of}
use Rattle.rds_life.proofs.LivedLemmas.{rows_fit}
use Rattle.rds_life.proofs.Views.{rows_of_lives}
use Rattle.rds_bytes.specs.Packed.{packed_text}
use Rattle.rds_bytes.specs.Table.{table_number, live_keys}
use Rattle.rds_bytes.specs.Writing.{Adds}
use Rattle.rds_bytes.proofs.NumberLaws.{paths_more}
use Rattle.rds_packed.specs.PackedTexts.{zeroth_dot, dot_step_text, entry_head, payload_text, packed_key_text, packed_row_text, packed_rows_text, packed_lives_text, CanStepAll, packed_numbers_text, numbers_entry_text, numbers_rows_text, AreNumbersIn}

take_each : (f : List ℕ → ℕ) (xs ys : List (List ℕ)) → take (length xs) (each f (xs ++ ys)) ≡ each f xs
take_each f [] ys = refl
take_each f (x ∷ xs) ys = ap (λ (t : List ℕ). f x ∷ t) (take_each f xs ys)

drop_each : (f : List ℕ → ℕ) (xs ys : List (List ℕ)) → drop (length xs) (each f (xs ++ ys)) ≡ each f ys
drop_each f [] ys = refl
drop_each f (x ∷ xs) ys = drop_each f xs ys

module _ (table : List (List ℕ)) where
  abbrev f : List ℕ → ℕ
  f = table_number table

  abbrev key_text : List ℕ → List ℕ
  key_text = packed_key_text table

  numbers_spelled : (keys : List (List ℕ)) → packed_numbers_text (each f keys) ≡ flat_map key_text keys
  numbers_spelled [] = refl
  numbers_spelled (k ∷ keys) = flat_map-cons packed_text (f k) (each f keys) ∙ ap (λ (t : List ℕ). key_text k ++ t) (numbers_spelled keys) ∙ sym (flat_map-cons key_text k keys)

  regrouped : (row : Dot × Entry) (rows : List (Dot × Entry)) (more : List (List ℕ)) → live_keys (row ∷ rows) ++ more ≡ row.1.path ++ (live_keys rows ++ more)
  regrouped row rows more = ap (λ (t : List (List ℕ)). t ++ more) (paths_more row rows) ∙ append_assoc row.1.path (live_keys rows) more

  row_spelled : (from : Dot) (row : Dot × Entry) → dot_step_text from row.0 ++ numbers_entry_text row.1 (each f row.1.path) ≡ packed_row_text key_text from row
  row_spelled from row = ap (λ (t : List ℕ). dot_step_text from row.0 ++ (entry_head row.1 ∷ (t ++ payload_text row.1.value))) (numbers_spelled row.1.path)

  rows_spelled : (from : Dot) (rows : List (Dot × Entry)) (more : List (List ℕ)) → numbers_rows_text from rows (each f (live_keys rows ++ more)) ≡ packed_rows_text key_text from rows
  rows_spelled from [] more = refl
  rows_spelled from (row ∷ rows) more =
      let n = length row.1.path in
      let ns = ap (each f) (regrouped row rows more) in
      (λ i. (dot_step_text from row.0 ++ numbers_entry_text row.1 (take n (ns i))) ++ numbers_rows_text row.0 rows (drop n (ns i)))
      ∙ (λ i. (dot_step_text from row.0 ++ numbers_entry_text row.1 (take_each f row.1.path (live_keys rows ++ more) i)) ++ numbers_rows_text row.0 rows (drop_each f row.1.path (live_keys rows ++ more) i))
      ∙ (λ i. row_spelled from row i ++ rows_spelled row.0 rows more i)

  module _ (rows : List (Dot × Entry)) (more : List (List ℕ)) (numbers : List ℕ) (are : AreNumbersIn table more rows numbers) where
    lives_spelled : packed_text (length rows) ++ numbers_rows_text zeroth_dot rows numbers ≡ packed_lives_text key_text rows
    lives_spelled = ap (λ (ns : List ℕ). packed_text (length rows) ++ numbers_rows_text zeroth_dot rows ns) are ∙ ap (λ (t : List ℕ). packed_text (length rows) ++ t) (rows_spelled zeroth_dot rows more)

    pub lives_measured : (count all : ℕ) → count ≡ length (packed_text (length rows)) → all ≡ length (numbers_rows_text zeroth_dot rows numbers) → count + all ≡ length (packed_lives_text key_text rows)
    lives_measured count all p q =
        let both = length-append (packed_text (length rows)) (numbers_rows_text zeroth_dot rows numbers) in
        omega (arith, p, q, both) ∙ ap length lives_spelled

    pub lives_added : {T E : Type 0} (r : Result T E) (old middle new : List ℕ) → middle ≡ old ++ packed_text (length rows) → Adds middle new (numbers_rows_text zeroth_dot rows numbers) r → Adds old new (packed_lives_text key_text rows) r
    lives_added (Ok t) old middle new p q =
        q ∙ ap (λ (l : List ℕ). l ++ numbers_rows_text zeroth_dot rows numbers) p ∙ append_assoc old (packed_text (length rows)) (numbers_rows_text zeroth_dot rows numbers) ∙ ap (λ (l : List ℕ). old ++ l) lives_spelled
    lives_added (Err e) old middle new p q = tt

-- ---- live dots can be told from one another

abbrev Rises : Dot → List (Dot × Entry) → Type 0
Rises from [] = Unit {0}
Rises from (row ∷ rows) = row.0.replica ≡ from.replica → from.seq < row.0.seq

rises_is : (a s b t : ℕ) → is_lt (ordering_then (nat_cmp a b) (nat_cmp s t)) ≡ true → b ≡ a → s < t
rises_is a s b t h e = grind (arith, nat_tests)

rises_next : (d : Dot) (rows : List (Dot × Entry)) → dot_before_next d rows ≡ true → Rises d rows
rises_next d [] h = tt
rises_next d (row ∷ rows) h = rises_is d.replica d.seq row.0.replica row.0.seq h

module _ (has : Dot → Bool) (dots : (d : Dot) → has d ≡ true → is_dot d ≡ true) where
  steps_of : (from : Dot) (rows : List (Dot × Entry)) → fits has rows ≡ true → Rises from rows → CanStepAll from rows
  steps_of from [] fit first = tt
  steps_of from (row ∷ rows) fit first =
      let front = and_left (has row.0 && dot_before_next row.0 rows) (fits has rows) fit in
      let limits = dot_limits row.0 (dots row.0 (and_left (has row.0) (dot_before_next row.0 rows) front)) in (
        record { rises = first; within = limits.within },
        steps_of row.0 rows (and_right (has row.0 && dot_before_next row.0 rows) (fits has rows) fit) (rises_next row.0 rows (and_right (has row.0) (dot_before_next row.0 rows) front)),
      )

  first_rises : (rows : List (Dot × Entry)) → fits has rows ≡ true → Rises zeroth_dot rows
  first_rises [] fit = tt
  first_rises (row ∷ rows) fit =
      let front = and_left (has row.0 && dot_before_next row.0 rows) (fits has rows) fit in
      let limits = dot_limits row.0 (dots row.0 (and_left (has row.0) (dot_before_next row.0 rows) front)) in
      let some = limits.from_one in
      λ same. omega (arith, some)

pub live_dots_step : (v : Lived) → ((d : Dot) → set.contains (seen_of v) d ≡ true → is_dot d ≡ true) → CanStepAll zeroth_dot (live_rows v)
live_dots_step v dots =
    let fit = rows_fit (seen_of v) (live_rows v) (rows_of_lives v) in
    steps_of (set.contains (seen_of v)) dots zeroth_dot (live_rows v) fit (first_rises (set.contains (seen_of v)) dots (live_rows v) fit)
