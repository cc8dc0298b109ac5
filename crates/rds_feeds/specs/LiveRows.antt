-- Live rows that were read are rows.
use Rattle.std.proofs.Common.{◌≡◌, ℕ, Bool, true, ◌&&◌, List, [], ◌∷◌, ◌++◌, Option, Some, refl, sym, ap, subst, ◌∙◌, append_assoc}
use Rattle.std.specs.FinSet as set
use Rattle.rds_names.specs.Conditions.{and_true, and_left, and_right}
use Rattle.rds_names.specs.declared.entry.Entry.{Entry}
use Rattle.rds_dots.specs.declared.dot.Dot.{Dot}
use Rattle.rds_dots.specs.Dots.{Dots, comes_after}
use Rattle.rds_life.specs.Fits.{fits, dot_before_next}
use Rattle.rds_life.specs.Life.{Lived, AreRows, lives_of}
use Rattle.rds_life.proofs.LivedLemmas.{fits_rows, rows_fit}
use Rattle.rds_bytes.specs.Reading.{Reader, pair_at, made_at, byte_at, number_at, dot_by, dot_of_row, last, is_next_dot, key_at, dot_at, keyed_entry_at, live_row_at, keyed_live_row_at}
use Rattle.rds_bytes.proofs.PartFormats.{last-push}
use Rattle.rds_bytes.proofs.ShortKeys.{live_row_is}
use Rattle.std.specs.Int.{w64}
use Rattle.rds_feeds.specs.Parts.{WasRead}
use Rattle.rds_feeds.specs.WasRead.{then_read, when_read}

-- the lives of seen dots and live rows
abbrev pub lives_by : Dots × List (Dot × Entry) → Lived
lives_by p = lives_of p.0 p.1

fits_push : (has : Dot → Bool) (rows pre : List (Dot × Entry)) (row : Dot × Entry) → fits has rows ≡ true → has row.0 ≡ true → comes_after (dot_of_row (last (pre ++ rows))) row.0 ≡ true
    → fits has (rows ++ row ∷ []) ≡ true
fits_push has [] pre row fit seen after = and_true _ _ (and_true _ _ seen refl) refl
fits_push has (r ∷ []) pre row fit seen after =
    let next : comes_after (Some r.0) row.0 ≡ true = ap (λ (o : Option (Dot × Entry)). comes_after (dot_of_row o) row.0) (sym (last-push pre r)) ∙ after in
    let had = and_left (has r.0) true (and_left (has r.0 && true) true fit) in
    and_true _ _ (and_true _ _ had next) (and_true _ _ (and_true _ _ seen refl) refl)
fits_push has (r ∷ (s ∷ rows)) pre row fit seen after =
    let front = and_left (has r.0 && dot_before_next r.0 (s ∷ rows)) (fits has (s ∷ rows)) fit in
    let later = and_right (has r.0 && dot_before_next r.0 (s ∷ rows)) (fits has (s ∷ rows)) fit in
    let again : comes_after (dot_of_row (last ((pre ++ r ∷ []) ++ (s ∷ rows)))) row.0 ≡ true =
    ap (λ (rs : List (Dot × Entry)). comes_after (dot_of_row (last rs)) row.0) (append_assoc pre (r ∷ []) (s ∷ rows)) ∙ after in
    and_true _ _ front (fits_push has (s ∷ rows) (pre ++ r ∷ []) row later seen again)

abbrev any_dot_at : Reader Dot
any_dot_at = made_at dot_by (pair_at byte_at (number_at w64))

next_read : (key : Reader (List ℕ)) (seen : Dots) (before : List (Dot × Entry)) (row : Dot × Entry) → WasRead (keyed_live_row_at key seen before) row → is_next_dot seen before row.0 ≡ true
unfolding keyed_live_row_at dot_at
next_read key seen before row read =
    let both = then_read (dot_at seen before) (λ _. keyed_entry_at key) read.0 row read.1 read.2 in
    let next = when_read (is_next_dot seen before) any_dot_at read.0 both.first both.middle both.first_is in
    subst (λ (r : Dot × Entry). is_next_dot seen before r.0 ≡ true) both.are next.1

pub no_live_rows : (seen : Dots) → AreRows seen []
no_live_rows seen = record { rise = refl; seen_all = refl }

-- whatever reads their keys
pub keyed_rows_go_on : (key : Reader (List ℕ)) (seen : Dots) (rows : List (Dot × Entry)) (row : Dot × Entry) → AreRows seen rows → WasRead (keyed_live_row_at key seen rows) row → AreRows seen (rows ++ row ∷ [])
keyed_rows_go_on key seen rows row are read =
    let next = next_read key seen rows row read in
    let after = and_left (comes_after (dot_of_row (last rows)) row.0) (set.contains seen row.0) next in
    let has = and_right (comes_after (dot_of_row (last rows)) row.0) (set.contains seen row.0) next in
    fits_rows seen (rows ++ row ∷ []) (fits_push (set.contains seen) rows [] row (rows_fit seen rows are) has after)

pub live_rows_go_on : (seen : Dots) (rows : List (Dot × Entry)) (row : Dot × Entry) → AreRows seen rows → WasRead (live_row_at seen rows) row → AreRows seen (rows ++ row ∷ [])
live_rows_go_on seen rows row are read =
    keyed_rows_go_on key_at seen rows row are (subst (λ (f : Reader (Dot × Entry)). WasRead f row) (sym (live_row_is seen rows)) read)
