-- The rows of live dots are a format, for each format of their keys.
use Rattle.std.proofs.Common.{◌≡◌, ℕ, ◌^◌, ◌<◌, Bool, true, ◌&&◌, List, [], ◌∷◌, ◌++◌, length, Option, Some, None, refl, sym, ap, ◌∙◌, arith}
use Rattle.std.specs.List.{AllByRecursion, list_all}
use Rattle.std.specs.FinSet as set
use Rattle.rds_names.specs.declared.entry.Entry.{Entry}
use Rattle.rds_dots.specs.declared.dot.Dot.{Dot}
use Rattle.rds_dots.specs.Dots.{Dots, is_dot, comes_after}
use Rattle.rds_dots.specs.Sets.{dot_limits}
use Rattle.rds_names.specs.Conditions.{and_true, and_left, and_right}
use Rattle.rds_life.specs.Fits.{fits, dot_before_next}
use Rattle.rds_life.specs.Life.{AreRows}
use Rattle.rds_life.proofs.LivedLemmas.{fits_rows, rows_fit}
use Rattle.rds_bytes.specs.Values.{is_key_text, IsKeyText, IsEntry, IsLiveRow, HasKeys}
use Rattle.rds_bytes.specs.Spelling.{short_text, dot_text, keyed_live_row_text, keyed_live_rows_text, live_rows_text}
use Rattle.rds_bytes.specs.Reading as read
use Rattle.rds_bytes.specs.Reading.{Reader, last, dot_of_row, is_next_dot}
use Rattle.rds_bytes.proofs.Format.{IsFormat, byte_format, number32, number64, pair_format, made_format, when_format, refit}
use Rattle.rds_bytes.proofs.Lists.{AllAfter, all_both, both_all, list_format}
use Rattle.rds_bytes.proofs.PartFormats.{key_format, last-push}
use Rattle.rds_bytes.proofs.EntryFormats.{entry_format}

abbrev AreNumbers : Dot → Type 0
AreNumbers d = (d.replica < 256) × (d.seq < 2 ^ 64)

has_numbers : (d : Dot) → is_dot d ≡ true → AreNumbers d
has_numbers d is =
    let limits = dot_limits d is in
    let small = limits.small in
    let within = limits.within in
    (omega arith, omega arith)

-- each dot of the set is one
abbrev pub AreOnlyDots : Dots → Type 0
AreOnlyDots s = (d : Dot) → set.contains s d ≡ true → is_dot d ≡ true

dot_format : (s : Dots) → AreOnlyDots s → (before : List (Dot × Entry)) → IsFormat (read.dot_at s before) dot_text (λ d. is_next_dot s before d ≡ true)
unfolding read.dot_at
dot_format s dots before =
    refit _ _ _ (λ d. is_next_dot s before d ≡ true) (λ d h. h.1) (λ d h. (has_numbers d (dots d (and_right (comes_after (dot_of_row (last before)) d) _ h)), h))
    (when_format (is_next_dot s before) _ _ _ (made_format read.dot_by (λ d. (d.replica, d.seq)) _ _ _ AreNumbers (λ d h. (h, refl)) (λ p h. (h, refl)) (pair_format _ _ _ _ _ _ byte_format number64)))

abbrev pub IsDotAfter : Dots → List (Dot × Entry) → Dot × Entry → Type 0
IsDotAfter s before row = is_next_dot s before row.0 ≡ true

abbrev IsRowAfter : Dots → List (Dot × Entry) → Dot × Entry → Type 0
IsRowAfter s before row = IsDotAfter s before row × IsEntry row.1

-- the first of the rows comes after a dot
abbrev pub follows : Option Dot → List (Dot × Entry) → Bool
follows after [] = true
follows after (row ∷ rows) = comes_after after row.0

next_is : (d : Dot) (rows : List (Dot × Entry)) → follows (Some d) rows ≡ dot_before_next d rows
next_is d [] = refl
next_is d (row ∷ rows) = refl

abbrev pub AreLive : Dots → List (Dot × Entry) → Type 0
AreLive s rows = AreRows s rows × AllByRecursion IsLiveRow rows

pub dots_fit : (s : Dots) (rows before : List (Dot × Entry)) → AllAfter (IsDotAfter s) before rows → (follows (dot_of_row (last before)) rows ≡ true) × (fits (set.contains s) rows ≡ true)
dots_fit s [] before h = (refl, refl)
dots_fit s (row ∷ rows) before h =
    let again = dots_fit s rows (before ++ row ∷ []) h.1 in
    let d = row.0 in
    let next : dot_before_next d rows ≡ true = sym (next_is d rows) ∙ ap (λ (o : Option (Dot × Entry)). follows (dot_of_row o) rows) (sym (last-push before row)) ∙ again.0 in
    (and_left (comes_after (dot_of_row (last before)) d) _ h.0, and_true _ _ (and_true _ _ (and_right (comes_after (dot_of_row (last before)) d) _ h.0) next) again.1)

rows_of : (s : Dots) (rows : List (Dot × Entry)) → AllAfter (IsRowAfter s) [] rows → AreLive s rows
rows_of s rows h =
    let both = all_both (IsDotAfter s) IsLiveRow [] rows h in
    (fits_rows s rows (dots_fit s rows [] both.0).1, both.1)

of_rows : (s : Dots) (rows before : List (Dot × Entry)) → follows (dot_of_row (last before)) rows ≡ true → fits (set.contains s) rows ≡ true → AllByRecursion IsLiveRow rows → AllAfter (IsRowAfter s) before rows
of_rows s [] before first fit each = tt
of_rows s (row ∷ rows) before first fit each =
    let d = row.0 in
    let front = and_left (set.contains s d && dot_before_next d rows) (fits (set.contains s) rows) fit in
    let next : follows (dot_of_row (last (before ++ row ∷ []))) rows ≡ true =
    ap (λ (o : Option (Dot × Entry)). follows (dot_of_row o) rows) (last-push before row) ∙ next_is d rows ∙ and_right (set.contains s d) _ front in
    ((and_true _ _ first (and_left (set.contains s d) _ front), each.0), of_rows s rows (before ++ row ∷ []) next (and_right (set.contains s d && dot_before_next d rows) _ fit) each.1)

follows_none : (rows : List (Dot × Entry)) → follows None rows ≡ true
follows_none [] = refl
follows_none (row ∷ rows) = refl

abbrev pub CanCountRows : List (Dot × Entry) → Type 0
CanCountRows rows = length rows < 2 ^ 32

-- ---- rows, for a format of their keys

abbrev pub AreLiveOf : (List ℕ → Type 0) → Dots → List (Dot × Entry) → Type 0
AreLiveOf IsKey s rows = (CanCountRows rows × AreLive s rows) × AllByRecursion (HasKeys IsKey) rows

module _ (key : Reader (List ℕ)) (key_text : List ℕ → List ℕ) (IsKey : List ℕ → Type 0) (are_texts : (k : List ℕ) → IsKey k → IsKeyText k) (key_is : IsFormat key key_text IsKey) where
  row_format : (s : Dots) → AreOnlyDots s → (before : List (Dot × Entry)) → IsFormat (read.keyed_live_row_at key s before) (keyed_live_row_text key_text) (λ row. IsRowAfter s before row × HasKeys IsKey row)
  unfolding read.keyed_live_row_at
  row_format s dots before =
      refit _ _ _ (λ row. IsRowAfter s before row × HasKeys IsKey row) (λ row h. ((h.0, h.1.0), h.1.1)) (λ row h. (h.0.0, (h.0.1, h.1)))
      (pair_format _ _ _ _ _ _ (dot_format s dots before) (entry_format key key_text IsKey are_texts key_is))

  pub keyed_live_format : (s : Dots) → AreOnlyDots s → IsFormat (read.keyed_live_rows_at key s) (keyed_live_rows_text key_text) (AreLiveOf IsKey s)
  unfolding read.keyed_live_rows_at
  keyed_live_format s dots =
      refit _ _ _ (AreLiveOf IsKey s)
      (λ rows h. (let both = all_both (IsRowAfter s) (HasKeys IsKey) [] rows h.1 in ((h.0, rows_of s rows both.0), both.1)))
      (λ rows h. (h.0.0, both_all (IsRowAfter s) (HasKeys IsKey) [] rows (of_rows s rows [] (follows_none rows) (rows_fit s rows h.0.1.0) h.0.1.1) h.1))
      (list_format _ _ _ (row_format s dots) _ _ _ number32)

-- ---- rows of which each key is a short text

key_texts : (keys : List (List ℕ)) → list_all is_key_text keys ≡ true → AllByRecursion IsKeyText keys
key_texts [] h = tt
key_texts (k ∷ keys) h = (and_left (is_key_text k) _ h, key_texts keys (and_right (is_key_text k) _ h))

have_texts : (rows : List (Dot × Entry)) → AllByRecursion IsLiveRow rows → AllByRecursion (HasKeys IsKeyText) rows
have_texts [] h = tt
have_texts (row ∷ rows) h = (key_texts row.1.path h.0.0, have_texts rows h.1)

pub live_format : (s : Dots) → AreOnlyDots s → IsFormat (read.live_rows_at s) live_rows_text (λ rows. CanCountRows rows × AreLive s rows)
unfolding read.live_rows_at read.live_row_at read.entry_at read.path_at read.keyed_live_rows_at read.keyed_live_row_at read.keyed_entry_at read.keyed_path_at
live_format s dots =
    refit _ _ _ (λ rows. CanCountRows rows × AreLive s rows) (λ rows h. h.0) (λ rows h. (h, have_texts rows h.1.1))
    (keyed_live_format read.key_at short_text IsKeyText (λ k h. h) key_format s dots)
