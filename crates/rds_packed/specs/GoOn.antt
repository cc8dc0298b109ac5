-- Live rows that were read from few bytes are rows.
use Rattle.std.proofs.Common.{◌≡◌, ℕ, ◌+◌, ◌<◌, ◌^◌, ◌⊎◌, inl, inr, Bool, true, false, cond, eqb, ltb, ◌&&◌, List, [], ◌∷◌, ◌++◌, Option, Some, None, Ok, Err, refl, sym, ap, subst, ◌∙◌, append_assoc, arith}
use Rattle.std.specs.Prelude.{nat_lt, if◌then◌else◌}
use Rattle.std.specs.FinSet as set
use Rattle.std.specs.Ordering.{is_lt, nat_cmp, ordering_then}
use Rattle.std.proofs.lemmas.Bool.{ltb-true}
use Rattle.std.proofs.lemmas.Bool.Decides.{nat_tests}
use Rattle.rds_names.specs.Conditions.{and_true, and_left, and_right}
use Rattle.rds_names.specs.declared.entry.Entry.{Entry}
use Rattle.rds_names.specs.declared.fault.Fault.TheVariants.{Bad}
use Rattle.rds_dots.specs.declared.dot.Dot.{Dot}
use Rattle.rds_dots.specs.Dots.{Dots, comes_after}
use Rattle.rds_life.specs.Fits.{fits, dot_before_next}
use Rattle.rds_life.specs.Life.{AreRows}
use Rattle.rds_life.proofs.LivedLemmas.{fits_rows, rows_fit}
use Rattle.rds_bytes.specs.Packed.{packed_at}
use Rattle.rds_bytes.specs.Reading.{Reader, pair_at, then_at, when_at, byte_at, dot_by, dot_of_row, last}
use Rattle.rds_bytes.proofs.Format.{ok_is}
use Rattle.rds_bytes.proofs.PartFormats.{last-push}
use Rattle.rds_feeds.specs.declared.many.Many.{Many}
use Rattle.rds_feeds.specs.declared.many.Many.TheVariants.{Rows}
use Rattle.rds_feeds.specs.Parts.{WasRead}
use Rattle.rds_feeds.specs.WasRead.{then_read, made_read, when_read}
use Rattle.rds_packed.specs.PackedReading.{given_at, dot_before, place_after, step_by, dot_step_at, packed_dot_at, packed_entry_at, packed_row_at}
use Rattle.rds_packed.specs.PackedTexts.{dot_or_zeroth}

-- so many rows, where four bytes can say how many
abbrev pub few_rows : {U V : Type 0} → (Many U V → Reader V) → V → ℕ → Reader V
few_rows finish rows count = if nat_lt count (2 ^ 32) then finish (Rows count rows) else (λ bytes. Err Bad)

-- ---- a dot is past the one that it is told from

abbrev pub IsPast : Dot → Dot → Type 0
IsPast from d = (from.replica < d.replica) ⊎ ((d.replica ≡ from.replica) × (from.seq < d.seq))

comes_past : (a s b t : ℕ) → (a < b) ⊎ ((b ≡ a) × (s < t)) → is_lt (ordering_then (nat_cmp a b) (nat_cmp s t)) ≡ true
comes_past a s b t (inl above) = grind (arith, nat_tests)
comes_past a s b t (inr later) = let same = later.0 in let less = later.1 in grind (arith, nat_tests)

pub past_comes : (before : Option Dot) (d : Dot) → IsPast (dot_or_zeroth before) d → comes_after before d ≡ true
past_comes None d past = refl
past_comes (Some a) d past = comes_past a.replica a.seq d.replica d.seq past

abbrev above_at : Dot → Reader (ℕ × ℕ)
above_at from = pair_at (when_at (ltb from.replica) byte_at) packed_at

some_distance : (n : ℕ) → eqb n 0 ≡ false → 0 < n
some_distance n e = grind (arith, nat_tests)

place_past : (from : Dot) (n : ℕ) (b : Bool) → eqb n 0 ≡ b → (bytes : List ℕ) (p : ℕ × ℕ) (rest : List ℕ)
    → cond b (above_at from) (given_at (from.replica, from.seq + n)) bytes ≡ Ok (p, rest) → IsPast from (dot_by p)
place_past from n true e bytes p rest is =
    let both = then_read (when_at (ltb from.replica) byte_at) (λ _. packed_at) bytes p rest is in
    let above = when_read (ltb from.replica) byte_at bytes both.first both.middle both.first_is in
    inl (subst (λ (q : ℕ × ℕ). from.replica < q.0) both.are (ltb-true from.replica both.first above.1))
place_past from n false e bytes p rest is =
    let some = some_distance n e in
    let same : (from.replica, from.seq + n) ≡ p = ap (λ (x : (ℕ × ℕ) × List ℕ). x.0) (ok_is ((from.replica, from.seq + n), bytes) (p, rest) is) in
    inr (subst (λ (q : ℕ × ℕ). (q.0 ≡ from.replica) × (from.seq < q.1)) same (refl, omega (arith, some)))

step_past : (from : Dot) (bytes : List ℕ) (d : Dot) (rest : List ℕ) → dot_step_at from bytes ≡ Ok (d, rest) → IsPast from d
unfolding dot_step_at
step_past from bytes d rest is =
    let made = made_read step_by (then_at packed_at (place_after from)) bytes d rest is in
    let both = then_read packed_at (place_after from) bytes made.0 rest made.1 in
    let past = place_past from both.first (eqb both.first 0) refl both.middle both.second rest both.second_is in
    let same : dot_by both.second ≡ d = ap (λ (p : ℕ × (ℕ × ℕ)). step_by p) both.are ∙ made.2 in
    subst (IsPast from) same past

-- ---- rows that were read one after the other

fits_push : (has : Dot → Bool) (rows pre : List (Dot × Entry)) (row : Dot × Entry) → fits has rows ≡ true → has row.0 ≡ true → comes_after (dot_of_row (last (pre ++ rows))) row.0 ≡ true
    → fits has (rows ++ row ∷ []) ≡ true
fits_push has [] pre row fit seen after = and_true _ _ (and_true _ _ seen refl) refl
fits_push has (r ∷ []) pre row fit seen after =
    let next : comes_after (Some r.0) row.0 ≡ true = ap (λ (o : Option (Dot × Entry)). comes_after (dot_of_row o) row.0) (sym (last-push pre r)) ∙ after in
    let had = and_left (has r.0) true (and_left (has r.0 && true) true fit) in
    and_true _ _ (and_true _ _ had next) (and_true _ _ (and_true _ _ seen refl) refl)
fits_push has (r ∷ (s ∷ rows)) pre row fit seen after =
    let front = and_left (has r.0 && dot_before_next r.0 (s ∷ rows)) (fits has (s ∷ rows)) fit in
    let later = and_right (has r.0 && dot_before_next r.0 (s ∷ rows)) (fits has (s ∷ rows)) fit in
    let again : comes_after (dot_of_row (last ((pre ++ r ∷ []) ++ (s ∷ rows)))) row.0 ≡ true =
    ap (λ (rs : List (Dot × Entry)). comes_after (dot_of_row (last rs)) row.0) (append_assoc pre (r ∷ []) (s ∷ rows)) ∙ after in
    and_true _ _ front (fits_push has (s ∷ rows) (pre ++ r ∷ []) row later seen again)

-- whatever reads their keys
pub packed_rows_go_on : (key : Reader (List ℕ)) (seen : Dots) (rows : List (Dot × Entry)) (row : Dot × Entry) → AreRows seen rows → WasRead (packed_row_at key seen rows) row → AreRows seen (rows ++ row ∷ [])
unfolding packed_row_at packed_dot_at
packed_rows_go_on key seen rows row are read =
    let both = then_read (packed_dot_at seen rows) (λ _. packed_entry_at key) read.0 row read.1 read.2 in
    let dot = when_read (set.contains seen) (dot_step_at (dot_before rows)) read.0 both.first both.middle both.first_is in
    let past = step_past (dot_before rows) read.0 both.first both.middle dot.0 in
    let after : comes_after (dot_of_row (last rows)) row.0 ≡ true = subst (λ (r : Dot × Entry). comes_after (dot_of_row (last rows)) r.0 ≡ true) both.are (past_comes (dot_of_row (last rows)) both.first past) in
    let has : set.contains seen row.0 ≡ true = subst (λ (r : Dot × Entry). set.contains seen r.0 ≡ true) both.are dot.1 in
    fits_rows seen (rows ++ row ∷ []) (fits_push (set.contains seen) rows [] row (rows_fit seen rows are) has after)
