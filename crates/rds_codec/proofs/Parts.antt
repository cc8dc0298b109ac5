-- Texts whose parts are read one after the other.
use Rattle.std.proofs.Common.{◌≡◌, ℕ, Bool, true, false, cond, List, Result, Ok, Err, refl, sym, ap, subst, ◌∙◌, inr}
use Rattle.rds_names.specs.declared.entry.Entry.{Entry}
use Rattle.rds_names.specs.declared.fault.Fault.{Fault}
use Rattle.rds_names.specs.declared.fault.Fault.TheVariants.{Bad, Cut}
use Rattle.rds_dots.specs.declared.dot.Dot.{Dot}
use Rattle.std.specs.FinSet as set
use Rattle.rds_dots.specs.Dots.{Dots}
use Rattle.rds_dots.specs.Order.{dots_total}
use Rattle.rds_life.specs.Life.{Lived, lives_of}
use Rattle.rds_counts.specs.Counted.{Counted}
use Rattle.rds_state.specs.Value.{StateValue}
use Rattle.rds_delta.specs.declared.row.Row.{Row}
use Rattle.rds_delta.specs.Digested.{DigestValue, IsInside}
use Rattle.rds_bytes.specs.Reading.{◌>>=◌, Reader, then_at, pair_at, made_at, replica_at, dots_at, path_at, entry_at, live_row_at, live_rows_at, place_at, count_row_at, count_rows_at, counters_at, keyed_path_at, keyed_entry_at, keyed_live_row_at, keyed_live_rows_at, keyed_place_at, keyed_count_row_at, keyed_count_rows_at, keyed_counters_at}
use Rattle.rds_codec.specs.StateTexts.{StateParts, body_at, state_by, state_at_in}
use Rattle.rds_codec.specs.AnswerValues.{AnswerValue}
use Rattle.rds_codec.specs.AnswerTexts.{answer, answer_at_in}
use Rattle.rds_codec.specs.CertificateTexts.{certificate_at}
use Rattle.rds_codec.specs.declared.formats.Format.{Format}
use Rattle.rds_codec.specs.declared.formats.Format.TheVariants.{One}
use Rattle.rds_codec.specs.DigestTexts.{DigestParts, digest_by, are_seen, live_dots_at, digest_at}
use Rattle.rds_feeds.specs.LiveRows.{lives_by}
use Rattle.rds_feeds.specs.Parts.{makes, RefusesValue}

-- a part as it is
pub same_part : {A : Type 0} (x : Result (A × List ℕ) Fault) → (x >>= λ a. Ok (a.0, a.1)) ≡ x
same_part (Ok a) = refl
same_part (Err e) = refl

-- a reader in another's place
module _ {A B : Type 0} (f f' : Reader A) (g g' : Reader B) (first : (bytes : List ℕ) → f bytes ≡ f' bytes) (second : (bytes : List ℕ) → g bytes ≡ g' bytes) where
  abbrev beside : A → B × List ℕ → Result ((A × B) × List ℕ) Fault
  beside a b = Ok ((a, b.0), b.1)

  abbrev and_then : Reader B → A × List ℕ → Result ((A × B) × List ℕ) Fault
  and_then h a = h a.1 >>= beside a.0

  second_same : (x : Result (A × List ℕ) Fault) → (x >>= and_then g) ≡ (x >>= and_then g')
  second_same (Ok a) = ap (λ (y : Result (B × List ℕ) Fault). y >>= beside a.0) (second a.1)
  second_same (Err e) = refl

  pub pair_same : (bytes : List ℕ) → pair_at f g bytes ≡ pair_at f' g' bytes
  pair_same bytes = ap (λ (x : Result (A × List ℕ) Fault). x >>= and_then g) (first bytes) ∙ second_same (f' bytes)

module _ {V W : Type 0} (make : V → Result W Fault) where
  abbrev made_one : V × List ℕ → Result (W × List ℕ) Fault
  made_one x = make x.0 >>= λ w. Ok (w, x.1)

-- ---- a state

abbrev state_of : Lived × Counted → Result StateValue Fault
state_of p = Ok (record { lives = p.0; counts = p.1 })

module _ (replicas : ℕ) where
  abbrev Rows : Type 0
  Rows = List (Dot × Entry)

  abbrev with_rows : Dots → Rows × List ℕ → Result ((Dots × Rows) × List ℕ) Fault
  with_rows s r = Ok ((s, r.0), r.1)

  abbrev then_rows : Dots × List ℕ → Result ((Dots × Rows) × List ℕ) Fault
  then_rows s = live_rows_at s.0 s.1 >>= with_rows s.0

  abbrev lives_made : (Dots × Rows) × List ℕ → Result (Lived × List ℕ) Fault
  lives_made p = Ok (lives_by p.0, p.1)

  abbrev with_counts : Lived → Counted × List ℕ → Result ((Lived × Counted) × List ℕ) Fault
  with_counts l c = Ok ((l, c.0), c.1)

  abbrev then_counts : Lived × List ℕ → Result ((Lived × Counted) × List ℕ) Fault
  then_counts l = counters_at replicas l.1 >>= with_counts l.0

  abbrev state_made : (Lived × Counted) × List ℕ → Result (StateValue × List ℕ) Fault
  state_made = made_one state_of

  abbrev rows_counts : Rows → Counted × List ℕ → Result ((Rows × Counted) × List ℕ) Fault
  rows_counts r c = Ok ((r, c.0), c.1)

  abbrev rows_then : Rows × List ℕ → Result ((Rows × Counted) × List ℕ) Fault
  rows_then r = counters_at replicas r.1 >>= rows_counts r.0

  abbrev dots_beside : Dots → (Rows × Counted) × List ℕ → Result (StateParts × List ℕ) Fault
  dots_beside s p = Ok ((s, p.0), p.1)

  abbrev dots_then : Dots × List ℕ → Result (StateParts × List ℕ) Fault
  dots_then s = (live_rows_at s.0 s.1 >>= rows_then) >>= dots_beside s.0

  abbrev by_parts : StateParts × List ℕ → Result (StateValue × List ℕ) Fault
  by_parts p = Ok (state_by p.0, p.1)

  after_counts : (s : Dots) (r : Rows) (c : Result (Counted × List ℕ) Fault) → ((c >>= with_counts (lives_of s r)) >>= state_made) ≡ (((c >>= rows_counts r) >>= dots_beside s) >>= by_parts)
  after_counts s r (Ok c) = refl
  after_counts s r (Err e) = refl

  after_rows : (s : Dots) (r : Result (Rows × List ℕ) Fault) → ((((r >>= with_rows s) >>= lives_made) >>= then_counts) >>= state_made) ≡ (((r >>= rows_then) >>= dots_beside s) >>= by_parts)
  after_rows s (Ok r) = after_counts s r.0 (counters_at replicas r.1)
  after_rows s (Err e) = refl

  after_dots : (d : Result (Dots × List ℕ) Fault) → ((((d >>= then_rows) >>= lives_made) >>= then_counts) >>= state_made) ≡ ((d >>= dots_then) >>= by_parts)
  after_dots (Ok s) = after_rows s.0 (live_rows_at s.0 s.1)
  after_dots (Err e) = refl

  -- the parts are those whose keys are short texts
  by_keys : made_at state_by (then_at (dots_at replicas) (λ seen. pair_at (live_rows_at seen) (counters_at replicas))) ≡ state_at_in One replicas
  unfolding state_at_in body_at path_at entry_at live_row_at live_rows_at place_at count_row_at count_rows_at counters_at keyed_path_at keyed_entry_at keyed_live_row_at keyed_live_rows_at keyed_place_at keyed_count_row_at keyed_count_rows_at keyed_counters_at
  by_keys = refl

  pub one_read : (lives : Reader Lived) (counters : Reader Counted) → ((bytes : List ℕ) → lives bytes ≡ made_at lives_by (then_at (dots_at replicas) live_rows_at) bytes)
      → ((bytes : List ℕ) → counters bytes ≡ counters_at replicas bytes) → (pairs : Reader (Lived × Counted)) → ((bytes : List ℕ) → pairs bytes ≡ pair_at lives counters bytes)
      → (bytes : List ℕ) → makes pairs state_of bytes ≡ state_at_in One replicas bytes
  one_read lives counters first second pairs are bytes =
      ap (λ (x : Result ((Lived × Counted) × List ℕ) Fault). x >>= state_made)
      (are bytes ∙ pair_same lives (made_at lives_by (then_at (dots_at replicas) live_rows_at)) counters (counters_at replicas) first second bytes)
      ∙ after_dots (dots_at replicas bytes) ∙ ap (λ (f : Reader StateValue). f bytes) by_keys

-- ---- a digest

abbrev pub marked : Dots × Dots → Result (Dots × Dots) Fault
marked p = cond (are_seen p.0 p.1) (Ok p) (Err Bad)

is_inside : (seen live : Dots) → IsInside live seen → are_seen seen live ≡ true
is_inside seen live is = set.contains-is_subset dots_total live seen is.each_dot

is_outside : (seen live : Dots) → (IsInside live seen → ⊥) → (b : Bool) → are_seen seen live ≡ b → are_seen seen live ≡ false
is_outside seen live outside true e = absurd (outside (record { each_dot = set.is_subset-contains dots_total live seen e }))
is_outside seen live outside false e = e

pub bad_is_not_cut : Bad ≡ Cut → ⊥
bad_is_not_cut h = absurd cc

pub unmarked : (s l : Dots) (p : Dots × Dots) → s ≡ p.0 → l ≡ p.1 → (IsInside l s → ⊥) → RefusesValue (marked p) Bad
unmarked s l p seen live outside =
    let none : are_seen p.0 p.1 ≡ false = is_outside p.0 p.1 (λ is. outside (subst (λ (x : Dots). IsInside l x) (sym seen) (subst (λ (x : Dots). IsInside x p.0) (sym live) is))) (are_seen p.0 p.1) refl in
    inr (bad_is_not_cut, rw none refl)

pub are_marked : (s l : Dots) (p : Dots × Dots) → s ≡ p.0 → l ≡ p.1 → IsInside l s → marked p ≡ Ok (s, l)
are_marked s l p seen live is =
    let all : are_seen p.0 p.1 ≡ true = is_inside p.0 p.1 (subst (λ (x : Dots). IsInside p.1 x) seen (subst (λ (x : Dots). IsInside x s) live is)) in
    rw all (ap (λ (x : Dots). Ok (x, p.1)) (sym seen) ∙ ap (λ (x : Dots). Ok (s, x)) (sym live))

abbrev pub digest_of : (Dots × Dots) × Counted → Result DigestValue Fault
digest_of p = Ok (record { seen = p.0.0; live = p.0.1; counts = p.1 })

module _ (replicas : ℕ) where
  abbrev with_live : Dots → Dots × List ℕ → Result ((Dots × Dots) × List ℕ) Fault
  with_live s l = Ok ((s, l.0), l.1)

  abbrev then_live : Dots × List ℕ → Result ((Dots × Dots) × List ℕ) Fault
  then_live s = dots_at replicas s.1 >>= with_live s.0

  abbrev with_count : Dots × Dots → Counted × List ℕ → Result (((Dots × Dots) × Counted) × List ℕ) Fault
  with_count m c = Ok ((m, c.0), c.1)

  abbrev then_count : (Dots × Dots) × List ℕ → Result (((Dots × Dots) × Counted) × List ℕ) Fault
  then_count m = counters_at replicas m.1 >>= with_count m.0

  abbrev judged : (Dots × Dots) × List ℕ → Result ((Dots × Dots) × List ℕ) Fault
  judged = made_one marked

  abbrev digest_made : ((Dots × Dots) × Counted) × List ℕ → Result (DigestValue × List ℕ) Fault
  digest_made = made_one digest_of

  abbrev live_judged : Dots → Dots × List ℕ → Result (Dots × List ℕ) Fault
  live_judged s l = cond (are_seen s l.0) (Ok l) (Err Bad)

  abbrev live_count : Dots → Counted × List ℕ → Result ((Dots × Counted) × List ℕ) Fault
  live_count l c = Ok ((l, c.0), c.1)

  abbrev live_then : Dots × List ℕ → Result ((Dots × Counted) × List ℕ) Fault
  live_then l = counters_at replicas l.1 >>= live_count l.0

  abbrev seen_beside : Dots → (Dots × Counted) × List ℕ → Result (DigestParts × List ℕ) Fault
  seen_beside s p = Ok ((s, p.0), p.1)

  abbrev seen_then : Dots × List ℕ → Result (DigestParts × List ℕ) Fault
  seen_then s = ((dots_at replicas s.1 >>= live_judged s.0) >>= live_then) >>= seen_beside s.0

  abbrev digest_parts : DigestParts × List ℕ → Result (DigestValue × List ℕ) Fault
  digest_parts p = Ok (digest_by p.0, p.1)

  digest_counts : (s l : Dots) (c : Result (Counted × List ℕ) Fault) → ((c >>= with_count (s, l)) >>= digest_made) ≡ (((c >>= live_count l) >>= seen_beside s) >>= digest_parts)
  digest_counts s l (Ok c) = refl
  digest_counts s l (Err e) = refl

  abbrev or_bad_pair : Bool → Dots → Dots × List ℕ → Result ((Dots × Dots) × List ℕ) Fault
  or_bad_pair b s l = cond b (Ok (s, l.0)) (Err Bad) >>= λ w. Ok (w, l.1)

  abbrev or_bad_live : Bool → Dots × List ℕ → Result (Dots × List ℕ) Fault
  or_bad_live b l = cond b (Ok l) (Err Bad)

  digest_judged : (s : Dots) (l : Dots × List ℕ) (b : Bool) → ((or_bad_pair b s l >>= then_count) >>= digest_made) ≡ (((or_bad_live b l >>= live_then) >>= seen_beside s) >>= digest_parts)
  digest_judged s l true = digest_counts s l.0 (counters_at replicas l.1)
  digest_judged s l false = refl

  digest_live : (s : Dots) (l : Result (Dots × List ℕ) Fault) → ((((l >>= with_live s) >>= judged) >>= then_count) >>= digest_made) ≡ ((((l >>= live_judged s) >>= live_then) >>= seen_beside s) >>= digest_parts)
  digest_live s (Ok l) = digest_judged s l (are_seen s l.0)
  digest_live s (Err e) = refl

  digest_seen : (d : Result (Dots × List ℕ) Fault) → ((((d >>= then_live) >>= judged) >>= then_count) >>= digest_made) ≡ ((d >>= seen_then) >>= digest_parts)
  digest_seen (Ok s) = digest_live s.0 (dots_at replicas s.1)
  digest_seen (Err e) = refl

  pub digest_read : (seen live : Reader Dots) (counters : Reader Counted) (both : Reader (Dots × Dots)) (all : Reader ((Dots × Dots) × Counted))
      → ((bytes : List ℕ) → seen bytes ≡ dots_at replicas bytes) → ((bytes : List ℕ) → live bytes ≡ dots_at replicas bytes) → ((bytes : List ℕ) → counters bytes ≡ counters_at replicas bytes)
      → ((bytes : List ℕ) → both bytes ≡ pair_at seen live bytes) → ((bytes : List ℕ) → all bytes ≡ pair_at (makes both marked) counters bytes)
      → (bytes : List ℕ) → makes all digest_of bytes ≡ digest_at replicas bytes
  unfolding digest_at live_dots_at
  digest_read seen live counters both all first second third are are_all bytes =
      ap (λ (x : Result (((Dots × Dots) × Counted) × List ℕ) Fault). x >>= digest_made)
      (are_all bytes
      ∙ pair_same (makes both marked) (makes (pair_at (dots_at replicas) (dots_at replicas)) marked) counters (counters_at replicas)
      (λ b. ap (λ (x : Result ((Dots × Dots) × List ℕ) Fault). x >>= judged) (are b ∙ pair_same seen (dots_at replicas) live (dots_at replicas) first second b)) third bytes)
      ∙ digest_seen (dots_at replicas bytes)

-- ---- a certificate

module _ {R : Type 0} (r : R) (reader : Reader (List Row)) where
  abbrev row_beside : List Row × List ℕ → Result ((R × List Row) × List ℕ) Fault
  row_beside xs = Ok ((r, xs.0), xs.1)

  abbrev rows_alone : (R × List Row) × List ℕ → Result (List Row × List ℕ) Fault
  rows_alone x = Ok (x.0.1, x.1)

  alone : (x : Result (List Row × List ℕ) Fault) → ((x >>= row_beside) >>= rows_alone) ≡ x
  alone (Ok xs) = refl
  alone (Err e) = refl

  pub certificate_read : (finish : Reader (R × List Row)) → ((bytes : List ℕ) → finish bytes ≡ made_at (λ rows. (r, rows)) reader bytes)
      → (bytes : List ℕ) → makes finish (λ l. Ok l.1) bytes ≡ reader bytes
  certificate_read finish is bytes = ap (λ (y : Result ((R × List Row) × List ℕ) Fault). y >>= rows_alone) (is bytes) ∙ alone (reader bytes)

-- ---- an answer

abbrev pub answer_of : ℕ × (StateValue × List Row) → Result AnswerValue Fault
answer_of p = Ok (answer p.0 p.1.0 p.1.1)

module _ (replicas : ℕ) where
  abbrev asker_at : Reader ℕ
  asker_at = made_at (λ r. r) (replica_at replicas)

  abbrev answer_made : (ℕ × (StateValue × List Row)) × List ℕ → Result (AnswerValue × List ℕ) Fault
  answer_made = made_one answer_of

  pub answer_in_read : (format : Format) (state : Reader StateValue) (certificate : Reader (List Row)) (delta : Reader (StateValue × List Row)) (all : Reader (ℕ × (StateValue × List Row)))
      → ((bytes : List ℕ) → state bytes ≡ state_at_in format replicas bytes) → ((bytes : List ℕ) → certificate bytes ≡ certificate_at replicas bytes)
      → ((bytes : List ℕ) → delta bytes ≡ pair_at state certificate bytes) → ((bytes : List ℕ) → all bytes ≡ pair_at asker_at delta bytes)
      → (bytes : List ℕ) → makes all answer_of bytes ≡ answer_at_in format replicas bytes
  unfolding answer_at_in
  answer_in_read format state certificate delta all first second third are bytes =
      ap (λ (x : Result ((ℕ × (StateValue × List Row)) × List ℕ) Fault). x >>= answer_made)
      (are bytes
      ∙ pair_same asker_at (replica_at replicas) delta (pair_at (state_at_in format replicas) (certificate_at replicas)) (λ b. same_part (replica_at replicas b))
      (λ b. third b ∙ pair_same state (state_at_in format replicas) certificate (certificate_at replicas) first second b) bytes)
