-- The dots and the counters that were read are those of so many replicas, wherever the keys of their rows come from.
use Rattle.std.proofs.Common.{◌≡◌, ℕ, zero, suc, ◌+◌, ◌-◌, ◌<◌, Bool, true, false, cond, List, [], ◌∷◌, ◌++◌, length, Ok, refl, sym, ap, subst, ◌∙◌}
use Rattle.std.specs.Prelude.{nat_lt, nat_le}
use Rattle.std.specs.Int.{w16, w32}
use Rattle.std.specs.List.{list_all, flat_map}
use Rattle.std.specs.FinSet as set
use Rattle.std.proofs.lemmas.Bool.{ltb-true}
use Rattle.std.proofs.lemmas.List.Folds.{list_all-append}
use Rattle.rds_names.specs.declared.entry.Entry.{Entry}
use Rattle.rds_names.specs.Conditions.{and_true, and_left, and_right}
use Rattle.rds_names.specs.Roster.{RosterValue}
use Rattle.rds_dots.specs.declared.dot.Dot.{Dot}
use Rattle.rds_dots.specs.declared.dot.Run.{Run}
use Rattle.rds_dots.specs.Dots.{Dots}
use Rattle.rds_dots.specs.Listed.{dots_from, dots_of}
use Rattle.rds_dots.specs.Sets.{contains_list, all_listed}
use Rattle.rds_life.specs.Life.{lives_of}
use Rattle.rds_life.proofs.Views.{contains-seen_of, seen_of-lives_of}
use Rattle.rds_counts.specs.declared.row.CountRow.{CountRow}
use Rattle.rds_counts.specs.Place.{Place}
use Rattle.rds_counts.specs.Counted.{Counted, number, counts_of}
use Rattle.rds_counts.specs.CountedLemmas.{get-counts_of}
use Rattle.rds_counts.specs.Below.{rows_below}
use Rattle.rds_counts.proofs.BelowLemmas.{numbers_below}
use Rattle.rds_state.specs.Value.{StateValue, coordinates}
use Rattle.rds_state.specs.Fits.{Fits}
use Rattle.rds_bytes.specs.declared.dots.Gap.{Gap}
use Rattle.rds_bytes.specs.declared.dots.DotRow.{DotRow}
use Rattle.rds_bytes.specs.RowDots.{run_before, runs_between, row_runs, dots_of_runs}
use Rattle.rds_bytes.specs.Reading.{Reader, then_at, pair_at, made_at, when_at, rows_after, list_at, byte_at, number_at, last, is_number, replica_at, roster_at, member_at, least_replica, is_next_replica, dot_row_by, numbers_at, dot_row_at, dot_rows_at, dots_at, live_rows_at, comes_after_row, is_next_place, key_at, place_with, place_at, counts_at, count_row_by, count_row_with, count_row_at, count_rows_at, counters_at, keyed_live_rows_at, keyed_place_at, keyed_count_row_at, keyed_count_rows_at, keyed_counters_at}
use Rattle.rds_bytes.specs.TableTexts.{table_at, numbered_at}
use Rattle.rds_bytes.proofs.Format.{bind_ok, ok_is}
use Rattle.rds_codec.specs.StateTexts.{state_by, has_its_table, without_table, body_at, state_at_in}
use Rattle.rds_codec.specs.declared.formats.Format.{Format}
use Rattle.rds_codec.specs.declared.formats.Format.TheVariants.{One, Two}
use Rattle.rds_feeds.specs.WasRead.{made_read, then_read, when_read}
use Rattle.rds_codec.specs.Openings.{Member}

-- rows of which each passes a test when it is read
module _ {A : Type 0} (f : List A → Reader A) (p : A → Bool) (passes : (before : List A) (bytes : List ℕ) (a : A) (rest : List ℕ) → f before bytes ≡ Ok (a, rest) → p a ≡ true) where
  one_more : (before : List A) (a : A) → list_all p before ≡ true → p a ≡ true → list_all p (before ++ a ∷ []) ≡ true
  one_more before a all one = list_all-append p before (a ∷ []) ∙ and_true _ _ all (and_true _ _ one refl)

  rows_pass : (n : ℕ) (before : List A) (bytes : List ℕ) (rows : List A) (rest : List ℕ) → list_all p before ≡ true → rows_after f before n bytes ≡ Ok (rows, rest) → list_all p rows ≡ true
  unfolding rows_after
  rows_pass zero before bytes rows rest all e = subst (λ (x : List A × List ℕ). list_all p x.0 ≡ true) (ok_is (before, bytes) (rows, rest) e) all
  rows_pass (suc n) before bytes rows rest all e =
      let x = bind_ok (f before bytes) (λ (a : A × List ℕ). rows_after f (before ++ a.0 ∷ []) n a.1) (rows, rest) e in
      rows_pass n (before ++ x.0.0 ∷ []) x.0.1 rows rest (one_more before x.0.0 all (passes before bytes x.0.0 x.0.1 x.1)) x.2

  list_passes : (count : Reader ℕ) (bytes : List ℕ) (rows : List A) (rest : List ℕ) → list_at count f bytes ≡ Ok (rows, rest) → list_all p rows ≡ true
  list_passes count bytes rows rest e =
      let x = bind_ok (count bytes) (λ (n : ℕ × List ℕ). rows_after f [] n.0 n.1) (rows, rest) e in
      rows_pass x.0.0 [] x.0.1 rows rest refl x.2

module _ (replicas : ℕ) where
  -- ---- dots

  abbrev dot_below : Dot → Bool
  dot_below d = nat_lt d.replica replicas

  abbrev run_below : Run → Bool
  run_below r = nat_lt r.replica replicas

  abbrev row_below : DotRow → Bool
  row_below r = nat_lt r.replica replicas

  before_below : (replica least lo : ℕ) (rs : List Run) → nat_lt replica replicas ≡ true → list_all run_below rs ≡ true → list_all run_below (run_before replica least lo rs) ≡ true
  before_below replica least lo rs one all = by (nat_lt least lo)
    where
      by : (b : Bool) → list_all run_below (cond b (record { replica = replica; lo = least; hi = lo - 1 } ∷ rs) rs) ≡ true
      by true = and_true _ _ one all
      by false = all

  between_below : (replica least top : ℕ) (gs : List Gap) → nat_lt replica replicas ≡ true → list_all run_below (runs_between replica least top gs) ≡ true
  between_below replica least top [] one = and_true _ _ one refl
  between_below replica least top (g ∷ gs) one = before_below replica least g.lo _ one (between_below replica (g.hi + 1) top gs one)

  runs_below : (rows : List DotRow) → list_all row_below rows ≡ true → list_all run_below (flat_map row_runs rows) ≡ true
  runs_below [] all = refl
  runs_below (r ∷ rows) all =
      list_all-append run_below (row_runs r) (flat_map row_runs rows)
      ∙ and_true _ _ (between_below r.replica 1 r.top r.gaps (and_left (row_below r) _ all)) (runs_below rows (and_right (row_below r) _ all))

  from_below : (replica lo n : ℕ) → nat_lt replica replicas ≡ true → list_all dot_below (dots_from replica lo n) ≡ true
  from_below replica lo zero one = refl
  from_below replica lo (suc n) one = and_true _ _ one (from_below replica (lo + 1) n one)

  dots_below : (rs : List Run) → list_all run_below rs ≡ true → list_all dot_below (flat_map dots_of rs) ≡ true
  dots_below [] all = refl
  dots_below (r ∷ rs) all =
      list_all-append dot_below (dots_of r) (flat_map dots_of rs)
      ∙ and_true _ _ (from_below r.replica r.lo _ (and_left (run_below r) _ all)) (dots_below rs (and_right (run_below r) _ all))

  row_is_below : (before : List DotRow) (bytes : List ℕ) (row : DotRow) (rest : List ℕ) → dot_row_at replicas before bytes ≡ Ok (row, rest) → row_below row ≡ true
  unfolding dot_row_at
  row_is_below before bytes row rest e =
      let next = is_next_replica replicas (least_replica (last before)) in
      let made = made_read dot_row_by (pair_at (when_at next byte_at) numbers_at) bytes row rest e in
      let both = then_read (when_at next byte_at) (λ _. numbers_at) bytes made.0 rest made.1 in
      let is = when_read next byte_at bytes both.first both.middle both.first_is in
      subst (λ (r : DotRow). row_below r ≡ true) (ap dot_row_by both.are ∙ made.2) (and_right (nat_le (least_replica (last before)) both.first) _ is.1)

  dots_are_below : (bytes : List ℕ) (s : Dots) (rest : List ℕ) → dots_at replicas bytes ≡ Ok (s, rest) → (d : Dot) → set.contains s d ≡ true → d.replica < replicas
  unfolding dots_at dot_rows_at dots_of_runs
  dots_are_below bytes s rest e d has =
      let made = made_read (λ rows. dots_of_runs (flat_map row_runs rows)) (list_at (number_at w16) (dot_row_at replicas)) bytes s rest e in
      let runs = flat_map row_runs made.0 in
      let all = dots_below runs (runs_below made.0 (list_passes (dot_row_at replicas) row_below row_is_below (number_at w16) bytes made.0 rest made.1)) in
      ltb-true d.replica replicas
      (all_listed dot_below (flat_map dots_of runs) all d (sym (contains_list (flat_map dots_of runs) d) ∙ ap (λ (t : Dots). set.contains t d) made.2 ∙ has))

  -- ---- counters

  abbrev count_below : CountRow → Bool
  count_below r = nat_lt r.replica replicas

  all_below : (rows : List CountRow) → list_all count_below rows ≡ true → rows_below replicas rows ≡ true
  all_below [] all = refl
  all_below (r ∷ rows) all = and_true _ _ (and_left (count_below r) _ all) (all_below rows (and_right (count_below r) _ all))

  count_is_below : (key : Reader (List ℕ)) (before : List CountRow) (bytes : List ℕ) (row : CountRow) (rest : List ℕ) → count_row_with (place_with key replicas before) bytes ≡ Ok (row, rest)
      → count_below row ≡ true
  count_is_below key before bytes row rest e =
      let next = is_next_place replicas before in
      let made = made_read count_row_by (pair_at (when_at next (pair_at key byte_at)) counts_at) bytes row rest e in
      let both = then_read (when_at next (pair_at key byte_at)) (λ _. counts_at) bytes made.0 rest made.1 in
      let is = when_read next (pair_at key byte_at) bytes both.first both.middle both.first_is in
      subst (λ (r : CountRow). count_below r ≡ true) (ap count_row_by both.are ∙ made.2) (and_right (comes_after_row (last before) both.first.0 both.first.1) _ is.1)

  -- the counters that it reads are of replicas below
  abbrev ReadsBelow : Reader Counted → Type 0
  ReadsBelow f = (bytes : List ℕ) (m : Counted) (rest : List ℕ) → f bytes ≡ Ok (m, rest) → (q : Place) → 0 < number m q → q.replica < replicas

  abbrev counters_with : Reader (List ℕ) → Reader Counted
  counters_with key = made_at counts_of (list_at (number_at w32) (λ before. count_row_with (place_with key replicas before)))

  counts_are_below : (key : Reader (List ℕ)) → ReadsBelow (counters_with key)
  counts_are_below key bytes m rest e q has =
      let row = λ (before : List CountRow). count_row_with (place_with key replicas before) in
      let made = made_read counts_of (list_at (number_at w32) row) bytes m rest e in
      let all = all_below made.0 (list_passes row count_below (count_is_below key) (number_at w32) bytes made.0 rest made.1) in
      numbers_below replicas made.0 all q (subst (λ n. 0 < n) (sym (get-counts_of made.0 m made.2 q)) has)

  keyed_counters_below : (key : Reader (List ℕ)) → ReadsBelow (keyed_counters_at key replicas)
  unfolding keyed_counters_at keyed_count_rows_at keyed_count_row_at keyed_place_at
  keyed_counters_below = counts_are_below

  -- ---- a state

  -- the states that it reads have replicas below
  abbrev ReadsFit : Reader StateValue → Type 0
  ReadsFit f = (bytes : List ℕ) (v : StateValue) (rest : List ℕ) → f bytes ≡ Ok (v, rest) → Fits replicas (coordinates v)

  parts_fit : (live : Dots → Reader (List (Dot × Entry))) (counters : Reader Counted) → ReadsBelow counters
      → ReadsFit (made_at state_by (then_at (dots_at replicas) (λ seen. pair_at (live seen) counters)))
  parts_fit live counters below bytes v rest e =
      let tail = λ (seen : Dots). pair_at (live seen) counters in
      let made = made_read state_by (then_at (dots_at replicas) tail) bytes v rest e in
      let dots = then_read (dots_at replicas) tail bytes made.0 rest made.1 in
      let rows = then_read (live dots.first) (λ _. counters) dots.middle dots.second rest dots.second_is in
      let lives = lives_of dots.first rows.first in
      let same : state_by (dots.first, (rows.first, rows.second)) ≡ v = ap (λ (t : List (Dot × Entry) × Counted). state_by (dots.first, t)) rows.are ∙ ap state_by dots.are ∙ made.2 in
      subst (λ (w : StateValue). Fits replicas (coordinates w)) same (record {
        dots = λ d has. dots_are_below bytes dots.first dots.middle dots.first_is d (ap (λ (s : Dots). set.contains s d) (sym (seen_of-lives_of dots.first rows.first)) ∙ contains-seen_of lives d ∙ has);
        numbers = λ q has. below rows.middle rows.second rest rows.second_is q has;
      })

  body_fits : (key : Reader (List ℕ)) → ReadsFit (body_at key replicas)
  unfolding body_at
  body_fits key = parts_fit (keyed_live_rows_at key) (keyed_counters_at key replicas) (keyed_counters_below key)

  pub state_in_fits : (format : Format) → ReadsFit (state_at_in format replicas)
  unfolding state_at_in
  state_in_fits One bytes v rest e = body_fits key_at bytes v rest e
  state_in_fits Two bytes v rest e =
      let body = λ (table : List (List ℕ)). body_at (numbered_at table) replicas in
      let made = made_read without_table (when_at has_its_table (then_at table_at body)) bytes v rest e in
      let has = when_read has_its_table (then_at table_at body) bytes made.0 rest made.1 in
      let both = then_read table_at body bytes made.0 rest has.0 in
      let same : both.second ≡ v = ap without_table both.are ∙ made.2 in
      subst (λ (w : StateValue). Fits replicas (coordinates w)) same (body_fits (numbered_at both.first) both.middle both.second rest both.second_is)

-- ---- a roster, and the own number

abbrev IsBelow : Member → Type 0
IsBelow m = m.1 < length m.0.names

pub own_is_below : (bytes : List ℕ) (m : Member) (rest : List ℕ) → member_at bytes ≡ Ok (m, rest) → IsBelow m
unfolding member_at replica_at
own_is_below bytes m rest e =
    let number = λ (roster : RosterValue). when_at (is_number (length roster.names)) byte_at in
    let member = then_read roster_at number bytes m rest e in
    let is = when_read (is_number (length member.first.names)) byte_at member.middle member.second rest member.second_is in
    let own : member.second < length member.first.names = ltb-true member.second (length member.first.names) is.1 in
    subst IsBelow member.are own
