-- The mark of a join is that of what the delta has, and of what is kept where it has nothing.
use Rattle.std.proofs.Common.{◌≡◌, ◌∙◌, Bool, true, false, cond, not, List, [], ◌∷◌, Option, Some, None, length, refl, sym, ap}
use mathlib.Core.Bool.{false≢true}
use Rattle.std.specs.Prelude.{fold, is_some}
use Rattle.std.specs.FinMap as map
use Rattle.std.specs.FinMap.Entries.{find-put, is_sorted-put}
use Rattle.std.specs.FinSet as set
use Rattle.std.specs.List.{list_all}
use Rattle.std.specs.Cmp.{tied_itself}
use Rattle.std.specs.Ordering.{eq_by_cmp, is_eq}
use Rattle.rds_names.specs.declared.entry.Entry.{Entry}
use Rattle.rds_names.specs.Conditions.{and_left, and_right}
use Rattle.rds_dots.specs.declared.dot.Dot.{Dot}
use Rattle.rds_dots.specs.Ascending.{ascends, is_above}
use Rattle.rds_dots.specs.Dots.{Dots, dot_cmp}
use Rattle.rds_dots.specs.Order.{dots_total}
use Rattle.rds_dots.specs.Sets.{tied_dots_are_one}
use Rattle.rds_counts.proofs.DrawnLemmas.{drawn_are, drawn_number}
use Rattle.rds_counts.proofs.SameCounts.{same_counts}
use Rattle.rds_counts.specs.declared.row.CountRow.{CountRow}
use Rattle.rds_counts.specs.Counted.{AreCountRows, counts_of}
use Rattle.rds_counts.specs.Drawn.{greatest_rows}
use Rattle.rds_counts.specs.RowsOf.{count_rows}
use Rattle.rds_counts.specs.RowsOfLemmas.{count_rows-counts_of}
use Rattle.rds_delta.specs.Least.{IsAbove}
use Rattle.rds_delta.specs.Ranks.{ranks}
use Rattle.rds_life.proofs.Kills.{find-left, left, rise-left, spared}
use Rattle.rds_life.proofs.PastRows.{length_none}
use Rattle.rds_life.proofs.RowLemmas.{find_above, rise_of, same_rows, sorted_of}
use Rattle.rds_life.proofs.Views.{contains-seen_of, find-live_rows, rise-live_rows}
use Rattle.rds_life.specs.Life.{Life, Live, Dead, entry_of, keys, live_rows, seen_of}
use Rattle.rds_state.proofs.MarkSums.{sum-put}
use Rattle.rds_state.specs.Coordinates.{Coordinates}
use Rattle.rds_state.specs.declared.mark.Mark.{Mark}
use Rattle.rds_state.specs.Mark.{mark_of, no_mark, plus_count, plus_live}
use Rattle.rds_state.specs.Value.{StateValue, coordinates}
use Rattle.rds_session.proofs.Joined.{life_over, over, with_delta_joins}
use Rattle.rds_session.specs.Marked.{with_delta}

-- ---- rows among others

abbrev Rows : Type 0
Rows = List (Dot × Entry)

-- each of the new rows put in its place
abbrev all_put : Rows → Rows → Rows
all_put [] rows = rows
all_put (r ∷ new) rows = all_put new (map.put dot_cmp r.0 r.1 rows)

rise-all_put : (new rows : Rows) → ascends (keys rows) ≡ true → ascends (keys (all_put new rows)) ≡ true
rise-all_put [] rows rise = rise
rise-all_put (r ∷ new) rows rise = rise-all_put new (map.put dot_cmp r.0 r.1 rows) (rise_of (map.put dot_cmp r.0 r.1 rows) (is_sorted-put dot_cmp dots_total r.0 r.1 rows (sorted_of rows rise)))

-- a later row of another dot
over_other : (b : Bool) (e : Entry) (first later : Option Entry) → (b ≡ true → first ≡ None) → over first (cond b (Some e) later) ≡ over (cond b (Some e) first) later
over_other true e first later none = ap (λ o. over o (Some e)) (none refl)
over_other false e first later none = refl

-- no later row is of the first one's dot
none_later : (d : Dot) (r : Dot × Entry) (new : Rows) → list_all (is_above r.0) (keys new) ≡ true → eq_by_cmp dot_cmp d r.0 ≡ true → map.find dot_cmp d new ≡ None
none_later d r new above same = ap (λ q. map.find dot_cmp q new) (tied_dots_are_one d r.0 same) ∙ find_above r.0 new above

find-all_put : (new rows : Rows) → ascends (keys new) ≡ true → (d : Dot) → map.find dot_cmp d (all_put new rows) ≡ over (map.find dot_cmp d new) (map.find dot_cmp d rows)
find-all_put [] rows rise d = refl
find-all_put (r ∷ new) rows rise d =
    find-all_put new (map.put dot_cmp r.0 r.1 rows) (and_right (list_all (is_above r.0) (keys new)) _ rise) d
    ∙ ap (over (map.find dot_cmp d new)) (find-put dot_cmp dots_total d r.0 r.1 rows)
    ∙ over_other (eq_by_cmp dot_cmp d r.0) r.1 (map.find dot_cmp d new) (map.find dot_cmp d rows) (none_later d r new (and_left _ (ascends (keys new)) rise))

-- the rows have no dot in common
abbrev AreApart : Rows → Rows → Type 0
AreApart new rows = (d : Dot) → is_some (map.find dot_cmp d new) ≡ true → map.find dot_cmp d rows ≡ None

still_none : (b : Bool) (e : Entry) (first later : Option Entry) → (b ≡ true → first ≡ None) → (is_some (cond b (Some e) first) ≡ true → later ≡ None) → is_some first ≡ true → cond b (Some e) later ≡ None
still_none true e first later none apart has = absurd (false≢true (ap is_some (sym (none refl)) ∙ has))
still_none false e first later none apart has = apart has

first_none : (b : Bool) (e : Entry) (first later : Option Entry) → b ≡ true → (is_some (cond b (Some e) first) ≡ true → later ≡ None) → later ≡ None
first_none true e first later is apart = apart refl
first_none false e first later is apart = absurd (false≢true is)

-- their marks add up
sum-all_put : (m : Mark) (new rows : Rows) → ascends (keys new) ≡ true → AreApart new rows → fold plus_live m (all_put new rows) ≡ fold plus_live (fold plus_live m rows) new
sum-all_put m [] rows rise apart = refl
sum-all_put m (r ∷ new) rows rise apart =
    sum-all_put m new (map.put dot_cmp r.0 r.1 rows) (and_right (list_all (is_above r.0) (keys new)) _ rise)
    (λ d has. find-put dot_cmp dots_total d r.0 r.1 rows
    ∙ still_none (eq_by_cmp dot_cmp d r.0) r.1 (map.find dot_cmp d new) (map.find dot_cmp d rows) (none_later d r new (and_left _ (ascends (keys new)) rise)) (apart d) has)
    ∙ ap (λ a. fold plus_live a new) (sum-put r.0 r.1 rows (first_none (eq_by_cmp dot_cmp r.0 r.0) r.1 (map.find dot_cmp r.0 new) (map.find dot_cmp r.0 rows) (ap is_eq (tied_itself dots_total r.0)) (apart r.0)) m)

-- ---- live dots

-- the kept rows of dots that the delta hasn't seen
abbrev pub unseen : Dots → Rows → Rows
unseen seen rows = left (λ d e. set.contains seen d) rows

module _ (seen : Dot → Entry → Bool) (d : Dot) where
  none_spared : (kept : Option Entry) → ((e : Entry) → seen d e ≡ true) → spared seen d kept ≡ None
  none_spared None is = refl
  none_spared (Some e) is = ap (λ b. cond (not b) (Some e) None) (is e)

  all_spared : (kept : Option Entry) → ((e : Entry) → seen d e ≡ false) → spared seen d kept ≡ kept
  all_spared None is = refl
  all_spared (Some e) is = ap (λ b. cond (not b) (Some e) None) (is e)

  -- the entry of a dot in the join
  over_spared : (delta kept : Option Life) → ((e : Entry) → seen d e ≡ is_some delta) → over (entry_of delta) (spared seen d (entry_of kept)) ≡ entry_of (over delta kept)
  over_spared None kept is = all_spared (entry_of kept) is
  over_spared (Some (Live e)) kept is = refl
  over_spared (Some Dead) kept is = none_spared (entry_of kept) is

  -- where the delta's dot is live, no kept row is left
  none_beside : (delta : Option Life) (kept : Option Entry) → ((e : Entry) → seen d e ≡ is_some delta) → is_some (entry_of delta) ≡ true → spared seen d kept ≡ None
  none_beside None kept is has = absurd (false≢true has)
  none_beside (Some (Live e)) kept is has = none_spared kept is
  none_beside (Some Dead) kept is has = absurd (false≢true has)

module _ (kept delta : StateValue) where
  abbrev alone : Rows
  alone = unseen (seen_of delta.lives) (live_rows kept.lives)

  abbrev is_seen : Dot → Entry → Bool
  is_seen d e = set.contains (seen_of delta.lives) d

  find_alone : (d : Dot) → map.find dot_cmp d alone ≡ spared is_seen d (entry_of (map.get kept.lives d))
  find_alone d = find-left is_seen (live_rows kept.lives) (rise-live_rows kept.lives) d ∙ ap (spared is_seen d) (find-live_rows kept.lives d)

  rise_alone : ascends (keys alone) ≡ true
  rise_alone = rise-left is_seen (live_rows kept.lives) (rise-live_rows kept.lives)

  live_joined : live_rows (with_delta kept delta).lives ≡ all_put (live_rows delta.lives) alone
  live_joined = same_rows _ _ (rise-live_rows (with_delta kept delta).lives) (rise-all_put (live_rows delta.lives) alone rise_alone) (λ d.
      find-live_rows (with_delta kept delta).lives d
      ∙ ap entry_of (life_over kept delta d)
      ∙ sym (over_spared is_seen d (map.get delta.lives d) (map.get kept.lives d) (λ e. contains-seen_of delta.lives d))
      ∙ ap (over (entry_of (map.get delta.lives d))) (sym (find_alone d))
      ∙ ap (λ o. over o (map.find dot_cmp d alone)) (sym (find-live_rows delta.lives d))
      ∙ sym (find-all_put (live_rows delta.lives) alone (rise-live_rows delta.lives) d))

  apart : AreApart (live_rows delta.lives) alone
  apart d has =
      find_alone d
      ∙ none_beside is_seen d (map.get delta.lives d) (entry_of (map.get kept.lives d)) (λ e. contains-seen_of delta.lives d) (ap is_some (sym (find-live_rows delta.lives d)) ∙ has)

  live_sum : (m : Mark) → fold plus_live m (live_rows (with_delta kept delta).lives) ≡ fold plus_live (fold plus_live m alone) (live_rows delta.lives)
  live_sum m = ap (fold plus_live m) live_joined ∙ sum-all_put m (live_rows delta.lives) alone (rise-live_rows delta.lives) apart

-- ---- rows of counters

nothing_drawn : (xs : List CountRow) → greatest_rows xs [] ≡ xs
nothing_drawn [] = refl
nothing_drawn (x ∷ xs) = ap (λ l. x ∷ l) (nothing_drawn xs)

-- where there are no others, they stay
pub none_drawn : (xs ys : List CountRow) → length ys ≡ 0 → greatest_rows xs ys ≡ xs
none_drawn xs ys none = ap (greatest_rows xs) (length_none ys none) ∙ nothing_drawn xs

module _ (kept delta : StateValue) (above : IsAbove (coordinates delta) (ranks (coordinates kept))) (xs ys : List CountRow) where
  drawn_joined : AreCountRows xs → counts_of xs ≡ kept.counts → AreCountRows ys → counts_of ys ≡ delta.counts → greatest_rows xs ys ≡ count_rows (with_delta kept delta).counts
  drawn_joined are_xs say_xs are_ys say_ys =
      sym (count_rows-counts_of (greatest_rows xs ys) (drawn_are xs ys are_xs are_ys))
      ∙ ap count_rows (same_counts _ _ (λ q.
      drawn_number xs ys are_xs are_ys kept.counts delta.counts say_xs say_ys q ∙ sym (ap (λ (x : Coordinates). x.number q) (with_delta_joins kept delta above))))

  -- the mark of all these is that of the join
  pub mark_joined : AreCountRows xs → counts_of xs ≡ kept.counts → AreCountRows ys → counts_of ys ≡ delta.counts
      → fold plus_count (fold plus_live (fold plus_live no_mark (unseen (seen_of delta.lives) (live_rows kept.lives))) (live_rows delta.lives)) (greatest_rows xs ys) ≡ mark_of (with_delta kept delta)
  unfolding mark_of
  mark_joined are_xs say_xs are_ys say_ys =
      let joined = with_delta kept delta in
      ap (λ m. fold plus_count m (greatest_rows xs ys)) (sym (live_sum kept delta no_mark))
      ∙ ap (fold plus_count (fold plus_live no_mark (live_rows joined.lives))) (drawn_joined are_xs say_xs are_ys say_ys)
