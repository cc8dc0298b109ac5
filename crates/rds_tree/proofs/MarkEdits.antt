-- The mark of a state after an edit, and after a delta was joined in.
use Rattle.std.proofs.Common.{◌≡◌, ℕ, zero, suc, ◌+◌, ◌≤◌, Bool, true, false, not, cond, max, List, [], ◌∷◌, length}
use Rattle.std.proofs.Common.{Option, Some, None, Result, Ok, Err, refl, sym, ◌∙◌, ap, arith, ◌⊎◌, inl, inr, nat_lt}
use Rattle.std.proofs.Math.Nat.{max-zero}
use Rattle.std.proofs.lemmas.Bool.Decides.{nat_tests}
use Rattle.std.proofs.lemmas.List.Sums.{length-filter}
use Rattle.std.specs.Prelude.{count_by, filter, is_some, OnErr, OnOk}
use Rattle.std.specs.Ordering.{eq_by_cmp}
use Rattle.std.specs.FinMap as map
use Rattle.rds_names.specs.declared.entry.Entry.{Entry}
use Rattle.rds_names.specs.declared.entry.Kind.TheVariants.{Reg, Elem}
use Rattle.rds_names.specs.declared.fault.Fault.{Fault}
use Rattle.rds_names.specs.declared.fault.Fault.TheVariants.{SeqFull}
use Rattle.rds_dots.specs.declared.dot.Dot.{Dot}
use Rattle.rds_dots.specs.declared.dot.TheConstants.{MAX_SEQ}
use Rattle.rds_dots.specs.Dots.{dot_cmp}
use Rattle.rds_dots.specs.Lacking.{dot_of}
use Rattle.rds_dots.specs.Sets.{tied_dots_are_one as dot_is}
use Rattle.rds_counts.specs.Counted.{number, place}
use Rattle.rds_counts.specs.Place.{Place, place_cmp}
use Rattle.rds_counts.specs.declared.row.Which.{Which}
use Rattle.rds_counts.specs.declared.row.Which.TheVariants.{P, N}
use Rattle.rds_counts.specs.RowsOf.{count_rows}
use Rattle.rds_counts.proofs.SameCounts.{same_counts}
use Rattle.rds_life.specs.Life.{Life, Live, Dead, Lived, entry_of, join_life, live_rows}
use Rattle.rds_life.proofs.RowLemmas.{same_rows}
use Rattle.rds_life.proofs.Views.{find-live_rows, rise-live_rows}
use Rattle.rds_state.specs.declared.command.Command.{Command}
use Rattle.rds_state.specs.declared.command.Command.TheVariants.{Set, Add, Del, Clear, Inc, Dec}
use Rattle.rds_state.specs.declared.command.Edited.{Edited}
use Rattle.rds_state.specs.declared.mark.Mark.{Mark}
use Rattle.rds_state.specs.Coordinates.{Coordinates, join}
use Rattle.rds_state.specs.Chosen.{command_parts, CommandParts}
use Rattle.rds_state.specs.Edit.{covers, effect, effect_number, greatest, is_next, life_killed, own_top, path_fault, seq_fault, JoinsEffect}
use Rattle.rds_state.specs.Fits.{ReplicaValue}
use Rattle.rds_state.specs.Mark.{count_mark, mark_of, no_mark, plus}
use Rattle.rds_state.specs.Results.{IsEdited}
use Rattle.rds_state.specs.Value.{StateValue, coordinates, size}
use Rattle.rds_state.proofs.CountLemmas.{same_dot-tied}
use Rattle.rds_state.proofs.JoinLaws.{same_value}
use Rattle.rds_state.proofs.Nothing.{joins_nothing}
use Rattle.rds_tree.specs.Cuts.{covered_leaf, found_at, is_deep, path_covered}
use Rattle.rds_tree.specs.Growing.{Holds}
use Rattle.rds_tree.specs.Held.{IsGathered}
use Rattle.rds_tree.specs.Marks.{coming, going, mark_at, mark_in, marks_at, marks_in, marks_of, HasRows, IsMoved}
use Rattle.rds_tree.specs.Row.{Row}
use Rattle.rds_tree.specs.Taken.{rows_dead, rows_unseen}
use Rattle.rds_tree.proofs.Effects.{one_made}
use Rattle.rds_tree.proofs.Holding.{finds, tied}
use Rattle.rds_tree.proofs.MarkCounts.{count_total, mark_raised, marks_joined as counts_joined}
use Rattle.rds_tree.proofs.MarkDots.{dots_as_rows}
use Rattle.rds_tree.proofs.MarkRows.{either, find-filter, kept, marks_joined as lives_joined, rise-filter, row_mark, rows_changed}
use Rattle.rds_tree.proofs.MarkTotals.{added_to, assoc, cross, moved_is, turn, whole-plus, whole-total, IsWhole}

-- ---- the two parts of a mark

abbrev lives_mark : StateValue → Mark
lives_mark v = marks_of (live_rows v.lives)

abbrev counts_mark : StateValue → Mark
counts_mark v = count_total (count_rows v.counts)

mark_parts : (v : StateValue) → mark_of v ≡ plus (lives_mark v) (counts_mark v)
unfolding mark_of
mark_parts v = added_to count_mark (lives_mark v) (whole-total row_mark (live_rows v.lives)) (count_rows v.counts)

pub whole_mark : (v : StateValue) → IsWhole (mark_of v)
whole_mark v = ap (λ m. plus m no_mark) (mark_parts v) ∙ whole-plus (lives_mark v) (counts_mark v) ∙ sym (mark_parts v)

module _ (a b : StateValue) (less more : Mark) where
  -- the counters are the same
  with_counts : b.counts ≡ a.counts → plus (lives_mark b) less ≡ plus (lives_mark a) more → plus (mark_of b) less ≡ plus (mark_of a) more
  with_counts same lives =
      ap (λ m. plus m less) (mark_parts b ∙ ap (λ m. plus (lives_mark b) (count_total (count_rows m))) same)
      ∙ turn (lives_mark b) (counts_mark a) less
      ∙ ap (λ m. plus m (counts_mark a)) lives
      ∙ turn (lives_mark a) more (counts_mark a)
      ∙ ap (λ m. plus m more) (sym (mark_parts a))

  -- what lives is the same
  with_lives : live_rows b.lives ≡ live_rows a.lives → plus (counts_mark b) less ≡ plus (counts_mark a) more → plus (mark_of b) less ≡ plus (mark_of a) more
  with_lives same counts =
      ap (λ m. plus m less) (mark_parts b ∙ ap (λ rows. plus (marks_of rows) (counts_mark b)) same)
      ∙ assoc (lives_mark a) (counts_mark b) less
      ∙ ap (plus (lives_mark a)) counts
      ∙ sym (assoc (lives_mark a) (counts_mark a) more)
      ∙ ap (λ m. plus m more) (sym (mark_parts a))

-- ---- a delta

pub takes_mark : (a d c : StateValue) → HasRows a.counts → HasRows d.counts → HasRows c.counts → coordinates c ≡ join (coordinates a) (coordinates d)
    → plus (mark_of c) (plus (marks_in (count_rows a.counts) (count_rows d.counts)) (marks_of (rows_dead d.lives (live_rows a.lives))))
    ≡ plus (mark_of a) (plus (marks_in (count_rows c.counts) (count_rows d.counts)) (marks_of (rows_unseen a.lives (live_rows d.lives))))
takes_mark a d c rows_a rows_d rows_c joined =
    let before = marks_in (count_rows a.counts) (count_rows d.counts) in
    let after = marks_in (count_rows c.counts) (count_rows d.counts) in
    let dying = marks_of (rows_dead d.lives (live_rows a.lives)) in
    let new = marks_of (rows_unseen a.lives (live_rows d.lives)) in
    ap (λ m. plus m (plus before dying)) (mark_parts c)
    ∙ cross (lives_mark c) (counts_mark c) before dying
    ∙ ap (λ m. plus m (plus (counts_mark c) before)) (lives_joined a.lives d.lives c.lives (λ q. ap (λ (x : Coordinates). x.life q) joined))
    ∙ ap (plus (plus (lives_mark a) new)) (counts_joined a.counts d.counts c.counts rows_a.are rows_d.are rows_c.are rows_a.say rows_d.say rows_c.say (λ q. ap (λ (x : Coordinates). x.number q) joined))
    ∙ sym (cross (lives_mark a) (counts_mark a) after new)
    ∙ ap (λ m. plus m (plus after new)) (sym (mark_parts a))

-- the mark that was moved, where the rows that die and come are known to be these
pub taken_mark : {here there : Lived} {a d : StateValue} → here ≡ a.lives → there ≡ d.lives → {dead new : List (Dot × Entry)} → dead ≡ rows_dead there (live_rows here) → new ≡ rows_unseen here (live_rows there)
    → (old : Mark) (c : StateValue) (before after : Mark) {result : Mark} → old ≡ mark_of a → before ≡ marks_in (count_rows a.counts) (count_rows d.counts) → after ≡ marks_in (count_rows c.counts) (count_rows d.counts)
    → HasRows a.counts → HasRows d.counts → HasRows c.counts → coordinates c ≡ join (coordinates a) (coordinates d)
    → IsMoved old (plus before (marks_of dead)) (plus after (marks_of new)) result → result ≡ mark_of c
taken_mark {here = here} {there = there} {a = a} {d = d} here_is there_is {dead = dead} {new = new} dead_is new_is old c before after {result = result} old_is before_is after_is rows_a rows_d rows_c joined moved =
    let dying : dead ≡ rows_dead d.lives (live_rows a.lives) = dead_is ∙ (λ i. rows_dead (there_is i) (live_rows (here_is i))) in
    let arriving : new ≡ rows_unseen a.lives (live_rows d.lives) = new_is ∙ (λ i. rows_unseen (here_is i) (live_rows (there_is i))) in
    moved_is old (plus before (marks_of dead)) (plus after (marks_of new)) result (mark_of c) moved (whole_mark c)
    ((λ i. plus (mark_of c) (plus (before_is i) (marks_of (dying i))))
    ∙ takes_mark a d c rows_a rows_d rows_c joined
    ∙ sym (λ i. plus (old_is i) (plus (after_is i) (marks_of (arriving i)))))

-- a delta without components leaves the mark as it is
pub nothing_marked : (old new : ReplicaValue) (d : StateValue) (r : Result (Unit {0}) Fault) → size d ≡ 0 → OnOk r (coordinates new.state ≡ join (coordinates old.state) (coordinates d)) → OnErr r (new ≡ old) → mark_of new.state ≡ mark_of old.state
nothing_marked old new d (Ok x) none ok err = ap mark_of (same_value new.state old.state (ok ∙ sym (joins_nothing d none old.state)))
nothing_marked old new d (Err f) none ok err = ap (λ (v : ReplicaValue). mark_of v.state) err

-- ---- the dots that a command covers

none_is : (e : Entry) → None ≡ Some e → ⊥
none_is e h = cc

is_live : (o : Option Life) (e : Entry) → entry_of o ≡ Some e → o ≡ Some (Live e)
is_live None e h = absurd (none_is e h)
is_live (Some (Live f)) e h = let same : f ≡ e = cc h in ap (λ x. Some (Live x)) same
is_live (Some Dead) e h = absurd (none_is e h)

kept_is : (t : Entry → Bool) (o : Option Entry) (e : Entry) → kept t o ≡ Some e → (o ≡ Some e) × (t e ≡ true)
kept_is t None e h = absurd (none_is e h)
kept_is t (Some f) e h = by (t f) refl h
  where
    by : (b : Bool) → t f ≡ b → cond b (Some f) None ≡ Some e → (Some f ≡ Some e) × (t e ≡ true)
    by true is g = let same : f ≡ e = cc g in (g, ap t (sym same) ∙ is)
    by false is g = absurd (none_is e g)

-- dots that a tree lists are those that the command covers, each once, where they are as many
pub covered_marks : (c : Command) (path : List (List ℕ)) (v : Lived) (tree : List Row) (dots : List Dot) → path ≡ path_covered c → Holds (live_rows v) tree → IsGathered (found_at (covered_leaf c) (is_deep c) path tree) [] dots
    → length dots ≡ count_by (λ (r : Dot × Entry). covers c r.1) (live_rows v) → marks_at v dots ≡ marks_of (filter (λ r. covers c r.1) (live_rows v))
covered_marks c path v tree dots at holds gathered many =
    let covered : Dot × Entry → Bool = λ r. covers c r.1 in
    dots_as_rows v (filter covered (live_rows v)) dots (rise-filter covered (live_rows v) (rise-live_rows v))
    (λ d e there.
    let both = kept_is (λ x. covers c x) (map.find dot_cmp d (live_rows v)) e (sym (find-filter covered (live_rows v) (rise-live_rows v) d) ∙ there) in
    let entry = sym (find-live_rows v d) ∙ both.0 in
    (entry, gathered.any d e ∙ finds c path v tree at holds d e (is_live (map.get v d) e entry) ∙ both.1))
    (many ∙ sym (length-filter covered (live_rows v)))

-- ---- the next own dot

greatest_most : (p : ℕ → Bool) (m n : ℕ) → n ≤ m → p n ≡ true → n ≤ greatest p m
unfolding greatest
greatest_most p zero n le is = omega (arith, le)
greatest_most p (suc m) n le is = by (p (suc m)) refl (λ less. greatest_most p m n less is)
  where
    last_or_less : (n m : ℕ) → n ≤ suc m → (n ≡ suc m) ⊎ (n ≤ m)
    last_or_less n m h = grind arith

    not_both : {X : Type 0} (b : Bool) → b ≡ true → b ≡ false → X
    not_both true p n = absurd (cc)
    not_both false p n = absurd (cc)

    by : (b : Bool) → p (suc m) ≡ b → (n ≤ m → n ≤ greatest p m) → n ≤ cond b (suc m) (greatest p m)
    by true e again = le
    by false e again = elim (last_or_less n m le) [
      | inl last ↦ not_both (p n) is (ap p last ∙ e)
      | inr less ↦ again less
    ]

none_of : (o : Option Life) → (is_some o ≡ true → ⊥) → o ≡ None
none_of None h = refl
none_of (Some l) h = absurd (h refl)

abbrev next : Coordinates → ℕ → Dot
next a own = dot_of own (own_top a own + 1)

next_unseen : (a : Coordinates) (own : ℕ) → seq_fault (own_top a own) ≡ None → a.life (next a own) ≡ None
next_unseen a own room = none_of _ (λ h.
    let within = top_within (own_top a own) MAX_SEQ (by (nat_lt (own_top a own) MAX_SEQ) room) in
    let most = greatest_most (λ n. is_some (a.life (dot_of own n))) MAX_SEQ (own_top a own + 1) within h in
    past (own_top a own) most)
  where
    by : (b : Bool) → cond b None (Some SeqFull) ≡ None → b ≡ true
    by true h = refl
    by false h = absurd (cc h)

    top_within : (t m : ℕ) → nat_lt t m ≡ true → t + 1 ≤ m
    top_within t m h = grind (arith, nat_tests)

    past : (t : ℕ) → t + 1 ≤ t → ⊥
    past t h = omega (arith, h)

room_of : (p : List (List ℕ)) (f : Option Fault) → path_fault p f ≡ None → f ≡ None
room_of [] f h = absurd (cc h)
room_of (k ∷ ks) f h = h

-- ---- what lives after a command

stays_entry : (c : Command) (x : Option Life) → entry_of (join_life x (life_killed c x)) ≡ kept (λ e. not (covers c e)) (entry_of x)
stays_entry c None = refl
stays_entry c (Some (Live e)) = by (covers c e)
  where
    by : (b : Bool) → entry_of (join_life (Some (Live e)) (cond b (Some Dead) None)) ≡ cond (not b) (Some e) None
    by true = refl
    by false = refl
stays_entry c (Some Dead) = refl

same_cond : {X : Type 0} (b : Bool) (x : X) → cond b x x ≡ x
same_cond true x = refl
same_cond false x = refl

module _ (c : Command) (a b : StateValue) (own : ℕ) where
  abbrev covered : List (Dot × Entry)
  covered = filter (λ r. covers c r.1) (live_rows a.lives)

  entry_killed : coordinates b ≡ join (coordinates a) (effect (coordinates a) own c None) → (d : Dot) → entry_of (map.get b.lives d) ≡ kept (λ e. not (covers c e)) (entry_of (map.get a.lives d))
  entry_killed joined d =
      ap (λ (x : Coordinates). entry_of (x.life d)) joined
      ∙ ap (λ l. entry_of (join_life (map.get a.lives d) l)) (same_cond (is_next (coordinates a) own d) (life_killed c (map.get a.lives d)))
      ∙ stays_entry c (map.get a.lives d)

  lives_killed : coordinates b ≡ join (coordinates a) (effect (coordinates a) own c None) → plus (lives_mark b) (marks_of covered) ≡ plus (lives_mark a) no_mark
  lives_killed joined = rows_changed a.lives b.lives (λ r. covers c r.1) [] refl (λ d e there. absurd (none_is e there)) (entry_killed joined)

  module _ (e : Entry) (joined : coordinates b ≡ join (coordinates a) (effect (coordinates a) own c (Some e))) (unseen : map.get a.lives (next (coordinates a) own) ≡ None) where
    abbrev new : Dot
    new = next (coordinates a) own

    next_entry : (n : Bool) (x : Option Life) → (n ≡ true → x ≡ None) → entry_of (join_life x (cond n (Some (Live e)) (life_killed c x))) ≡ either (cond n (Some e) None) (kept (λ f. not (covers c f)) (entry_of x))
    next_entry true x none = ap (λ o. entry_of (join_life o (Some (Live e)))) (none refl)
    next_entry false x none = stays_entry c x

    at_new : (d : Dot) → is_next (coordinates a) own d ≡ true → map.get a.lives d ≡ None
    at_new d is = ap (map.get a.lives) (dot_is d new (same_dot-tied d new ∙ is)) ∙ unseen

    entry_made : (d : Dot) → entry_of (map.get b.lives d) ≡ either (map.find dot_cmp d ((new, e) ∷ [])) (kept (λ f. not (covers c f)) (entry_of (map.get a.lives d)))
    entry_made d =
        ap (λ (x : Coordinates). entry_of (x.life d)) joined
        ∙ next_entry (is_next (coordinates a) own d) (map.get a.lives d) (at_new d)
        ∙ ap (λ t. either (cond t (Some e) None) (kept (λ f. not (covers c f)) (entry_of (map.get a.lives d)))) (sym (same_dot-tied d new))

    found_new : (d : Dot) (f : Entry) → map.find dot_cmp d ((new, e) ∷ []) ≡ Some f → entry_of (map.get a.lives d) ≡ None
    found_new d f there = ap entry_of (by (eq_by_cmp dot_cmp d new) refl there)
      where
        by : (t : Bool) → eq_by_cmp dot_cmp d new ≡ t → cond t (Some e) None ≡ Some f → map.get a.lives d ≡ None
        by true is g = ap (map.get a.lives) (dot_is d new is) ∙ unseen
        by false is g = absurd (none_is f g)

    new_lives : entry_of (map.get b.lives new) ≡ Some e
    new_lives = entry_made new ∙ ap (λ t. either (cond t (Some e) None) (kept (λ f. not (covers c f)) (entry_of (map.get a.lives new)))) (tied new)

    lives_made : plus (lives_mark b) (marks_of covered) ≡ plus (lives_mark a) (mark_at new (entry_of (map.get b.lives new)))
    lives_made =
        rows_changed a.lives b.lives (λ r. covers c r.1) ((new, e) ∷ []) refl found_new entry_made
        ∙ sym (assoc (lives_mark a) no_mark (row_mark (new, e)))
        ∙ ap (λ m. plus m (row_mark (new, e))) (whole-total row_mark (live_rows a.lives))
        ∙ ap (λ o. plus (lives_mark a) (mark_at new o)) (sym new_lives)

  -- no number is raised
  counts_stay : (made : Option Entry) → ((q : Place) → effect_number (coordinates a) own c q ≡ 0) → coordinates b ≡ join (coordinates a) (effect (coordinates a) own c made) → b.counts ≡ a.counts
  counts_stay made none joined = same_counts b.counts a.counts (λ q. ap (λ (x : Coordinates). x.number q) joined ∙ ap (max (number a.counts q)) (none q) ∙ max-zero (number a.counts q))

  -- nothing is covered
  rows_stay : ((e : Entry) → covers c e ≡ false) → coordinates b ≡ join (coordinates a) (effect (coordinates a) own c None) → live_rows b.lives ≡ live_rows a.lives
  rows_stay none joined = same_rows _ _ (rise-live_rows b.lives) (rise-live_rows a.lives) (λ d.
      find-live_rows b.lives d ∙ entry_killed joined d ∙ all_kept (entry_of (map.get a.lives d)) ∙ sym (find-live_rows a.lives d))
    where
      all_kept : (o : Option Entry) → kept (λ e. not (covers c e)) o ≡ o
      all_kept None = refl
      all_kept (Some e) = ap (λ t. cond (not t) (Some e) None) (none e)

-- ---- an edit

module _ (c : Command) (old new : ReplicaValue) where
  -- the effect with what it makes
  with_made : (joins : JoinsEffect (coordinates old.state) old.own c (coordinates new.state)) (made : Option Entry) → joins.made ≡ made → coordinates new.state ≡ join (coordinates old.state) (effect (coordinates old.state) old.own c made)
  with_made joins made is = joins.joined ∙ ap (λ m. join (coordinates old.state) (effect (coordinates old.state) old.own c m)) is

  abbrev covered_by : Mark
  covered_by = marks_of (filter (λ r. covers c r.1) (live_rows old.state.lives))

  makes : ((q : Place) → effect_number (coordinates old.state) old.own c q ≡ 0) → (joins : JoinsEffect (coordinates old.state) old.own c (coordinates new.state)) (e : Entry) → joins.made ≡ Some e → map.get old.state.lives (next (coordinates old.state) old.own) ≡ None
      → plus (mark_of new.state) covered_by ≡ plus (mark_of old.state) (mark_at (next (coordinates old.state) old.own) (entry_of (map.get new.state.lives (next (coordinates old.state) old.own))))
  makes none joins e is unseen =
      let joined = with_made joins (Some e) is in
      with_counts old.state new.state _ _ (counts_stay c old.state new.state old.own (Some e) none joined) (lives_made c old.state new.state old.own e joined unseen)

  kills : ((q : Place) → effect_number (coordinates old.state) old.own c q ≡ 0) → (joins : JoinsEffect (coordinates old.state) old.own c (coordinates new.state)) → joins.made ≡ None
      → plus (mark_of new.state) covered_by ≡ plus (mark_of old.state) no_mark
  kills none joins is =
      let joined = with_made joins None is in
      with_counts old.state new.state _ _ (counts_stay c old.state new.state old.own None none joined) (lives_killed c old.state new.state old.own joined)

  raises : (k : List ℕ) (which : Which) → ((q : Place) → eq_by_cmp place_cmp q (place k old.own which) ≡ false → effect_number (coordinates old.state) old.own c q ≡ 0) → ((e : Entry) → covers c e ≡ false)
      → HasRows old.state.counts → HasRows new.state.counts → new.own ≡ old.own → (joins : JoinsEffect (coordinates old.state) old.own c (coordinates new.state)) → joins.made ≡ None
      → plus (mark_of new.state) (mark_in k old.own (count_rows old.state.counts)) ≡ plus (mark_of old.state) (mark_in k new.own (count_rows new.state.counts))
  raises k which none covers_none rows_old rows_new own joins is =
      let joined = with_made joins None is in
      with_lives old.state new.state _ _ (rows_stay c old.state new.state old.own covers_none joined)
      (mark_raised old.state.counts new.state.counts k old.own which rows_old.are rows_new.are rows_old.say rows_new.say
      (λ q other. ap (λ (x : Coordinates). x.number q) joined ∙ ap (max (number old.state.counts q)) (none q other) ∙ max-zero (number old.state.counts q)))
      ∙ ap (λ i. plus (mark_of old.state) (mark_in k i (count_rows new.state.counts))) (sym own)

pub edits_mark : (c : Command) (old new : ReplicaValue) (edited : Edited) → HasRows old.state.counts → HasRows new.state.counts → new.own ≡ old.own → IsEdited old.state old.own c (Ok edited) new.state
    → plus (mark_of new.state) (going old c) ≡ plus (mark_of old.state) (coming new c edited.dot)
edits_mark (Set p v) old new edited rows_old rows_new own is =
    let made = one_made (Set p v) (record { path = p; kind = Reg; value = v }) is.joined.made refl is.joined.is_made in
    makes (Set p v) old new (λ q. refl) is.joined made.0 made.1.0 (next_unseen (coordinates old.state) old.own (room_of p _ is.due))
    ∙ ap (λ o. plus (mark_of old.state) (coming new (Set p v) o)) (sym is.dot)
edits_mark (Add p v) old new edited rows_old rows_new own is =
    let made = one_made (Add p v) (record { path = p; kind = Elem; value = v }) is.joined.made refl is.joined.is_made in
    makes (Add p v) old new (λ q. refl) is.joined made.0 made.1.0 (next_unseen (coordinates old.state) old.own (room_of p _ is.due))
    ∙ ap (λ o. plus (mark_of old.state) (coming new (Add p v) o)) (sym is.dot)
edits_mark (Del p v) old new edited rows_old rows_new own is =
    kills (Del p v) old new (λ q. refl) is.joined is.joined.is_made ∙ ap (λ o. plus (mark_of old.state) (coming new (Del p v) o)) (sym is.dot)
edits_mark (Clear p) old new edited rows_old rows_new own is =
    kills (Clear p) old new (λ q. refl) is.joined is.joined.is_made ∙ ap (λ o. plus (mark_of old.state) (coming new (Clear p) o)) (sym is.dot)
edits_mark (Inc k by) old new edited rows_old rows_new own is =
    raises (Inc k by) old new k P (λ q other. ap (λ t. cond t (number old.state.counts q + by) 0) other) (λ e. refl) rows_old rows_new own is.joined is.joined.is_made
edits_mark (Dec k by) old new edited rows_old rows_new own is =
    raises (Dec k by) old new k N (λ q other. ap (λ t. cond t (number old.state.counts q + by) 0) other) (λ e. refl) rows_old rows_new own is.joined is.joined.is_made

-- what goes where a command makes an entry live is what it covers
pub going_made : (c : Command) (p : CommandParts) → command_parts c ≡ Some p → (v : ReplicaValue) → going v c ≡ marks_of (filter (λ r. covers c r.1) (live_rows v.state.lives))
going_made (Set q x) p is v = refl
going_made (Add q x) p is v = refl
going_made (Del q x) p is v = absurd (cc)
going_made (Clear q) p is v = absurd (cc)
going_made (Inc k by) p is v = absurd (cc)
going_made (Dec k by) p is v = absurd (cc)
