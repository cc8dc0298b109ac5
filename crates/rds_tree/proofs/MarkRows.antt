-- The marks of live rows of which some go and some come.
use Rattle.std.proofs.Common.{◌≡◌, Bool, true, false, not, cond, List, [], ◌∷◌, Option, Some, None, refl, sym, ◌∙◌, ap}
use Rattle.std.specs.Prelude.{filter}
use Rattle.std.specs.List.{list_all}
use Rattle.std.specs.Ordering.{eq_by_cmp}
use Rattle.std.specs.FinMap as map
use Rattle.std.specs.FinMap.Entries.{find-put, is_sorted-put}
use Rattle.rds_names.specs.Conditions.{and_true, and_left, and_right}
use Rattle.rds_names.specs.declared.entry.Entry.{Entry}
use Rattle.rds_dots.specs.Ascending.{ascends, is_above}
use Rattle.rds_dots.specs.declared.dot.Dot.{Dot}
use Rattle.rds_dots.specs.Dots.{dot_cmp}
use Rattle.rds_dots.specs.Order.{dots_total}
use Rattle.rds_dots.specs.Sets.{tied_dots_are_one as dot_is}
use Rattle.rds_life.specs.Life.{Life, Live, Dead, Lived, entry_of, is_dead, join_life, keys, live_rows}
use Rattle.rds_life.proofs.RowLemmas.{find_above, find-row_if, rise_of, same_rows, sorted_of}
use Rattle.rds_life.proofs.Views.{find-live_rows, rise-live_rows}
use Rattle.rds_state.specs.declared.mark.Mark.{Mark}
use Rattle.rds_state.specs.Mark.{live_mark, no_mark, plus}
use Rattle.rds_state.proofs.MarkSums.{sum-put}
use Rattle.rds_tree.specs.Marks.{marks_of}
use Rattle.rds_tree.specs.Taken.{is_unseen, rows_dead, rows_unseen}
use Rattle.rds_tree.proofs.Holding.{tied}
use Rattle.rds_tree.proofs.MarkTotals.{assoc, total-cons, total-parted, turn, whole-total}

abbrev pub row_mark : Dot × Entry → Mark
row_mark r = live_mark r.0 r.1

-- ---- rows that pass

-- an entry that passes
abbrev pub kept : (Entry → Bool) → Option Entry → Option Entry
kept t None = None
kept t (Some e) = cond (t e) (Some e) None

module _ (p : Dot × Entry → Bool) where
  all-filter : (t : Dot → Bool) (rows : List (Dot × Entry)) → list_all t (keys rows) ≡ true → list_all t (keys (filter p rows)) ≡ true
  all-filter t [] all = refl
  all-filter t (x ∷ rows) all =
      let again = all-filter t rows (and_right (t x.0) _ all) in
      elim (p x) as (λ b. list_all t (keys (cond b (x ∷ filter p rows) (filter p rows))) ≡ true) [ true ↦ and_true _ _ (and_left (t x.0) _ all) again | false ↦ again ]

  pub rise-filter : (rows : List (Dot × Entry)) → ascends (keys rows) ≡ true → ascends (keys (filter p rows)) ≡ true
  rise-filter [] rise = refl
  rise-filter (x ∷ rows) rise =
      let again = rise-filter rows (and_right (list_all (is_above x.0) (keys rows)) _ rise) in
      let above = all-filter (is_above x.0) rows (and_left _ (ascends (keys rows)) rise) in
      elim (p x) as (λ b. ascends (keys (cond b (x ∷ filter p rows) (filter p rows))) ≡ true) [ true ↦ and_true _ _ above again | false ↦ again ]

  one_kept : (b s : Bool) (e : Entry) (o : Option Entry) (d : Dot) → (b ≡ true → p (d, e) ≡ s) → (b ≡ true → o ≡ None) → cond s (cond b (Some e) (kept (λ x. p (d, x)) o)) (kept (λ x. p (d, x)) o) ≡ kept (λ x. p (d, x)) (cond b (Some e) o)
  one_kept true true e o d is none = sym (ap (λ t. cond t (Some e) None) (is refl))
  one_kept true false e o d is none = ap (kept (λ x. p (d, x))) (none refl) ∙ sym (ap (λ t. cond t (Some e) None) (is refl))
  one_kept false true e o d is none = refl
  one_kept false false e o d is none = refl

  pub find-filter : (rows : List (Dot × Entry)) → ascends (keys rows) ≡ true → (d : Dot) → map.find dot_cmp d (filter p rows) ≡ kept (λ x. p (d, x)) (map.find dot_cmp d rows)
  find-filter [] rise d = refl
  find-filter (x ∷ rows) rise d =
      let again = find-filter rows (and_right (list_all (is_above x.0) (keys rows)) _ rise) d in
      let none = find_above x.0 rows (and_left _ (ascends (keys rows)) rise) in
      find-row_if d (p x) x (filter p rows)
      ∙ ap (λ o. cond (p x) (cond (eq_by_cmp dot_cmp d x.0) (Some x.1) o) o) again
      ∙ one_kept (eq_by_cmp dot_cmp d x.0) (p x) x.1 (map.find dot_cmp d rows) d
      (λ is. ap (λ q. p (q, x.1)) (dot_is d x.0 is))
      (λ is. ap (λ q. map.find dot_cmp q rows) (dot_is d x.0 is) ∙ none)

-- ---- one row before others

pub find_first : (r : Dot × Entry) (rows : List (Dot × Entry)) → map.find dot_cmp r.0 (r ∷ rows) ≡ Some r.1
find_first r rows = ap (λ b. cond b (Some r.1) (map.find dot_cmp r.0 rows)) (tied r.0)

none_is : (e : Entry) → None ≡ Some e → ⊥
none_is e h = cc

-- a later row is of another dot
pub other_dot : (d q : Dot) (rows : List (Dot × Entry)) (e : Entry) → map.find dot_cmp d rows ≡ None → map.find dot_cmp q rows ≡ Some e → eq_by_cmp dot_cmp q d ≡ false
other_dot d q rows e none there = by (eq_by_cmp dot_cmp q d) refl
  where
    by : (b : Bool) → eq_by_cmp dot_cmp q d ≡ b → b ≡ false
    by true is = absurd (none_is e (sym none ∙ ap (λ x. map.find dot_cmp x rows) (sym (dot_is q d is)) ∙ there))
    by false is = refl

pub find_later : (r : Dot × Entry) (rows : List (Dot × Entry)) (q : Dot) (e : Entry) → map.find dot_cmp r.0 rows ≡ None → map.find dot_cmp q rows ≡ Some e → map.find dot_cmp q (r ∷ rows) ≡ Some e
find_later r rows q e none there = ap (λ b. cond b (Some r.1) (map.find dot_cmp q rows)) (other_dot r.0 q rows e none there) ∙ there

-- ---- rows that are put among others

abbrev pub either : Option Entry → Option Entry → Option Entry
either None o = o
either (Some e) o = Some e

either_cond : (b : Bool) (e : Entry) (x y : Option Entry) → cond b (Some e) (either x y) ≡ either (cond b (Some e) x) y
either_cond true e x y = refl
either_cond false e x y = refl

either_none : (x y : Option Entry) → x ≡ None → y ≡ None → either x y ≡ None
either_none None y p q = q
either_none (Some e) y p q = p

module _ (rows : List (Dot × Entry)) (rise : ascends (keys rows) ≡ true) where
  abbrev put_all : List (Dot × Entry) → List (Dot × Entry)
  put_all [] = rows
  put_all (r ∷ new) = map.put dot_cmp r.0 r.1 (put_all new)

  rise-put_all : (new : List (Dot × Entry)) → ascends (keys (put_all new)) ≡ true
  rise-put_all [] = rise
  rise-put_all (r ∷ new) = rise_of (put_all (r ∷ new)) (is_sorted-put dot_cmp dots_total r.0 r.1 (put_all new) (sorted_of (put_all new) (rise-put_all new)))

  find-put_all : (new : List (Dot × Entry)) (d : Dot) → map.find dot_cmp d (put_all new) ≡ either (map.find dot_cmp d new) (map.find dot_cmp d rows)
  find-put_all [] d = refl
  find-put_all (r ∷ new) d =
      find-put dot_cmp dots_total d r.0 r.1 (put_all new)
      ∙ ap (cond (eq_by_cmp dot_cmp d r.0) (Some r.1)) (find-put_all new d)
      ∙ either_cond (eq_by_cmp dot_cmp d r.0) r.1 (map.find dot_cmp d new) (map.find dot_cmp d rows)

  total-put_all : (new : List (Dot × Entry)) → ascends (keys new) ≡ true → ((d : Dot) (e : Entry) → map.find dot_cmp d new ≡ Some e → map.find dot_cmp d rows ≡ None) → marks_of (put_all new) ≡ plus (marks_of rows) (marks_of new)
  total-put_all [] rise_new apart = sym (whole-total row_mark rows)
  total-put_all (r ∷ new) rise_new apart =
      let later = find_above r.0 new (and_left _ (ascends (keys new)) rise_new) in
      sum-put r.0 r.1 (put_all new) (find-put_all new r.0 ∙ either_none (map.find dot_cmp r.0 new) (map.find dot_cmp r.0 rows) later (apart r.0 r.1 (find_first r new))) no_mark
      ∙ ap (λ m. plus m (row_mark r)) (total-put_all new (and_right (list_all (is_above r.0) (keys new)) _ rise_new) (λ d e there. apart d e (find_later r new d e later there)))
      ∙ assoc (marks_of rows) (marks_of new) (row_mark r)
      ∙ ap (plus (marks_of rows)) (sym (total-cons row_mark r new))

-- some rows go, and others come
pub rows_changed : (a c : Lived) (goes : Dot × Entry → Bool) (new : List (Dot × Entry)) → ascends (keys new) ≡ true
    → ((d : Dot) (e : Entry) → map.find dot_cmp d new ≡ Some e → entry_of (map.get a d) ≡ None)
    → ((d : Dot) → entry_of (map.get c d) ≡ either (map.find dot_cmp d new) (kept (λ e. not (goes (d, e))) (entry_of (map.get a d))))
    → plus (marks_of (live_rows c)) (marks_of (filter goes (live_rows a))) ≡ plus (marks_of (live_rows a)) (marks_of new)
rows_changed a c goes new rise_new apart is =
    let old = live_rows a in
    let rise = rise-live_rows a in
    let stays : List (Dot × Entry) = filter (λ r. not (goes r)) old in
    let rise_stays = rise-filter (λ r. not (goes r)) old rise in
    let found : (d : Dot) → map.find dot_cmp d stays ≡ kept (λ e. not (goes (d, e))) (entry_of (map.get a d)) = λ d. find-filter (λ r. not (goes r)) old rise d ∙ ap (kept (λ e. not (goes (d, e)))) (find-live_rows a d) in
    let same : live_rows c ≡ put_all stays rise_stays new = same_rows _ _ (rise-live_rows c) (rise-put_all stays rise_stays new) (λ d.
    find-live_rows c d ∙ is d ∙ ap (either (map.find dot_cmp d new)) (sym (found d)) ∙ sym (find-put_all stays rise_stays new d)) in
    ap (λ m. plus m (marks_of (filter goes old))) (ap marks_of same ∙ total-put_all stays rise_stays new rise_new (λ d e there. found d ∙ ap (kept (λ x. not (goes (d, x)))) (apart d e there)))
    ∙ turn (marks_of stays) (marks_of new) (marks_of (filter goes old))
    ∙ ap (λ m. plus m (marks_of new)) (sym (total-parted row_mark goes old))

-- ---- lives that are joined

joined_entry : (x y : Option Life) → entry_of (join_life x y) ≡ either (kept (λ e. is_unseen x) (entry_of y)) (kept (λ e. not (is_dead y)) (entry_of x))
joined_entry None None = refl
joined_entry None (Some (Live f)) = refl
joined_entry None (Some Dead) = refl
joined_entry (Some (Live e)) None = refl
joined_entry (Some (Live e)) (Some (Live f)) = refl
joined_entry (Some (Live e)) (Some Dead) = refl
joined_entry (Some Dead) None = refl
joined_entry (Some Dead) (Some (Live f)) = refl
joined_entry (Some Dead) (Some Dead) = refl

unseen_none : (x : Option Life) (o : Option Entry) (e : Entry) → kept (λ f. is_unseen x) o ≡ Some e → entry_of x ≡ None
unseen_none None o e h = refl
unseen_none (Some l) None e h = absurd (none_is e h)
unseen_none (Some l) (Some f) e h = absurd (none_is e h)

pub marks_joined : (a b c : Lived) → ((d : Dot) → map.get c d ≡ join_life (map.get a d) (map.get b d)) → plus (marks_of (live_rows c)) (marks_of (rows_dead b (live_rows a))) ≡ plus (marks_of (live_rows a)) (marks_of (rows_unseen a (live_rows b)))
marks_joined a b c joined =
    let come : Dot × Entry → Bool = λ r. is_unseen (map.get a r.0) in
    let found : (d : Dot) → map.find dot_cmp d (filter come (live_rows b)) ≡ kept (λ e. is_unseen (map.get a d)) (entry_of (map.get b d)) = λ d. find-filter come (live_rows b) (rise-live_rows b) d ∙ ap (kept (λ e. is_unseen (map.get a d))) (find-live_rows b d) in
    rows_changed a c (λ r. is_dead (map.get b r.0)) (filter come (live_rows b)) (rise-filter come (live_rows b) (rise-live_rows b))
    (λ d e there. unseen_none (map.get a d) (entry_of (map.get b d)) e (sym (found d) ∙ there))
    (λ d. ap entry_of (joined d) ∙ joined_entry (map.get a d) (map.get b d) ∙ ap (λ o. either o (kept (λ e. not (is_dead (map.get b d))) (entry_of (map.get a d)))) (sym (found d)))
