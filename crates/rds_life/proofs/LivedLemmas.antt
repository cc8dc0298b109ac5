-- What seen dots and rows mean, and what their join and clashes mean.
use Rattle.std.proofs.Common.{◌≡◌, Bool, true, false, ◌||◌, ◌&&◌, cond, List, [], ◌∷◌, Option, Some, None, refl, sym}
use Rattle.std.proofs.Common.{◌∙◌, ap}
use mathlib.Core.Bool.{false≢true}
use Rattle.std.specs.Prelude.{◌↔◌, ◌≢◌, map as each, is_some, Result, Ok, Err}
use Rattle.rds_life.specs.declared.rank.Rank.{Rank}
use Rattle.rds_life.specs.declared.rank.Rank.TheVariants as ranks
use Rattle.rds_life.specs.Rank.{rank_of}
use Rattle.rds_life.specs.Fits.{fits, dot_before_next}
use Rattle.std.specs.List.{list_all}
use Rattle.std.specs.Ordering.{eq_by_cmp, is_eq, is_lt, ordering_reverse}
use Rattle.std.specs.declared.cmp.Ordering.{Ordering}
use Rattle.std.specs.declared.cmp.Ordering.TheVariants.{Less, Equal, Greater}
use Rattle.std.specs.Cmp.{tied_itself}
use Rattle.std.specs.FinMap as map
use Rattle.std.specs.FinSet as set
use Rattle.rds_names.specs.declared.entry.Entry.{Entry}
use Rattle.rds_names.specs.declared.fault.Fault.{Fault}
use Rattle.rds_names.specs.declared.fault.Fault.TheVariants.{Memory, Conflict}
use Rattle.rds_dots.specs.declared.dot.Dot.{Dot}
use Rattle.rds_dots.specs.Dots.{dot_cmp, Dots}
use Rattle.rds_dots.specs.Ascending.{ascends, is_above}
use Rattle.rds_dots.specs.Order.{dots_total, dots_exact}
use Rattle.rds_dots.specs.Merges.{above_trans}
use Rattle.rds_names.specs.Conditions.{and_true, and_left, and_right, less_of}
use Rattle.rds_life.specs.Joined.{rows_of_join}
use Rattle.rds_life.specs.Clash.{SameIfBoth, Clashes}
use Rattle.rds_life.specs.Life.{Life, Lived, keys, life_of, life_in, entry_of, lives_of, AreRows, join_life, IsJoin}
use Rattle.rds_life.specs.Life.{Agree, IsFirstConflict, Conflicts, MergeGives}
use Rattle.rds_life.proofs.LifeOrder.{join_none}
use Rattle.rds_life.proofs.RowLemmas.{find_outside, find-each}
use Rattle.rds_life.proofs.Joins.{pick, find-rows_of_join, ascends-rows_of_join}

pub get-lives_of : (seen : Dots) (rows : List (Dot × Entry)) (d : Dot) → map.get (lives_of seen rows) d ≡ cond (set.contains seen d) (Some (life_in rows d)) None
get-lives_of seen rows d =
    map.get-from_entries dots_total (each (λ x. (x, life_in rows x)) (set.items seen)) d
    ∙ find-each (life_in rows) d (set.items seen)
    ∙ ap (λ b. cond b (Some (life_in rows d)) None) (sym (set.contains-items seen d))

-- an unseen dot has no row
pub find_unseen : (seen : Dots) (rows : List (Dot × Entry)) → AreRows seen rows → (d : Dot) → set.contains seen d ≡ false → map.find dot_cmp d rows ≡ None
find_unseen seen rows are d fails = find_outside (set.contains seen) d fails rows are.seen_all

not_none : {X : Type 0} (e : X) → ¬ (Some e ≡ None)
not_none e h = cc

-- rows that rise fit a set that has each dot with a row
pub are_rows_of : (seen : Dots) (rows : List (Dot × Entry)) → ascends (keys rows) ≡ true → ((d : Dot) → set.contains seen d ≡ false → map.find dot_cmp d rows ≡ None) → AreRows seen rows
are_rows_of seen rows rise none = record { rise = rise; seen_all = all_seen rows none }
  where
    all_seen : (rest : List (Dot × Entry)) → ((d : Dot) → set.contains seen d ≡ false → map.find dot_cmp d rest ≡ None) → list_all (λ r. set.contains seen r.0) rest ≡ true
    all_seen [] none = refl
    all_seen (r ∷ rest) none = and_true _ _ (first (set.contains seen r.0) refl) (all_seen rest (λ d fails. later d (eq_by_cmp dot_cmp d r.0) (none d fails)))
      where
        first : (b : Bool) → set.contains seen r.0 ≡ b → set.contains seen r.0 ≡ true
        first true is = is
        first false is = absurd (not_none r.1 (sym (ap (λ o. cond (is_eq o) (Some r.1) (map.find dot_cmp r.0 rest)) (tied_itself dots_total r.0)) ∙ none r.0 is))

        later : (d : Dot) (b : Bool) → cond b (Some r.1) (map.find dot_cmp d rest) ≡ None → map.find dot_cmp d rest ≡ None
        later d true h = absurd (not_none r.1 h)
        later d false h = h

joined_life : (s t : Bool) (e f : Option Entry) → (s ≡ false → e ≡ None) → (t ≡ false → f ≡ None) → cond (s || t) (Some (life_of (pick s t e f))) None ≡ join_life (cond s (Some (life_of e)) None) (cond t (Some (life_of f)) None)
joined_life true true (Some e) (Some f) he hf = refl
joined_life true true (Some e) None he hf = refl
joined_life true true None (Some f) he hf = refl
joined_life true true None None he hf = refl
joined_life true false (Some e) (Some f) he hf = absurd (not_none f (hf refl))
joined_life true false (Some e) None he hf = refl
joined_life true false None (Some f) he hf = absurd (not_none f (hf refl))
joined_life true false None None he hf = refl
joined_life false true (Some e) f he hf = absurd (not_none e (he refl))
joined_life false true None (Some f) he hf = refl
joined_life false true None None he hf = refl
joined_life false false e f he hf = refl

module _ (s t : Dots) (a b : List (Dot × Entry)) (rows_a : AreRows s a) (rows_b : AreRows t b) where
  -- the rows of a join, with all that either side has seen, have at each dot the later life
  pub get-rows_of_join : (d : Dot) → map.get (lives_of (set.union s t) (rows_of_join (set.contains s) (set.contains t) a b)) d ≡ join_life (map.get (lives_of s a) d) (map.get (lives_of t b) d)
  get-rows_of_join d =
      get-lives_of (set.union s t) (rows_of_join (set.contains s) (set.contains t) a b) d
      ∙ ap (λ c. cond c (Some (life_in (rows_of_join (set.contains s) (set.contains t) a b) d)) None) (set.contains-union dots_total s t d)
      ∙ ap (λ o. cond (set.contains s d || set.contains t d) (Some (life_of o)) None) (find-rows_of_join (set.contains s) (set.contains t) d a b rows_a.rise rows_b.rise)
      ∙ joined_life (set.contains s d) (set.contains t d) (map.find dot_cmp d a) (map.find dot_cmp d b) (find_unseen s a rows_a d) (find_unseen t b rows_b d)
      ∙ sym (ap (λ l. join_life l (map.get (lives_of t b) d)) (get-lives_of s a d) ∙ ap (join_life (cond (set.contains s d) (Some (life_in a d)) None)) (get-lives_of t b d))

  neither : (x y : Bool) (e f : Option Entry) → (x || y) ≡ false → (x ≡ false → e ≡ None) → (y ≡ false → f ≡ None) → pick x y e f ≡ None
  neither true y e f h he hf = absurd (false≢true (sym h))
  neither false true e f h he hf = absurd (false≢true (sym h))
  neither false false e f h he hf = rw (he refl, hf refl) refl

  -- and they are rows
  rows-rows_of_join : AreRows (set.union s t) (rows_of_join (set.contains s) (set.contains t) a b)
  rows-rows_of_join = are_rows_of (set.union s t) (rows_of_join (set.contains s) (set.contains t) a b) (ascends-rows_of_join (set.contains s) (set.contains t) a b rows_a.rise rows_b.rise) (λ d fails.
      find-rows_of_join (set.contains s) (set.contains t) d a b rows_a.rise rows_b.rise
      ∙ neither (set.contains s d) (set.contains t d) _ _ (sym (set.contains-union dots_total s t d) ∙ fails) (find_unseen s a rows_a d) (find_unseen t b rows_b d))

  pub are_joined : {u : Dots} {r : List (Dot × Entry)} → u ≡ set.union s t → r ≡ rows_of_join (set.contains s) (set.contains t) a b → AreRows u r
  are_joined seen rows = rw (seen, rows) rows-rows_of_join

  -- so lives of these rows and dots are the join
  pub is_joined : (u : Dots) (r : List (Dot × Entry)) (v w : Lived) → u ≡ set.union s t → r ≡ rows_of_join (set.contains s) (set.contains t) a b → lives_of s a ≡ v → lives_of t b ≡ w → IsJoin v w (lives_of u r)
  is_joined u r v w seen rows left right = record {
    each_dot = λ d.
        ap (λ x. map.get (lives_of x r) d) seen
        ∙ ap (λ x. map.get (lives_of (set.union s t) x) d) rows
        ∙ get-rows_of_join d
        ∙ ap (λ l. join_life (map.get l d) (map.get (lives_of t b) d)) left
        ∙ ap (λ l. join_life (map.get v d) (map.get l d)) right;
  }

  agree_from : (x y : Bool) (e f : Option Entry) → SameIfBoth e f → Agree (cond x (Some (life_of e)) None) (cond y (Some (life_of f)) None)
  agree_from true true (Some e) (Some f) h = h
  agree_from true true (Some e) None h = tt
  agree_from true true None f h = tt
  agree_from true false (Some e) f h = tt
  agree_from true false None f h = tt
  agree_from false y e f h = tt

  agree_to : (x y : Bool) (e f : Option Entry) → (x ≡ false → e ≡ None) → (y ≡ false → f ≡ None) → Agree (cond x (Some (life_of e)) None) (cond y (Some (life_of f)) None) → SameIfBoth e f
  agree_to true true (Some e) (Some f) he hf h = h
  agree_to true false (Some e) (Some f) he hf h = absurd (not_none f (hf refl))
  agree_to false y (Some e) (Some f) he hf h = absurd (not_none e (he refl))
  agree_to x y (Some e) None he hf h = tt
  agree_to x y None f he hf h = tt

  agree : (d : Dot) → SameIfBoth (map.find dot_cmp d a) (map.find dot_cmp d b) → Agree (map.get (lives_of s a) d) (map.get (lives_of t b) d)
  agree d h = rw (get-lives_of s a d, get-lives_of t b d) (agree_from (set.contains s d) (set.contains t d) _ _ h)

  agree_back : (d : Dot) → Agree (map.get (lives_of s a) d) (map.get (lives_of t b) d) → SameIfBoth (map.find dot_cmp d a) (map.find dot_cmp d b)
  agree_back d h = agree_to (set.contains s d) (set.contains t d) _ _ (find_unseen s a rows_a d) (find_unseen t b rows_b d) (rw (get-lives_of s a d, get-lives_of t b d) at h)

  -- a clash of rows is a conflict of lives
  pub conflicts : (r : Option Dot) → Clashes a b r → Conflicts (lives_of s a) (lives_of t b) r
  conflicts None h = record { each_dot = λ d. agree d (h d) }
  conflicts (Some d) h = record { here = λ g. h.here (agree_back d g); first = λ q lt. agree q (h.first q lt) }

-- two lives have one join
pub one_join : (a b c d : Lived) → IsJoin a b c → IsJoin a b d → c ≡ d
one_join a b c d first second = map.same_map dots_total dots_exact c d (λ q. first.each_dot q ∙ sym (second.each_dot q))

-- and one least dot in conflict, or none
one_first : (a b : Lived) (d e : Dot) → IsFirstConflict a b d → IsFirstConflict a b e → d ≡ e
one_first a b d e one other = by (dot_cmp d e) refl
  where
    by : (o : Ordering) → dot_cmp d e ≡ o → d ≡ e
    by Less is = absurd (one.here (other.first d (ap is_lt is)))
    by Equal is = dots_exact d e is
    by Greater is = absurd (other.here (one.first e (ap is_lt (dots_total.antisymm e d ∙ ap ordering_reverse is))))

pub one_conflict : (a b : Lived) (r s : Option Dot) → Conflicts a b r → Conflicts a b s → r ≡ s
one_conflict a b None None one other = refl
one_conflict a b None (Some e) one other = absurd (other.here (one.each_dot e))
one_conflict a b (Some d) None one other = absurd (one.here (other.each_dot d))
one_conflict a b (Some d) (Some e) one other = ap Some (one_first a b d e one other)

-- so a merge has one answer, where there is memory
pub one_answer : (a b : Lived) (r s : Result (Unit {0}) Fault) → MergeGives a b r → MergeGives a b s → r ≢ Err Memory → s ≢ Err Memory → r ≡ s
one_answer a b (Ok x) (Ok y) one other _ _ = refl
one_answer a b (Ok x) (Err Memory) one other _ room = absurd (room refl)
one_answer a b (Ok x) (Err (Conflict i n)) one other _ _ = absurd (other.here (one.each_dot (record { replica = i; seq = n })))
one_answer a b (Ok x) (Err f) one other _ _ = absurd other
one_answer a b (Err Memory) s one other room _ = absurd (room refl)
one_answer a b (Err (Conflict i n)) (Ok y) one other _ _ = absurd (one.here (other.each_dot (record { replica = i; seq = n })))
one_answer a b (Err (Conflict i n)) (Err Memory) one other _ room = absurd (room refl)
one_answer a b (Err (Conflict i n)) (Err (Conflict j m)) one other _ _ = ap (λ (d : Dot). Err (Conflict d.replica d.seq)) (one_first a b _ _ one other)
one_answer a b (Err (Conflict i n)) (Err f) one other _ _ = absurd other
one_answer a b (Err f) s one other _ _ = absurd one

pub lived_empty : (seen : Dots) (rows : List (Dot × Entry)) → seen ≡ set.empty → lives_of seen rows ≡ map.empty
lived_empty seen rows none = map.same_map dots_total dots_exact _ _ (λ d.
    get-lives_of seen rows d ∙ ap (λ b. cond b (Some (life_in rows d)) None) (ap (λ s. set.contains s d) none ∙ set.contains-empty dot_cmp d) ∙ sym (map.get-empty dot_cmp d))

-- so where nothing was seen, nothing is joined
pub nothing_joined : (a b : Lived) → b ≡ map.empty → IsJoin a b a
nothing_joined a b none = record { each_dot = λ d. sym (ap (λ l. join_life (map.get a d) (map.get l d)) none ∙ ap (join_life (map.get a d)) (map.get-empty dot_cmp d) ∙ join_none (map.get a d)) }

is_some-cond : (b : Bool) (l : Life) → is_some (cond b (Some l) None) ≡ b
is_some-cond true l = refl
is_some-cond false l = refl

entry-cond : (b : Bool) (o : Option Entry) → (b ≡ false → o ≡ None) → entry_of (cond b (Some (life_of o)) None) ≡ o
entry-cond true (Some e) h = refl
entry-cond true None h = refl
entry-cond false o h = sym (h refl)

-- a dot that isn't unseen is in the set
pub seen_is : (s : Dots) (rows : List (Dot × Entry)) (v : Lived) → lives_of s rows ≡ v → (d : Dot) → set.contains s d ≡ is_some (map.get v d)
seen_is s rows v is d = sym (ap (λ l. is_some (map.get l d)) (sym is) ∙ ap is_some (get-lives_of s rows d) ∙ is_some-cond (set.contains s d) _)

-- a live dot's entry is its row's
pub entry_is : (s : Dots) (rows : List (Dot × Entry)) → AreRows s rows → (v : Lived) → lives_of s rows ≡ v → (d : Dot) → map.find dot_cmp d rows ≡ entry_of (map.get v d)
entry_is s rows are v is d = sym (ap (λ l. entry_of (map.get l d)) (sym is) ∙ ap entry_of (get-lives_of s rows d) ∙ entry-cond (set.contains s d) _ (find_unseen s rows are d))

-- so an unseen dot has no row
pub no_row : (s : Dots) (rows : List (Dot × Entry)) → AreRows s rows → (v : Lived) → lives_of s rows ≡ v → (d : Dot) → map.get v d ≡ None → map.find dot_cmp d rows ≡ None
no_row s rows are v is d none = entry_is s rows are v is d ∙ ap entry_of none

abbrev pub ranked : Bool → Option Entry → Rank
ranked false o = ranks.Unseen
ranked true (Some e) = ranks.Live
ranked true None = ranks.Dead

rank-cond : (b : Bool) (o : Option Entry) → rank_of (cond b (Some (life_of o)) None) ≡ ranked b o
rank-cond true (Some e) = refl
rank-cond true None = refl
rank-cond false o = refl

pub rank_is : (s : Dots) (rows : List (Dot × Entry)) (v : Lived) → lives_of s rows ≡ v → (d : Dot) (b : Bool) (o : Option Entry) → set.contains s d ≡ b → map.find dot_cmp d rows ≡ o → ranked b o ≡ rank_of (map.get v d)
rank_is s rows v is d b o eb eo = sym (ap (λ l. rank_of (map.get l d)) (sym is) ∙ ap rank_of (get-lives_of s rows d) ∙ rank-cond (set.contains s d) _ ∙ ap (λ x. ranked x (map.find dot_cmp d rows)) eb ∙ ap (ranked b) eo)

-- rows that fit are rows
above_next : (d : Dot) (rows : List (Dot × Entry)) → dot_before_next d rows ≡ true → ascends (keys rows) ≡ true → list_all (is_above d) (keys rows) ≡ true
above_next d [] next rise = refl
above_next d (r ∷ rows) next rise = and_true _ _ next (above_trans d r.0 (less_of (dot_cmp d r.0) next) (keys rows) (and_left _ (ascends (keys rows)) rise))

next_above : (d : Dot) (rows : List (Dot × Entry)) → list_all (is_above d) (keys rows) ≡ true → dot_before_next d rows ≡ true
next_above d [] all = refl
next_above d (r ∷ rows) all = and_left (is_above d r.0) _ all

pub fits_rows : (s : Dots) (rows : List (Dot × Entry)) → fits (set.contains s) rows ≡ true → AreRows s rows
fits_rows s [] fit = record { rise = refl; seen_all = refl }
fits_rows s (r ∷ rows) fit =
    let front = and_left (set.contains s r.0 && dot_before_next r.0 rows) _ fit in
    let later = fits_rows s rows (and_right (set.contains s r.0 && dot_before_next r.0 rows) _ fit) in
    record {
      rise = and_true _ _ (above_next r.0 rows (and_right (set.contains s r.0) _ front) later.rise) later.rise;
      seen_all = and_true _ _ (and_left (set.contains s r.0) _ front) later.seen_all;
    }

pub rows_fit : (s : Dots) (rows : List (Dot × Entry)) → AreRows s rows → fits (set.contains s) rows ≡ true
rows_fit s [] are = refl
rows_fit s (r ∷ rows) are =
    and_true _ _ (and_true _ _ (and_left (set.contains s r.0) _ are.seen_all) (next_above r.0 rows (and_left _ (ascends (keys rows)) are.rise)))
    (rows_fit s rows (record { rise = and_right (list_all (is_above r.0) (keys rows)) _ are.rise; seen_all = and_right (set.contains s r.0) _ are.seen_all }))

pub fits_tell : (b : Bool) (s : Dots) (rows : List (Dot × Entry)) → b ≡ fits (set.contains s) rows → (b ≡ true) ↔ AreRows s rows
fits_tell b s rows is = (λ fit. fits_rows s rows (sym is ∙ fit), λ are. is ∙ rows_fit s rows are)
