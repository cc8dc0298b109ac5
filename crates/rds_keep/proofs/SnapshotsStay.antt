-- A replica that has a text has one after each change that is read again.
use Rattle.std.proofs.Common.{◌≡◌, ℕ, suc, ◌<◌, ◌≤◌, ◌⊎◌, inl, inr, true, false, cond, max, List, [], ◌∷◌, length, get_or, Option, Some, None, refl, sym, ap, ◌∙◌, subst, arith}
use Rattle.std.specs.Prelude.{is_some}
use Rattle.std.specs.List.{AllByRecursion}
use Rattle.std.specs.Cmp.{tied_itself}
use Rattle.std.specs.Ordering.{eq_by_cmp}
use Rattle.std.specs.FinMap as map
use Rattle.std.specs.FinMap.Entries.{by_order}
use Rattle.std.specs.declared.cmp.Ordering.TheVariants.{Less, Equal, Greater}
use Rattle.rds_names.specs.Roster.{RosterValue}
use Rattle.rds_names.specs.declared.entry.Entry.{Entry}
use Rattle.rds_dots.specs.declared.dot.Dot.{Dot}
use Rattle.rds_dots.specs.Ascending.{ascends}
use Rattle.rds_dots.specs.Dots.{dot_cmp}
use Rattle.rds_dots.specs.Order.{dots_total}
use Rattle.rds_counts.specs.declared.row.CountRow.{CountRow}
use Rattle.rds_counts.specs.Counted.{Counted, counts_of, number, row_cmp}
use Rattle.rds_counts.specs.Drawn.{drawn_onto, greater, greatest_rows}
use Rattle.rds_counts.specs.Place.{Place}
use Rattle.rds_counts.proofs.DrawnLemmas.{drawn_are, drawn_number}
use Rattle.rds_counts.proofs.SameCounts.{same_counts}
use Rattle.rds_life.specs.Life.{Dead, Life, Live, Lived, entry_of, join_life, keys, live_rows, seen_of}
use Rattle.rds_life.proofs.Finds.{find_at}
use Rattle.rds_life.proofs.Views.{contains-seen_of, find-live_rows, rise-live_rows}
use Rattle.rds_state.specs.Coordinates.{Coordinates, join}
use Rattle.rds_state.specs.Fits.{ReplicaValue}
use Rattle.rds_state.specs.Value.{StateValue, coordinates}
use Rattle.rds_bytes.specs.Values.{AreCountsOf, AreDotsOf, IsCountRowOf, IsEntry, IsLiveRow}
use Rattle.rds_codec.specs.StateTexts.{IsSnapshot, IsStateOf}
use Rattle.rds_keep.specs.Changes.{ChangeValue, IsRedone}
use Rattle.rds_keep.specs.Kept.{AreMade}
use Rattle.rds_keep.proofs.Chains.{longer_names, member_stays}

-- ---- the dots

life_of_one : (a b : Option Life) (X : Type 0) → (is_some a ≡ true → X) → (is_some b ≡ true → X) → is_some (join_life a b) ≡ true → X
life_of_one None b X p q h = q h
life_of_one (Some (Live e)) b X p q h = p refl
life_of_one (Some Dead) b X p q h = p refl

dots_stay : (few n : ℕ) (a b c : Lived) → few ≤ n → ((d : Dot) → map.get c d ≡ join_life (map.get a d) (map.get b d)) → AreDotsOf few (seen_of a) → AreDotsOf n (seen_of b) → AreDotsOf n (seen_of c)
dots_stay few n a b c le joined p q d has =
    let there : is_some (join_life (map.get a d) (map.get b d)) ≡ true = sym (ap is_some (joined d)) ∙ sym (contains-seen_of c d) ∙ has in
    life_of_one (map.get a d) (map.get b d) _
    (λ h. (let one = p d (contains-seen_of a d ∙ h) in let below = one.1 in (one.0, omega (arith, below, le))))
    (λ h. q d (contains-seen_of b d ∙ h)) there

-- ---- the entries

all_at : {A : Type 0} (P : A → Type 0) (e : A) (rows : List A) → ((i : ℕ) → i < length rows → P (get_or rows i e)) → AllByRecursion P rows
all_at P e [] each = tt
all_at P e (r ∷ rows) each = (each 0 (omega arith), all_at P e rows (λ i lt. each (suc i) (omega (arith, lt))))

some_is : {A : Type 0} (x y : A) → ◌≡◌ {A = Option A} (Some x) (Some y) → x ≡ y
some_is x y e = cc

-- an entry that is found stands in a row
entry_found : (d : Dot) (e : Entry) (rows : List (Dot × Entry)) → AllByRecursion IsLiveRow rows → map.find dot_cmp d rows ≡ Some e → IsEntry e
entry_found d e [] all is = absurd (let wrong : ◌≡◌ {A = Option Entry} None (Some e) = is in cc)
entry_found d e (r ∷ rows) all is = elim (eq_by_cmp dot_cmp d r.0) as (λ b. cond b (Some r.1) (map.find dot_cmp d rows) ≡ Some e → IsEntry e) [
  | true ↦ λ here. subst IsEntry (some_is r.1 e here) all.0
  | false ↦ λ later. entry_found d e rows all.1 later
] is

live_is : (l : Option Life) (e : Entry) → entry_of l ≡ Some e → l ≡ Some (Live e)
live_is None e is = absurd (let wrong : ◌≡◌ {A = Option Entry} None (Some e) = is in cc)
live_is (Some (Live f)) e is = ap (λ (x : Entry). Some (Live x)) (some_is f e is)
live_is (Some Dead) e is = absurd (let wrong : ◌≡◌ {A = Option Entry} None (Some e) = is in cc)

live_of_one : (a b : Option Life) (e : Entry) → join_life a b ≡ Some (Live e) → (a ≡ Some (Live e)) ⊎ (b ≡ Some (Live e))
live_of_one None b e is = inr is
live_of_one (Some (Live f)) None e is = inl is
live_of_one (Some (Live f)) (Some (Live g)) e is = inl is
live_of_one (Some (Live f)) (Some Dead) e is = absurd (let wrong : ◌≡◌ {A = Option Life} (Some Dead) (Some (Live e)) = is in cc)
live_of_one (Some Dead) b e is = absurd (let wrong : ◌≡◌ {A = Option Life} (Some Dead) (Some (Live e)) = is in cc)

has_entry : (v : Lived) → AllByRecursion IsLiveRow (live_rows v) → (d : Dot) (e : Entry) → map.get v d ≡ Some (Live e) → IsEntry e
has_entry v all d e is = entry_found d e (live_rows v) all (find-live_rows v d ∙ ap entry_of is)

entries_by : (v : Lived) (rows : List (Dot × Entry)) → live_rows v ≡ rows → ((d : Dot) (e : Entry) → map.get v d ≡ Some (Live e) → IsEntry e) → AllByRecursion IsLiveRow rows
entries_by v [] is each = tt
entries_by v (r ∷ rows) is each = all_at IsLiveRow r (r ∷ rows) (λ i lt.
    (let row = get_or (r ∷ rows) i r in
    let rise = subst (λ (l : List (Dot × Entry)). ascends (keys l) ≡ true) is (rise-live_rows v) in
    let found : map.find dot_cmp row.0 (r ∷ rows) ≡ Some row.1 = find_at (r ∷ rows) rise r i lt row.0 (tied_itself dots_total row.0) in
    let entry : entry_of (map.get v row.0) ≡ Some row.1 = sym (find-live_rows v row.0) ∙ ap (map.find dot_cmp row.0) is ∙ found in
    each row.0 row.1 (live_is (map.get v row.0) row.1 entry)))

entries_stay : (a b c : Lived) → ((d : Dot) → map.get c d ≡ join_life (map.get a d) (map.get b d)) → AllByRecursion IsLiveRow (live_rows a) → AllByRecursion IsLiveRow (live_rows b) → AllByRecursion IsLiveRow (live_rows c)
entries_stay a b c joined p q = entries_by c (live_rows c) refl (λ d e is. elim (live_of_one (map.get a d) (map.get b d) e (sym (joined d) ∙ is)) [
  | inl left ↦ has_entry a p d e left
  | inr right ↦ has_entry b q d e right
])

-- ---- the counters

module _ (n : ℕ) where
  abbrev Fine : List CountRow → Type 0
  Fine rows = AllByRecursion (IsCountRowOf n) rows

  fine_onto : (x : CountRow) (rest : List CountRow → List CountRow) → IsCountRowOf n x → ((ys : List CountRow) → Fine ys → Fine (rest ys)) → (ys : List CountRow) → Fine ys → Fine (drawn_onto x rest ys)
  fine_onto x rest is later [] all = (is, later [] tt)
  fine_onto x rest is later (y ∷ ys) all = elim (row_cmp x y) as (λ o. Fine (by_order o (x ∷ rest (y ∷ ys)) (greater x y ∷ rest ys) (y ∷ drawn_onto x rest ys))) [
    | Less ↦ (is, later (y ∷ ys) all)
    | Equal ↦ (is, later ys all.1)
    | Greater ↦ (all.0, fine_onto x rest is later ys all.1)
  ]

  fine_drawn : (xs ys : List CountRow) → Fine xs → Fine ys → Fine (greatest_rows xs ys)
  fine_drawn [] ys p q = q
  fine_drawn (x ∷ xs) ys p q = fine_onto x (greatest_rows xs) p.0 (λ zs h. fine_drawn xs zs p.1 h) ys q

  fine_more : (few : ℕ) (rows : List CountRow) → few ≤ n → AllByRecursion (IsCountRowOf few) rows → Fine rows
  fine_more few [] le all = tt
  fine_more few (r ∷ rows) le all = (let below = all.0.1 in ((all.0.0, omega (arith, below, le)), fine_more few rows le all.1))

counts_stay : (few n : ℕ) (a b c : Counted) → few ≤ n → ((q : Place) → number c q ≡ max (number a q) (number b q)) → AreCountsOf few a → AreCountsOf n b → AreCountsOf n c
counts_stay few n a b c le joined p q = record {
  rows = greatest_rows p.rows q.rows;
  are_rows = drawn_are p.rows q.rows p.are_rows q.are_rows;
  each_row = fine_drawn n p.rows q.rows (fine_more n few p.rows le p.each_row) q.each_row;
  value = same_counts (counts_of (greatest_rows p.rows q.rows)) c (λ x. drawn_number p.rows q.rows p.are_rows q.are_rows a b p.value q.value x ∙ sym (joined x));
}

-- ---- the whole

state_stays : (few n : ℕ) (a b c : StateValue) → few ≤ n → coordinates c ≡ join (coordinates a) (coordinates b) → IsStateOf few a → IsStateOf n b → IsStateOf n c
state_stays few n a b c le joined p q =
    let lives = λ (d : Dot). ap (λ (x : Coordinates). x.life d) joined in
    let numbers = λ (x : Place). ap (λ (y : Coordinates). y.number x) joined in
    record {
      dots = dots_stay few n a.lives b.lives c.lives le lives p.dots q.dots;
      entries = entries_stay a.lives b.lives c.lives lives p.entries q.entries;
      counts = counts_stay few n a.counts b.counts c.counts le numbers p.counts q.counts;
    }

snapshot_stays : (old : ReplicaValue) (c : ChangeValue) (new : ReplicaValue) → IsRedone old c new → IsSnapshot old → IsSnapshot new
snapshot_stays old c new redone is =
    let delta = subst (λ (r : RosterValue). IsStateOf (length r.names) c.delta) (sym redone.changed.roster) redone.change.delta in
    record {
      member = member_stays old c new redone;
      state = state_stays (length old.roster.names) (length new.roster.names) old.state c.delta new.state (longer_names old.roster new.roster redone.changed.begins) redone.changed.joined is.state delta;
    }

pub all_snapshots : (old : ReplicaValue) (changes : List ChangeValue) (new : ReplicaValue) → AreMade old changes new → IsSnapshot old → IsSnapshot new
all_snapshots old [] new same is = subst IsSnapshot same is
all_snapshots old (c ∷ changes) new made is = all_snapshots made.0 changes new made.3 (snapshot_stays old c made.0 made.1 is)
