-- A tree that goes with the live rows where a delta is joined in.
use Rattle.std.proofs.Common.{◌≡◌, Bool, true, false, cond, not, ◌&&◌, ◌||◌, List, [], ◌∷◌, refl, sym, ◌∙◌, ap, subst}
use Rattle.std.proofs.Common.{OnOk, OnErr}
use Rattle.std.proofs.lemmas.Bool.{not-true, false_from_ne_true}
use Rattle.std.proofs.Math.Bool.{and-false, and-true, or_comm}
use Rattle.std.specs.Prelude.{Option, Some, None, Result, Ok, Err, filter}
use Rattle.std.specs.List.{list_any}
use Rattle.std.specs.Cmp.Lexicographic.{pointwise}
use Rattle.std.specs.FinMap as map
use Rattle.std.specs.Str.{bytes_eq}
use Rattle.rds_names.specs.declared.fault.Fault.{Fault}
use Rattle.rds_names.specs.Conditions.{and_true, and_left, and_right}
use Rattle.rds_names.specs.declared.entry.Entry.{Entry}
use Rattle.rds_dots.specs.declared.dot.Dot.{Dot}
use Rattle.rds_dots.specs.Sets.{tied_dots_are_one as dot_is}
use Rattle.rds_life.specs.Life.{Life, Live, Dead, Lived, is_dead, join_life, live_rows}
use Rattle.rds_state.specs.Coordinates.{join}
use Rattle.rds_state.specs.Fits.{ReplicaValue}
use Rattle.rds_state.specs.Value.{StateValue, coordinates, size}
use Rattle.rds_state.proofs.CountLemmas.{same_dot-tied}
use Rattle.rds_state.proofs.JoinLaws.{same_value}
use Rattle.rds_state.proofs.Nothing.{joins_nothing}
use Rattle.rds_tree.specs.Cuts.{is_leaf}
use Rattle.rds_tree.specs.Growing.{tree_row, Holds}
use Rattle.rds_tree.specs.Row.{Row, AddsRow}
use Rattle.rds_tree.specs.Taken.{is_unseen, rows_dead, rows_unseen, is_row_of, is_one_of, AreSameBut, IsWith, IsWithout}
use Rattle.rds_tree.proofs.Effects.{any_alike, live_passes, passes_live}
use Rattle.rds_tree.proofs.Holding.{goes_shallow, leaf_at, leaf_dot, leaf_itself, same_itself}
use Rattle.rds_tree.proofs.Killing.{same_pass}
use Rattle.rds_tree.proofs.Witness.{both_ways, or_left, or_right}

-- ---- the row of a live dot

pub own_row : (r : Dot × Entry) → is_row_of r (tree_row r) ≡ true
own_row r = goes_shallow (is_leaf r.1.kind r.1.value r.0) (leaf_at r) r.1.path r.1.path ∙ and_true _ _ (same_itself r.1.path) (leaf_itself r.1.kind r.1.value r.0)

row_dot : (r x : Dot × Entry) → is_row_of r (tree_row x) ≡ true → r.0 ≡ x.0
row_dot r x h = dot_is r.0 x.0 (same_dot-tied r.0 x.0 ∙ leaf_dot r.1.kind r.1.value r.0 (leaf_at x) (and_right (pointwise bytes_eq x.1.path r.1.path) _ (sym (goes_shallow (is_leaf r.1.kind r.1.value r.0) (leaf_at x) r.1.path x.1.path) ∙ h)))

any-filter : {X : Type 0} (t p : X → Bool) (xs : List X) → list_any t (filter p xs) ≡ list_any (λ x. t x && p x) xs
any-filter t p [] = refl
any-filter t p (x ∷ xs) = elim (p x) as (λ b. list_any t (cond b (x ∷ filter p xs) (filter p xs)) ≡ ((t x && b) || list_any (λ x. t x && p x) xs)) [
  | true ↦ ap (λ b. t x || b) (any-filter t p xs) ∙ sym (ap (λ b. b || list_any (λ x. t x && p x) xs) (and-true (t x)))
  | false ↦ any-filter t p xs ∙ sym (ap (λ b. b || list_any (λ x. t x && p x) xs) (and-false (t x)))
]

-- ---- lives that are joined

not_dead : (e : Entry) → Some Dead ≡ Some (Live e) → ⊥
not_dead e h = cc

-- what lives in the join lived here and hasn't died there, or lives there and is unseen here
lives_in : {X : Type 0} (x y : Option Life) (e : Entry) → join_life x y ≡ Some (Live e) → (x ≡ Some (Live e) → is_dead y ≡ false → X) → (is_unseen x ≡ true → y ≡ Some (Live e) → X) → X
lives_in None y e h old new = new refl h
lives_in (Some (Live f)) None e h old new = old h refl
lives_in (Some (Live f)) (Some (Live g)) e h old new = old h refl
lives_in (Some (Live f)) (Some Dead) e h old new = absurd (not_dead e h)
lives_in (Some Dead) y e h old new = absurd (not_dead e h)

stays_live : (y : Option Life) (e : Entry) → is_dead y ≡ false → join_life (Some (Live e)) y ≡ Some (Live e)
stays_live None e h = refl
stays_live (Some (Live f)) e h = refl
stays_live (Some Dead) e h = absurd (cc)

comes_live : (x y : Option Life) → is_unseen x ≡ true → join_life x y ≡ y
comes_live None y h = refl
comes_live (Some l) y h = absurd (cc)

seen_live : (x : Option Life) (e : Entry) → x ≡ Some (Live e) → is_unseen x ≡ true → ⊥
seen_live None e h u = cc
seen_live (Some l) e h u = cc

module _ (a b : Lived) where
  abbrev pub dies : Dot × Entry → Bool
  dies r = is_dead (map.get b r.0)

  abbrev pub comes : Dot × Entry → Bool
  comes r = is_unseen (map.get a r.0)

  abbrev pub dying : List (Dot × Entry)
  dying = rows_dead b (live_rows a)

  abbrev pub coming : List (Dot × Entry)
  coming = rows_unseen a (live_rows b)

  -- a live dot here is one of those that die exactly where it dies
  dies_as : (d : Dot) (e : Entry) → map.get a d ≡ Some (Live e) → is_one_of dying (tree_row (d, e)) ≡ dies (d, e)
  dies_as d e live =
      any-filter (λ x. is_row_of x (tree_row (d, e))) dies (live_rows a)
      ∙ both_ways _ _
      (λ h. let p = live_passes (λ x. is_row_of x (tree_row (d, e)) && dies x) a h in
      ap (λ q. is_dead (map.get b q)) (sym (row_dot (p.0, p.1.0) (d, e) (and_left _ (dies (p.0, p.1.0)) p.1.1.1))) ∙ and_right (is_row_of (p.0, p.1.0) (tree_row (d, e))) _ p.1.1.1)
      (λ h. passes_live (λ x. is_row_of x (tree_row (d, e)) && dies x) a d e live (and_true _ _ (own_row (d, e)) h))

  -- it is none of those that come
  no_coming : (d : Dot) (e : Entry) → map.get a d ≡ Some (Live e) → is_one_of coming (tree_row (d, e)) ≡ false
  no_coming d e live = false_from_ne_true _ (λ h.
      let p = live_passes (λ x. is_row_of x (tree_row (d, e)) && comes x) b (sym (any-filter (λ x. is_row_of x (tree_row (d, e))) comes (live_rows b)) ∙ h) in
      seen_live (map.get a d) e live (ap (λ q. is_unseen (map.get a q)) (sym (row_dot (p.0, p.1.0) (d, e) (and_left _ (comes (p.0, p.1.0)) p.1.1.1))) ∙ and_right (is_row_of (p.0, p.1.0) (tree_row (d, e))) _ p.1.1.1))

  -- an unseen dot is none of those that die
  no_dying : (r : Dot × Entry) → comes r ≡ true → is_one_of dying (tree_row r) ≡ false
  no_dying r unseen = false_from_ne_true _ (λ h.
      let p = live_passes (λ x. is_row_of x (tree_row r) && dies x) a (sym (any-filter (λ x. is_row_of x (tree_row r)) dies (live_rows a)) ∙ h) in
      seen_live (map.get a r.0) p.1.0 (ap (map.get a) (sym (row_dot (p.0, p.1.0) r (and_left _ (dies (p.0, p.1.0)) p.1.1.1))) ∙ p.1.1.0) unseen)

  abbrev stays : (Dot × Entry → Bool) → Dot × Entry → Bool
  stays u r = u r && not (dies r)

  abbrev arrives : (Dot × Entry → Bool) → Dot × Entry → Bool
  arrives u r = u r && comes r

  -- the live rows of the join
  rows_joined : (c : Lived) (u : Dot × Entry → Bool) → ((d : Dot) → map.get c d ≡ join_life (map.get a d) (map.get b d))
      → list_any u (live_rows c) ≡ (list_any (λ r. u r && not (dies r)) (live_rows a) || list_any (λ r. u r && comes r) (live_rows b))
  rows_joined c u joined = both_ways _ _ forth back
    where
      forth : list_any u (live_rows c) ≡ true → (list_any (stays u) (live_rows a) || list_any (arrives u) (live_rows b)) ≡ true
      forth h =
          let p = live_passes u c h in
          lives_in (map.get a p.0) (map.get b p.0) p.1.0 (sym (joined p.0) ∙ p.1.1.0)
          (λ live spared. or_left _ _ (passes_live (stays u) a p.0 p.1.0 live (and_true _ _ p.1.1.1 (ap not spared))))
          (λ unseen live. or_right (list_any (stays u) (live_rows a)) _ (passes_live (arrives u) b p.0 p.1.0 live (and_true _ _ p.1.1.1 unseen)))

      back : (list_any (stays u) (live_rows a) || list_any (arrives u) (live_rows b)) ≡ true → list_any u (live_rows c) ≡ true
      back h = by (list_any (stays u) (live_rows a)) refl h
        where
          by : (x : Bool) → list_any (stays u) (live_rows a) ≡ x → (x || list_any (arrives u) (live_rows b)) ≡ true → list_any u (live_rows c) ≡ true
          by true is g =
              let p = live_passes (stays u) a is in
              passes_live u c p.0 p.1.0 (joined p.0 ∙ ap (λ x. join_life x (map.get b p.0)) p.1.1.0 ∙ stays_live (map.get b p.0) p.1.0 (not-true _ (and_right (u (p.0, p.1.0)) _ p.1.1.1))) (and_left _ (not (dies (p.0, p.1.0))) p.1.1.1)
          by false is g =
              let p = live_passes (arrives u) b g in
              passes_live u c p.0 p.1.0 (joined p.0 ∙ comes_live (map.get a p.0) (map.get b p.0) (and_right (u (p.0, p.1.0)) _ p.1.1.1) ∙ p.1.1.0) (and_left _ (comes (p.0, p.1.0)) p.1.1.1)

  -- ---- the tree

  -- with the rows that come and without those that die, the tree has those of the join
  pub holds_taken : (c : Lived) (old mid new : List Row) → Holds (live_rows a) old → IsWith coming old mid → IsWithout dying mid new → ((d : Dot) → map.get c d ≡ join_life (map.get a d) (map.get b d)) → Holds (live_rows c) new
  holds_taken c old mid new holds with without joined = record {
    any = λ t.
        let kept : Row → Bool = λ row. t row && not (is_one_of dying row) in
        without.any t ∙ with.any kept
        ∙ ap (λ x. x || list_any kept old) (any-filter (λ r. kept (tree_row r)) comes (live_rows b)
        ∙ same_pass (λ r. kept (tree_row r) && comes r) (λ r. t (tree_row r) && comes r) (live_rows b) (kept_arrive t))
        ∙ ap (λ x. list_any (λ r. t (tree_row r) && comes r) (live_rows b) || x) (holds.any kept
        ∙ any_alike (λ r. kept (tree_row r)) (λ r. t (tree_row r) && not (dies r)) a (λ d e live. ap (λ x. t (tree_row (d, e)) && not x) (dies_as d e live)))
        ∙ or_comm (list_any (λ r. t (tree_row r) && comes r) (live_rows b)) (list_any (λ r. t (tree_row r) && not (dies r)) (live_rows a))
        ∙ sym (rows_joined c (λ r. t (tree_row r)) joined);
  }
    where
      kept_arrive : (t : Row → Bool) (r : Dot × Entry) → ((t (tree_row r) && not (is_one_of dying (tree_row r))) && comes r) ≡ (t (tree_row r) && comes r)
      kept_arrive t r = elim (comes r) as (λ x. comes r ≡ x → ((t (tree_row r) && not (is_one_of dying (tree_row r))) && x) ≡ (t (tree_row r) && x)) [
        | true ↦ λ is. ap (λ x. (t (tree_row r) && not x) && true) (no_dying r is) ∙ ap (λ x. x && true) (and-true (t (tree_row r)))
        | false ↦ λ is. and-false (t (tree_row r) && not (is_one_of dying (tree_row r))) ∙ sym (and-false (t
            (tree_row r)))
      ] refl

  -- once those that come are taken out again, the tree is as before
  pub holds_untaken : (old mid new : List Row) → Holds (live_rows a) old → AreSameBut coming old mid → IsWithout coming mid new → Holds (live_rows a) new
  holds_untaken old mid new holds same without = record {
    any = λ t.
        without.any t ∙ same.any t ∙ holds.any (λ row. t row && not (is_one_of coming row))
        ∙ any_alike (λ r. t (tree_row r) && not (is_one_of coming (tree_row r))) (λ r. t (tree_row r)) a (λ d e live. ap (λ x. t (tree_row (d, e)) && not x) (no_coming d e live) ∙ and-true (t (tree_row (d, e))));
  }

-- the same, where the lives that led to the change are known to be these
module _ {a b here there : Lived} (here_is : here ≡ a) (there_is : there ≡ b) {rows : List (Dot × Entry)} (comes_is : rows ≡ rows_unseen here (live_rows there)) {old mid new : List Row} (holds : Holds (live_rows a) old) where
  pub holds_joined : (c : Lived) {dead : List (Dot × Entry)} → dead ≡ rows_dead there (live_rows here) → IsWith rows old mid → IsWithout dead mid new → ((d : Dot) → map.get c d ≡ join_life (map.get a d) (map.get b d)) → Holds (live_rows c) new
  holds_joined c dies_is with without joined =
      holds_taken a b c old mid new holds (subst (λ xs. IsWith xs old mid) (rw (here_is, there_is) at comes_is) with) (subst (λ xs. IsWithout xs mid new) (rw (here_is, there_is) at dies_is) without) joined

  pub holds_refused : AreSameBut rows old mid → IsWithout rows mid new → Holds (live_rows a) new
  holds_refused same without =
      let rows_come = rw (here_is, there_is) at comes_is in
      holds_untaken a b old mid new holds (subst (λ xs. AreSameBut xs old mid) rows_come same) (subst (λ xs. IsWithout xs mid new) rows_come without)

-- a delta without components leaves the tree as it is
pub holds_nothing : (old new : ReplicaValue) (d : StateValue) (tree : List Row) (r : Result (Unit {0}) Fault) → size d ≡ 0
    → OnOk r (coordinates new.state ≡ join (coordinates old.state) (coordinates d)) → OnErr r (new ≡ old)
    → Holds (live_rows old.state.lives) tree → Holds (live_rows new.state.lives) tree
holds_nothing old new d tree (Ok x) none ok err holds =
    subst (λ (v : StateValue). Holds (live_rows v.lives) tree) (sym (same_value new.state old.state (ok ∙ sym (joins_nothing d none old.state)))) holds
holds_nothing old new d tree (Err f) none ok err holds = subst (λ (v : ReplicaValue). Holds (live_rows v.state.lives) tree) (sym err) holds

-- ---- one row after another

-- what is left to add leads to the same tree as all of it, and is some of it
pub record IsAdding (rows rest : List (Dot × Entry)) (old tree : List Row) : Type 0 where
  pub leads : (t : Row → Bool) → (list_any (λ r. t (tree_row r)) rest || list_any t tree) ≡ (list_any (λ r. t (tree_row r)) rows || list_any t old)
  pub same : AreSameBut rows old tree
  pub left : (t : Dot × Entry → Bool) → list_any t rest ≡ true → list_any t rows ≡ true

between : (x y z : Bool) → (x || (y || z)) ≡ ((y || x) || z)
between true true z = refl
between true false z = refl
between false true z = refl
between false false z = refl

pub adds_one : (rows rest later : List (Dot × Entry)) (r : Dot × Entry) (old tree new : List Row) → rest ≡ r ∷ later → IsAdding rows rest old tree → AddsRow tree (tree_row r) new → IsAdding rows later old new
adds_one rows rest later r old tree new split is adds = record {
  leads = λ t.
      ap (λ x. list_any (λ r. t (tree_row r)) later || x) (adds.any t)
      ∙ between (list_any (λ r. t (tree_row r)) later) (t (tree_row r)) (list_any t tree)
      ∙ ap (λ xs. list_any (λ r. t (tree_row r)) xs || list_any t tree) (sym split)
      ∙ is.leads t;
  same = record {
    any = λ t.
        adds.any (λ row. t row && not (is_one_of rows row))
        ∙ ap (λ x. (t (tree_row r) && not x) || list_any (λ row. t row && not (is_one_of rows row)) tree) one
        ∙ ap (λ x. x || list_any (λ row. t row && not (is_one_of rows row)) tree) (and-false (t (tree_row r)))
        ∙ is.same.any t;
  };
  left = λ t h. is.left t (ap (list_any t) split ∙ or_right (t r) _ h);
}
  where
    one : is_one_of rows (tree_row r) ≡ true
    one = is.left (λ x. is_row_of x (tree_row r)) (ap (is_one_of_at (tree_row r)) split ∙ or_left (is_row_of r (tree_row r)) _ (own_row r))
      where
        is_one_of_at : Row → List (Dot × Entry) → Bool
        is_one_of_at row xs = list_any (λ x. is_row_of x row) xs

-- what is left to cut leads to the same tree as all of it
pub record IsCutting (rows rest : List (Dot × Entry)) (old tree : List Row) : Type 0 where
  pub leads : (t : Row → Bool) → list_any (λ row. t row && not (is_one_of rest row)) tree ≡ list_any (λ row. t row && not (is_one_of rows row)) old
