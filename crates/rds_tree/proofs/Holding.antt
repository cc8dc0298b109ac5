-- A tree that goes with the live rows through an edit.
use Rattle.std.proofs.Common.{◌≡◌, ℕ, ◌+◌, Bool, true, false, not, ◌&&◌, ◌||◌, List, [], ◌∷◌, refl, sym, ◌∙◌, ap}
use Rattle.std.proofs.Math.Bool.{and-false, and-true, and_comm}
use Rattle.std.specs.Prelude.{Some, None, Result, Ok, Err, IfOk, OnErr}
use Rattle.std.specs.List.{list_any, starts_with}
use Rattle.std.specs.Str.{bytes_eq}
use Rattle.std.specs.Cmp.{tied_itself}
use Rattle.std.specs.Cmp.Lexicographic.{pointwise}
use Rattle.std.specs.Ordering.{eq_by_cmp, is_eq}
use Rattle.std.specs.FinMap as map
use Rattle.rds_names.specs.Conditions.{and_true, and_left, and_right}
use Rattle.rds_names.specs.Entry.{HasParts}
use Rattle.rds_names.specs.declared.entry.Entry.{Entry}
use Rattle.rds_names.specs.declared.entry.Kind.{Kind}
use Rattle.rds_names.specs.declared.entry.Kind.TheVariants.{Reg, Elem}
use Rattle.rds_names.specs.declared.scalar.Scalar.{Scalar}
use Rattle.rds_dots.specs.declared.dot.Dot.{Dot}
use Rattle.rds_dots.specs.Dots.{dot_cmp}
use Rattle.rds_dots.specs.Lacking.{dot_of}
use Rattle.rds_dots.specs.Order.{dots_total}
use Rattle.rds_dots.specs.Sets.{tied_dots_are_one as dot_is}
use Rattle.rds_life.specs.Killed.{is_same}
use Rattle.rds_life.specs.Life.{Live, Lived, live_rows}
use Rattle.rds_state.specs.Chosen.{CommandParts, command_parts}
use Rattle.rds_state.specs.Coordinates.{join}
use Rattle.rds_state.specs.Edit.{covers, effect, own_top, is_reg, same_path, same_scalar, JoinsEffect}
use Rattle.rds_state.specs.Value.{StateValue, coordinates}
use Rattle.rds_state.specs.declared.command.Command.{Command}
use Rattle.rds_state.specs.declared.command.Command.TheVariants.{Set, Add, Del, Clear, Inc, Dec}
use Rattle.rds_state.proofs.CountLemmas.{same_dot-tied}
use Rattle.rds_tree.specs.declared.leaf.Leaf.{Leaf}
use Rattle.rds_tree.specs.Cuts.{covered_leaf, covering, found_at, goes, is_deep, is_leaf, path_covered, IsCut, IsRaise}
use Rattle.rds_names.specs.Key.{key_cmp}
use Rattle.rds_tree.specs.Growing.{tree_row, Holds}
use Rattle.rds_tree.specs.Held.{among_dots, at_value, IsGathered}
use Rattle.rds_tree.specs.Row.{Row, leaf_row, AddsRow}
use Rattle.rds_tree.specs.View.{is_that_kind}
use Rattle.rds_tree.proofs.Cutting.{stays}
use Rattle.rds_tree.proofs.Effects.{any_alike, live_passes, none_made, one_made, passes_live, rows_killed, rows_made}
use Rattle.rds_tree.proofs.Growing.{same_test}
use Rattle.rds_tree.proofs.Kids.{flip_eq, itself as key_itself}
use Rattle.rds_tree.proofs.ScalarOrder.{scalars_total}
use Rattle.rds_tree.proofs.Witness.{both_ways}

abbrev pub leaf_at : Dot × Entry → Leaf
leaf_at r = record { kind = r.1.kind; value = r.1.value; dot = r.0 }

-- ---- what goes from a tree is what a command covers

key_test : (k x : List ℕ) → is_eq (key_cmp k x) ≡ bytes_eq x k
key_test k x = flip_eq k x ∙ sym (same_test x k ∙ flip_eq k x)

module _ (picks : Leaf → Bool) (l : Leaf) where
  under_and : (a b c : Bool) → (a && (b && c)) ≡ ((a && b) && c)
  under_and true b c = refl
  under_and false b c = refl

  pub goes_shallow : (p q : List (List ℕ)) → goes picks false p q l ≡ (pointwise bytes_eq q p && picks l)
  goes_shallow [] [] = refl
  goes_shallow [] (x ∷ q) = refl
  goes_shallow (k ∷ p) [] = refl
  goes_shallow (k ∷ p) (x ∷ q) = ap (λ b. b && goes picks false p q l) (key_test k x) ∙ ap (λ b. bytes_eq x k && b) (goes_shallow p q) ∙ under_and (bytes_eq x k) (pointwise bytes_eq q p) (picks l)

  pub goes_below : (p q : List (List ℕ)) → goes picks true p q l ≡ starts_with bytes_eq q p
  goes_below [] [] = refl
  goes_below [] (x ∷ q) = refl
  goes_below (k ∷ p) [] = refl
  goes_below (k ∷ p) (x ∷ q) = ap (λ b. b && goes picks true p q l) (flip_eq k x ∙ sym (same_test k x)) ∙ ap (λ b. bytes_eq k x && b) (goes_below p q)

middle : (m k s : Bool) → (m && (k && s)) ≡ ((k && m) && s)
middle true true s = refl
middle true false s = refl
middle false true s = refl
middle false false s = refl

pub goes_covers : (c : Command) (r : Dot × Entry) → goes (covered_leaf c) (is_deep c) (path_covered c) r.1.path (leaf_at r) ≡ covers c r.1
goes_covers (Set p v) r = goes_shallow (covered_leaf (Set p v)) (leaf_at r) p r.1.path ∙ and_comm (same_path r.1.path p) (is_reg r.1.kind)
goes_covers (Add p v) r = goes_shallow (covered_leaf (Add p v)) (leaf_at r) p r.1.path ∙ middle (same_path r.1.path p) (not (is_reg r.1.kind)) (same_scalar r.1.value v)
goes_covers (Del p v) r = goes_shallow (covered_leaf (Del p v)) (leaf_at r) p r.1.path ∙ middle (same_path r.1.path p) (not (is_reg r.1.kind)) (same_scalar r.1.value v)
goes_covers (Clear p) r = goes_below (covered_leaf (Clear p)) (leaf_at r) p r.1.path
goes_covers (Inc k by) r = goes_shallow (covered_leaf (Inc k by)) (leaf_at r) [] r.1.path ∙ and-false (same_path r.1.path [])
goes_covers (Dec k by) r = goes_shallow (covered_leaf (Dec k by)) (leaf_at r) [] r.1.path ∙ and-false (same_path r.1.path [])

-- picks that agree on a leaf
pub goes_alike : (t u : Leaf → Bool) (deep : Bool) (p q : List (List ℕ)) (l : Leaf) → t l ≡ u l → goes t deep p q l ≡ goes u deep p q l
goes_alike t u deep [] [] l same = ap (λ b. deep || b) same
goes_alike t u deep [] (x ∷ q) l same = refl
goes_alike t u deep (k ∷ p) [] l same = refl
goes_alike t u deep (k ∷ p) (x ∷ q) l same = ap (λ b. is_eq (key_cmp k x) && b) (goes_alike t u deep p q l same)

-- ---- what was found is what the command covers

live_one : (e f : Entry) → Some (Live e) ≡ Some (Live f) → e ≡ f
live_one e f h = cc

pub tied : (d : Dot) → eq_by_cmp dot_cmp d d ≡ true
tied d = ap is_eq (tied_itself dots_total d)

pub finds : (c : Command) (path : List (List ℕ)) (v : Lived) (tree : List Row) → path ≡ path_covered c → Holds (live_rows v) tree → (d : Dot) (e : Entry) → map.get v d ≡ Some (Live e) → found_at (covered_leaf c) (is_deep c) path tree d e ≡ covers c e
finds c path v tree at holds d e live =
    ap (λ p. found_at (covered_leaf c) (is_deep c) p tree d e) at
    ∙ holds.any (λ r. goes (covered_leaf c) (is_deep c) (path_covered c) r.path r.leaf && eq_by_cmp dot_cmp
    r.leaf.dot d)
    ∙ both_ways _ _
    (λ h. let p = live_passes hit v h in
    let is : p.0 ≡ d = dot_is p.0 d (and_right (goes (covered_leaf c) (is_deep c) (path_covered c) p.1.0.path (leaf_at (p.0, p.1.0))) _ p.1.1.1) in
    let same : p.1.0 ≡ e = live_one p.1.0 e (sym p.1.1.0 ∙ ap (map.get v) is ∙ live) in
    ap (covers c) (sym same) ∙ sym (goes_covers c (p.0, p.1.0)) ∙ and_left _ (eq_by_cmp dot_cmp p.0 d) p.1.1.1)
    (λ h. passes_live hit v d e live (and_true _ _ (goes_covers c (d, e) ∙ h) (tied d)))
  where
    hit : Dot × Entry → Bool
    hit r = goes (covered_leaf c) (is_deep c) (path_covered c) r.1.path (leaf_at r) && eq_by_cmp dot_cmp r.0 d

-- and so is what was gathered
pub finds_gathered : (c : Command) (path : List (List ℕ)) (v : Lived) (tree : List Row) (dots : List Dot) → path ≡ path_covered c → Holds (live_rows v) tree → IsGathered (found_at (covered_leaf c) (is_deep c) path tree) [] dots → (d : Dot) (e : Entry) → map.get v d ≡ Some (Live e) → among_dots dots d e ≡ covers c e
finds_gathered c path v tree dots at holds gathered d e live = gathered.any d e ∙ finds c path v tree at holds d e live

-- ---- the tree after an edit

pub holds_killed : (c : Command) (path : List (List ℕ)) (a b : StateValue) (own : ℕ) (old new : List Row) → path ≡ path_covered c → command_parts c ≡ None → Holds (live_rows a.lives) old → IsCut (covering c None) (is_deep c) path old new → JoinsEffect (coordinates a) own c (coordinates b) → Holds (live_rows b.lives) new
holds_killed c path a b own old new at none holds cut joins = record {
  any = λ t.
      cut.any t ∙ holds.any (stays (covering c None) (is_deep c) path t)
      ∙ any_alike _ (λ r. t (tree_row r) && not (covers c r.1)) a.lives (λ d e live. ap (λ b. t (tree_row (d, e)) && not b) (ap (λ p. goes (covering c None) (is_deep c) p e.path (leaf_at (d, e))) at ∙ goes_covers c (d, e)))
      ∙ sym (rows_killed c a b own (λ r. t (tree_row r)) (joined (none_made c joins.made none joins.is_made)));
}
  where
    joined : joins.made ≡ None → coordinates b ≡ join (coordinates a) (effect (coordinates a) own c None)
    joined is = joins.joined ∙ ap (λ m. join (coordinates a) (effect (coordinates a) own c m)) is

pub holds_raised : (c : Command) (a b : StateValue) (own : ℕ) (tree : List Row) → command_parts c ≡ None → ((e : Entry) → covers c e ≡ false) → Holds (live_rows a.lives) tree → JoinsEffect (coordinates a) own c (coordinates b) → Holds (live_rows b.lives) tree
holds_raised c a b own tree none covers_none holds joins = record {
  any = λ t.
      holds.any t
      ∙ any_alike (λ r. t (tree_row r)) (λ r. t (tree_row r) && not (covers c r.1)) a.lives (λ d e live. sym (ap (λ b. t (tree_row (d, e)) && not b) (covers_none e) ∙ and-true (t (tree_row (d, e)))))
      ∙ sym (rows_killed c a b own (λ r. t (tree_row r)) (joins.joined ∙ ap (λ m. join (coordinates a) (effect (coordinates a) own c m)) (none_made c joins.made none joins.is_made)));
}

pub itself : (d : Dot) → is_same d d ≡ true
itself d = sym (same_dot-tied d d) ∙ tied d

apart : (v : Lived) (new d : Dot) (e : Entry) → map.get v new ≡ None → map.get v d ≡ Some (Live e) → is_same new d ≡ false
apart v new d e unseen live = by (is_same new d) refl
  where
    no_life : None ≡ Some (Live e) → ⊥
    no_life h = cc

    by : (x : Bool) → is_same new d ≡ x → x ≡ false
    by true is = absurd (no_life (sym unseen ∙ ap (map.get v) (dot_is new d (same_dot-tied new d ∙ is)) ∙ live))
    by false is = refl

pub shallow_parts : (c : Command) (p : CommandParts) → command_parts c ≡ Some p → (is_deep c ≡ false) × (p.path ≡ path_covered c)
shallow_parts (Set q v) p is = let path : p.path ≡ q = cc is in (refl, path)
shallow_parts (Add q v) p is = let path : p.path ≡ q = cc is in (refl, path)
shallow_parts (Del q v) p is = cc is
shallow_parts (Clear q) p is = cc is
shallow_parts (Inc k by) p is = cc is
shallow_parts (Dec k by) p is = cc is

module _ (c : Command) (p : CommandParts) (is : command_parts c ≡ Some p) (a : StateValue) (own : ℕ) (new : Dot) (unseen : map.get a.lives new ≡ None) where
  abbrev leaf : Leaf
  leaf = record { kind = p.kind; value = p.value; dot = new }

  own_stays : goes (covering c (Some new)) (is_deep c) p.path p.path leaf ≡ false
  own_stays =
      ap (λ b. goes (covering c (Some new)) b p.path p.path leaf) (shallow_parts c p is).0
      ∙ goes_shallow (covering c (Some new)) leaf p.path p.path
      ∙ ap (λ b. pointwise bytes_eq p.path p.path && (not b && covered_leaf c leaf)) (itself new)
      ∙ and-false (pointwise bytes_eq p.path p.path)

  others_go : (d : Dot) (e : Entry) → map.get a.lives d ≡ Some (Live e) → goes (covering c (Some new)) (is_deep c) p.path e.path (leaf_at (d, e)) ≡ covers c e
  others_go d e live =
      goes_alike (covering c (Some new)) (covered_leaf c) (is_deep c) p.path e.path (leaf_at (d, e)) (ap (λ b. not b && covered_leaf c (leaf_at (d, e))) (apart a.lives new d e unseen live))
      ∙ ap (λ q. goes (covered_leaf c) (is_deep c) q e.path (leaf_at (d, e))) (shallow_parts c p is).1
      ∙ goes_covers c (d, e)

  same_row : (e : Entry) → HasParts p.path p.kind p.value e → (d : Dot) → d ≡ new
      → tree_row (d, e) ≡ leaf_row p.path leaf
  same_row e has d at = λ i. record { path = has.at i; leaf = record { kind = has.stands i; value = has.holds i; dot = at i } }

  pub holds_made : (b : StateValue) (old mid tree : List Row) → new ≡ dot_of own (own_top (coordinates a) own + 1) → Holds (live_rows a.lives) old → AddsRow old (leaf_row p.path leaf) mid → IsCut (covering c (Some new)) (is_deep c) p.path mid tree → JoinsEffect (coordinates a) own c (coordinates b) → Holds (live_rows b.lives) tree
  holds_made b old mid tree at holds adds cut joins = record {
    any = λ t.
        let made = one_made c p joins.made is joins.is_made in
        let e = made.0 in
        let test : Dot × Entry → Bool = λ r. t (tree_row r) in
        let next = dot_of own (own_top (coordinates a) own + 1) in
        cut.any t ∙ adds.any (stays (covering c (Some new)) (is_deep c) p.path t)
        ∙ ap (λ x. (t (leaf_row p.path leaf) && not x) || list_any (stays (covering c (Some new)) (is_deep c) p.path t) old) own_stays
        ∙ ap (λ x. x || list_any (stays (covering c (Some new)) (is_deep c) p.path t) old) (and-true (t (leaf_row p.path leaf)))
        ∙ ap (λ x. t (leaf_row p.path leaf) || x) (holds.any (stays (covering c (Some new)) (is_deep c) p.path t)
        ∙ any_alike (λ r. stays (covering c (Some new)) (is_deep c) p.path t (tree_row r)) (λ r. t (tree_row r) && not (covers c r.1)) a.lives (λ d f live. ap (λ x. t (tree_row (d, f)) && not x) (others_go d f live)))
        ∙ ap (λ row. t row || list_any (λ r. t (tree_row r) && not (covers c r.1)) (live_rows a.lives)) (sym (same_row e made.1.1 next (sym at)))
        ∙ sym (rows_made c a b own test e (joins.joined ∙ ap (λ m. join (coordinates a) (effect (coordinates a) own c m)) made.1.0) (ap (map.get a.lives) (sym at) ∙ unseen));
  }

  -- where nothing is covered, nothing goes
  pub none_cut : (old mid : List Row) → Holds (live_rows a.lives) old → AddsRow old (leaf_row p.path leaf) mid → ((d : Dot) (e : Entry) → found_at (covered_leaf c) (is_deep c) p.path old d e ≡ false) → IsCut (covering c (Some new)) (is_deep c) p.path mid mid
  none_cut old mid holds adds none = record {
    any = λ t.
        adds.any t ∙ ap (λ x. t (leaf_row p.path leaf) || x) (all_stay t)
        ∙ ap (λ x. x || list_any (stays (covering c (Some new)) (is_deep c) p.path t) old) (sym (ap (λ x. t (leaf_row p.path leaf) && not x) own_stays ∙ and-true (t (leaf_row p.path leaf))))
        ∙ sym (adds.any (stays (covering c (Some new)) (is_deep c) p.path t));
  }
    where
      stay : (t : Row → Bool) (d : Dot) (e : Entry) → map.get a.lives d ≡ Some (Live e) → stays (covering c (Some new)) (is_deep c) p.path t (tree_row (d, e)) ≡ t (tree_row (d, e))
      stay t d e live =
          ap (λ x. t (tree_row (d, e)) && not x) (others_go d e live ∙ sym (finds c p.path a.lives old (shallow_parts c p is).1 holds d e live) ∙ none d e)
          ∙ and-true (t (tree_row (d, e)))

      all_stay : (t : Row → Bool) → list_any t old ≡ list_any (stays (covering c (Some new)) (is_deep c) p.path t) old
      all_stay t =
          holds.any t ∙ sym (any_alike (λ r. stays (covering c (Some new)) (is_deep c) p.path t (tree_row r)) (λ r. t (tree_row r)) a.lives (stay t))
          ∙ sym (holds.any (stays (covering c (Some new)) (is_deep c) p.path t))

pub same_itself : (p : List (List ℕ)) → pointwise bytes_eq p p ≡ true
same_itself [] = refl
same_itself (k ∷ p) = and_true _ _ (sym (key_test k k) ∙ key_itself k) (same_itself p)

-- ---- one leaf

kind_itself : (k : Kind) → is_that_kind k k ≡ true
kind_itself Reg = refl
kind_itself Elem = refl

pub leaf_itself : (k : Kind) (v : Scalar) (d : Dot) → is_leaf k v d (record { kind = k; value = v; dot = d }) ≡ true
leaf_itself k v d = and_true _ _ (kind_itself k) (and_true _ _ (ap is_eq (tied_itself scalars_total v)) (itself d))

pub leaf_dot : (k : Kind) (v : Scalar) (d : Dot) (l : Leaf) → is_leaf k v d l ≡ true → is_same d l.dot ≡ true
leaf_dot k v d l h = and_right (at_value v l.value) _ (and_right (is_that_kind k l.kind) _ h)

-- a leaf that was added and is taken out again
pub holds_undone : (v : Lived) (path : List (List ℕ)) (l : Leaf) (old mid tree : List Row) → map.get v l.dot ≡ None → Holds (live_rows v) old → AddsRow old (leaf_row path l) mid → IsCut (is_leaf l.kind l.value l.dot) false path mid tree → Holds (live_rows v) tree
holds_undone v path l old mid tree unseen holds adds cut = record {
  any = λ t.
      cut.any t ∙ adds.any (stays picks false path t)
      ∙ ap (λ x. (t (leaf_row path l) && not x) || list_any (stays picks false path t) old) gone
      ∙ ap (λ x. x || list_any (stays picks false path t) old) (and-false (t (leaf_row path l)))
      ∙ holds.any (stays picks false path t)
      ∙ any_alike (λ r. stays picks false path t (tree_row r)) (λ r. t (tree_row r)) v (λ d e live. ap (λ x. t (tree_row (d, e)) && not x) (other d e live) ∙ and-true (t (tree_row (d, e))));
}
  where
    picks : Leaf → Bool
    picks = is_leaf l.kind l.value l.dot

    gone : goes picks false path path l ≡ true
    gone = goes_shallow picks l path path ∙ and_true _ _ (same_itself path) (leaf_itself l.kind l.value l.dot)

    third_none : (a b c : Bool) → (a && (b && (c && false))) ≡ false
    third_none a b c = ap (λ x. a && (b && x)) (and-false c) ∙ ap (λ x. a && x) (and-false b) ∙ and-false a

    other : (d : Dot) (e : Entry) → map.get v d ≡ Some (Live e) → goes picks false path e.path (leaf_at (d, e)) ≡ false
    other d e live =
        goes_shallow picks (leaf_at (d, e)) path e.path
        ∙ ap (λ x. pointwise bytes_eq e.path path && (is_that_kind l.kind e.kind && (at_value l.value e.value && x))) (apart v l.dot d e unseen live)
        ∙ third_none (pointwise bytes_eq e.path path) (is_that_kind l.kind e.kind) (at_value l.value e.value)

pub raise_covers : (c : Command) → IsRaise c → (e : Entry) → covers c e ≡ false
raise_covers (Set p v) is e = absurd is
raise_covers (Add p v) is e = absurd is
raise_covers (Del p v) is e = absurd is
raise_covers (Clear p) is e = absurd is
raise_covers (Inc k by) is e = refl
raise_covers (Dec k by) is e = refl

pub raise_parts : (c : Command) → IsRaise c → command_parts c ≡ None
raise_parts (Set p v) is = absurd is
raise_parts (Add p v) is = absurd is
raise_parts (Del p v) is = refl
raise_parts (Clear p) is = refl
raise_parts (Inc k by) is = refl
raise_parts (Dec k by) is = refl

pub either_way : {T E P Q X : Type 0} (r : Result T E) → IfOk r (λ _. P) → OnErr r Q → (P → X) → (Q → X) → X
either_way (Ok x) ok err f g = f ok
either_way (Err e) ok err f g = g err
