-- Dots of a tree that are made dead one after another.
use Rattle.std.proofs.Common.{◌≡◌, ℕ, Bool, true, false, cond, not, ◌&&◌, ◌||◌, List, [], ◌∷◌, map, refl, sym, ◌∙◌, ap}
use Rattle.std.proofs.Common.{subst, length}
use Rattle.std.proofs.Math.Bool.{and-false, or-false}
use Rattle.std.specs.Prelude.{Option, Some, None}
use Rattle.std.specs.List.{list_any}
use Rattle.std.specs.List.Sorted.{IsStrictlySortedBy}
use Rattle.std.specs.Ordering.{eq_by_cmp}
use Rattle.std.specs.Map.{lookup}
use Rattle.rds_names.specs.declared.entry.Entry.{Entry}
use Rattle.rds_dots.specs.declared.dot.Dot.{Dot}
use Rattle.rds_dots.specs.Dots.{dot_cmp}
use Rattle.rds_dots.specs.Sets.{tied_dots_are_one as dot_is}
use Rattle.rds_life.specs.Life.{Life, Live, Dead}
use Rattle.rds_life.specs.Killed.{but_for, is_same, is_the, killed_by}
use Rattle.rds_tree.specs.declared.leaf.Leaf.{Leaf}
use Rattle.rds_tree.specs.Cuts.{goes, found_at, among, among_each, among_leaves}
use Rattle.rds_tree.specs.Held.{is_but}
use Rattle.rds_names.specs.Key.{key_cmp}
use Rattle.rds_tree.specs.Row.{Row, under, at_end, rows_in_node}
use Rattle.rds_tree.proofs.Adding.{any-rows, no_keys}
use Rattle.rds_tree.proofs.Cutting.{at_key, keys_exact, same_some, AreOthers, others_above, others_none, goes_all}

abbrev pub Test : Type 0
Test = Dot → Entry → Bool

-- tests that say the same kill the same
killed_one : (f g : Test) (d : Dot) (o : Option Life) → ((e : Entry) → f d e ≡ g d e) → killed_by f d o ≡ killed_by g d o
killed_one f g d None same = refl
killed_one f g d (Some (Live e)) same = ap (λ b. cond b (Some Dead) (Some (Live e))) (same e)
killed_one f g d (Some Dead) same = refl

but_same : (but : Option Dot) (f g : Test) (d : Dot) (e : Entry) → f d e ≡ g d e → but_for but f d e ≡ but_for but g d e
but_same None f g d e same = same
but_same (Some stays) f g d e same = ap (λ b. not (is_same stays d) && b) same

pub killed_same : (f g : Test) (but : Option Dot) (d : Dot) (o : Option Life) → ((e : Entry) → f d e ≡ g d e) → killed_by (but_for but f) d o ≡ killed_by (but_for but g) d o
killed_same f g but d o same = killed_one (but_for but f) (but_for but g) d o (λ e. but_same but f g d e (same e))

never : (d : Dot) (o : Option Life) → killed_by (λ q e. false) d o ≡ o
never d None = refl
never d (Some (Live e)) = refl
never d (Some Dead) = refl

but_none : (but : Option Dot) (f : Test) (d : Dot) (e : Entry) → f d e ≡ false → but_for but f d e ≡ false
but_none None f d e h = h
but_none (Some stays) f d e h = ap (λ b. not (is_same stays d) && b) h ∙ and-false (not (is_same stays d))

pub killed_never : (f : Test) (but : Option Dot) (d : Dot) (o : Option Life) → ((e : Entry) → f d e ≡ false) → killed_by (but_for but f) d o ≡ o
killed_never f but d o none = killed_one (but_for but f) (λ q e. false) d o (λ e. but_none but f d e (none e)) ∙ never d o

-- one after the other kills what either does
killed_twice : (f g h : Test) (d : Dot) (o : Option Life) → ((e : Entry) → h d e ≡ (f d e || g d e)) → killed_by g d (killed_by f d o) ≡ killed_by h d o
killed_twice f g h d None either = refl
killed_twice f g h d (Some (Live e)) either = by (f d e) ∙ ap (λ b. cond b (Some Dead) (Some (Live e))) (sym (either e))
  where
    by : (b : Bool) → killed_by g d (cond b (Some Dead) (Some (Live e))) ≡ cond (b || g d e) (Some Dead) (Some (Live e))
    by true = refl
    by false = refl
killed_twice f g h d (Some Dead) either = refl

but_either : (but : Option Dot) (f g h : Test) (d : Dot) (e : Entry) → h d e ≡ (f d e || g d e) → but_for but h d e ≡ (but_for but f d e || but_for but g d e)
but_either None f g h d e either = either
but_either (Some stays) f g h d e either = ap (λ b. not (is_same stays d) && b) either ∙ over (not (is_same stays d)) (f d e) (g d e)
  where
    over : (a b c : Bool) → (a && (b || c)) ≡ ((a && b) || (a && c))
    over true b c = refl
    over false b c = refl

pub killed_step : (f g h : Test) (but : Option Dot) (d : Dot) (old mid : Option Life) → mid ≡ killed_by (but_for but f) d old → ((e : Entry) → h d e ≡ (f d e || g d e)) → killed_by (but_for but g) d mid ≡ killed_by (but_for but h) d old
killed_step f g h but d old mid step either = ap (killed_by (but_for but g) d) step ∙ killed_twice (but_for but f) (but_for but g) (but_for but h) d old (λ e. but_either but f g h d e (either e))

-- ---- the dot that is to stay

spares : (stays dot d : Dot) → is_same stays dot ≡ true → (e : Entry) → (not (is_same stays d) && is_the dot d e) ≡ false
spares stays dot d same e = elim (is_the dot d e) as (λ b. is_the dot d e ≡ b → (not (is_same stays d) && b) ≡ false) [
  | true ↦ λ is. ap (λ b. not b && true) (ap (is_same stays) (sym (dot_is dot d is)) ∙ same)
  | false ↦ λ _. and-false (not (is_same stays d))
] refl

-- a dot that is to stay isn't killed
pub spared_kill : (but : Option Dot) (dot d : Dot) (o : Option Life) → is_but but dot ≡ true → o ≡ killed_by (but_for but (is_the dot)) d o
spared_kill None dot d o h = absurd (cc)
spared_kill (Some stays) dot d o h = sym (killed_one (but_for (Some stays) (is_the dot)) (λ q e. false) d o (spares stays dot d h) ∙ never d o)

keeps : (stays dot d : Dot) → is_same stays dot ≡ false → (e : Entry) → is_the dot d e ≡ (not (is_same stays d) && is_the dot d e)
keeps stays dot d apart e = elim (is_the dot d e) as (λ b. is_the dot d e ≡ b → b ≡ (not (is_same stays d) && b)) [
  | true ↦ λ is. sym (ap (λ b. not b && true) (ap (is_same stays) (sym (dot_is dot d is)) ∙ apart))
  | false ↦ λ _. sym (and-false (not (is_same stays d)))
] refl

-- and any other is
pub plain_kill : (but : Option Dot) (dot d : Dot) (o : Option Life) → is_but but dot ≡ false → killed_by (is_the dot) d o ≡ killed_by (but_for but (is_the dot)) d o
plain_kill None dot d o h = refl
plain_kill (Some stays) dot d o h = killed_one (is_the dot) (but_for (Some stays) (is_the dot)) d o (keeps stays dot d h)

-- ---- what a walk finds

abbrev below_passes : (Row → Bool) → List ℕ × List Row → Bool
below_passes t c = list_any (λ r. t (under c.0 r)) c.1

none_pass : {X : Type 0} (t : X → Bool) (xs : List X) → ((x : X) → t x ≡ false) → list_any t xs ≡ false
none_pass t [] none = refl
none_pass t (x ∷ xs) none = ap (λ b. b || list_any t xs) (none x) ∙ none_pass t xs none

pub same_pass : {X : Type 0} (t u : X → Bool) (xs : List X) → ((x : X) → t x ≡ u x) → list_any t xs ≡ list_any u xs
same_pass t u [] same = refl
same_pass t u (x ∷ xs) same = ap (λ b. b || list_any t xs) (same x) ∙ ap (λ b. u x || b) (same_pass t u xs same)

-- all rows: the leaves, and the trees below
among_whole : (leaves : List Leaf) (cs : List (List ℕ × List Row)) (d : Dot) (e : Entry) → among (rows_in_node leaves cs) d e ≡ (among_leaves (λ l. true) leaves d e || among_each (map (λ c. c.1) cs) d e)
among_whole leaves cs d e = any-rows (λ r. eq_by_cmp dot_cmp r.leaf.dot d) leaves cs ∙ ap (λ b. list_any (λ l. eq_by_cmp dot_cmp l.dot d) leaves || b) (each cs)
  where
    each : (cs : List (List ℕ × List Row)) → list_any (below_passes (λ r. eq_by_cmp dot_cmp r.leaf.dot d)) cs ≡ among_each (map (λ c. c.1) cs) d e
    each [] = refl
    each (c ∷ cs) = ap (λ b. among c.1 d e || b) (each cs)

pub among_node : (rows : List Row) (leaves : List Leaf) (cs : List (List ℕ × List Row)) (trees : List (List Row)) (d : Dot) (e : Entry) → rows_in_node leaves cs ≡ rows → trees ≡ map (λ c. c.1) cs → among rows d e ≡ (among_leaves (λ l. true) leaves d e || among_each trees d e)
among_node rows leaves cs trees d e is each = ap (λ rs. among rs d e) (sym is) ∙ among_whole leaves cs d e ∙ ap (λ ts. among_leaves (λ l. true) leaves d e || among_each ts d e) (sym each)

-- at the end of the path, where all goes
pub found_deep : (picks : Leaf → Bool) (deep : Bool) (path : List (List ℕ)) (rows : List Row) (d : Dot) (e : Entry) → deep ≡ true → length path ≡ 0 → among rows d e ≡ found_at picks deep path rows d e
found_deep picks deep path rows d e whole none =
    subst (λ b. among rows d e ≡ found_at picks b path rows d e) (sym whole) (subst (λ p. among rows d e ≡ found_at picks true p rows d e) (sym (no_keys path none))
    (same_pass (λ r. eq_by_cmp dot_cmp r.leaf.dot d) (λ r. goes picks true [] r.path r.leaf && eq_by_cmp dot_cmp r.leaf.dot d) rows (λ r. ap (λ b. b && eq_by_cmp dot_cmp r.leaf.dot d) (sym (goes_all picks r.path r.leaf)))))

-- at the end of the path, where leaves go
pub found_here : (picks : Leaf → Bool) (deep : Bool) (path : List (List ℕ)) (rows : List Row) (leaves : List Leaf) (cs : List (List ℕ × List Row)) (d : Dot) (e : Entry) → deep ≡ false → length path ≡ 0 → rows_in_node leaves cs ≡ rows → among_leaves picks leaves d e ≡ found_at picks deep path rows d e
found_here picks deep path rows leaves cs d e shallow none is =
    subst (λ b. among_leaves picks leaves d e ≡ found_at picks b path rows d e) (sym shallow) (subst (λ p. among_leaves picks leaves d e ≡ found_at picks false p rows d e) (sym (no_keys path none))
    (sym (ap (λ rs. found_at picks false [] rs d e) (sym is) ∙ any-rows (λ r. goes picks false [] r.path r.leaf && eq_by_cmp dot_cmp r.leaf.dot d) leaves cs
    ∙ ap (λ b. among_leaves picks leaves d e || b) (none_pass (below_passes (λ r. goes picks false [] r.path r.leaf && eq_by_cmp dot_cmp r.leaf.dot d)) cs (λ c. none_pass (λ r. false) c.1 (λ r. refl))) ∙ or-false (among_leaves picks leaves d e))))

-- below a key
module _ (picks : Leaf → Bool) (deep : Bool) (k : List ℕ) (p : List (List ℕ)) (d : Dot) (e : Entry) where
  abbrev hits : Row → Bool
  hits r = goes picks deep (k ∷ p) r.path r.leaf && eq_by_cmp dot_cmp r.leaf.dot d

  missed : (c : List ℕ × List Row) → at_key k c.0 ≡ false → below_passes hits c ≡ false
  missed c h = (λ i. list_any (λ r. (h i && goes picks deep p r.path r.leaf) && eq_by_cmp dot_cmp r.leaf.dot d) c.1) ∙ none_pass (λ r. false) c.1 (λ r. refl)

  met : (c : List ℕ × List Row) → at_key k c.0 ≡ true → below_passes hits c ≡ found_at picks deep p c.1 d e
  met c h = λ i. list_any (λ r. (h i && goes picks deep p r.path r.leaf) && eq_by_cmp dot_cmp r.leaf.dot d) c.1

  all_missed : (cs : List (List ℕ × List Row)) → AreOthers k cs → list_any (below_passes hits) cs ≡ false
  all_missed [] h = refl
  all_missed (c ∷ cs) h = ap (λ b. b || list_any (below_passes hits) cs) (missed c h.0) ∙ all_missed cs h.1

  one_met : (child : List Row) (cs : List (List ℕ × List Row)) → IsStrictlySortedBy key_cmp (map (λ c. c.0) cs) → lookup (at_key k) cs ≡ Some child → list_any (below_passes hits) cs ≡ found_at picks deep p child d e
  unfolding IsStrictlySortedBy
  one_met child [] rise here = absurd (cc)
  one_met child (c ∷ cs) rise here =
      elim (at_key k c.0) as (λ b. at_key k c.0 ≡ b → cond b (Some c.1) (lookup (at_key k) cs) ≡ Some child → (below_passes hits c || list_any (below_passes hits) cs) ≡ found_at picks deep p child d e) [
        | true ↦ λ is h. ap (λ b. below_passes hits c || b) (all_missed cs (others_above k c.0 cs (keys_exact k c.0 is) rise.0)) ∙ or-false (below_passes hits c) ∙ met c is ∙ ap (λ rows. found_at picks deep p rows d e) (same_some c.1 child h)
        | false ↦ λ is h. ap (λ b. b || list_any (below_passes hits) cs) (missed c is) ∙ one_met child cs rise.1 h
      ] refl here

  no_leaf : (leaves : List Leaf) → list_any (λ l. hits (at_end l)) leaves ≡ false
  no_leaf leaves = none_pass (λ l. hits (at_end l)) leaves (λ l. refl)

  pub found_none : (path : List (List ℕ)) (rows : List Row) (leaves : List Leaf) (cs : List (List ℕ × List Row)) → path ≡ k ∷ p → rows_in_node leaves cs ≡ rows → None ≡ lookup (at_key k) cs → found_at picks deep path rows d e ≡ false
  found_none path rows leaves cs split is none =
      ap (λ q. found_at picks deep q rows d e) split ∙ ap (list_any hits) (sym is) ∙ any-rows hits leaves cs ∙ ap (λ b. b || list_any (below_passes hits) cs) (no_leaf leaves) ∙ all_missed cs (others_none k cs (sym none))

  pub found_child : (path : List (List ℕ)) (rows child : List Row) (leaves : List Leaf) (cs : List (List ℕ × List Row)) → path ≡ k ∷ p → rows_in_node leaves cs ≡ rows → IsStrictlySortedBy key_cmp (map (λ c. c.0) cs) → Some child ≡ lookup (at_key k) cs → found_at picks deep p child d e ≡ found_at picks deep path rows d e
  found_child path rows child leaves cs split is rise here =
      sym (ap (λ q. found_at picks deep q rows d e) split ∙ ap (list_any hits) (sym is) ∙ any-rows hits leaves cs ∙ ap (λ b. b || list_any (below_passes hits) cs) (no_leaf leaves) ∙ one_met child cs rise (sym here))
