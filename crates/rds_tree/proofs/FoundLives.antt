-- The lives of the dots that a command covers, once these are found in a tree.
use Rattle.std.proofs.Common.{◌≡◌, ℕ, Bool, true, false, cond, ◌&&◌, ◌||◌, List, [], ◌∷◌, refl, sym, ◌∙◌, ap, eqb}
use Rattle.std.proofs.Common.{arith}
use Rattle.std.proofs.lemmas.Bool.Decides.{nat_tests}
use Rattle.std.proofs.lemmas.Bool.{false_from_ne_true, leb-true}
use Rattle.std.specs.Prelude.{Option, Some, None, is_some}
use Rattle.std.specs.List.{list_any, list_all}
use Rattle.std.specs.Ordering.{eq_by_cmp}
use Rattle.std.specs.FinMap as map
use Rattle.rds_names.specs.Conditions.{and_true, and_left, and_right}
use Rattle.rds_names.specs.declared.entry.Entry.{Entry}
use Rattle.rds_names.specs.declared.entry.Kind.TheVariants.{Reg}
use Rattle.rds_names.specs.declared.scalar.Scalar.TheVariants.{Null}
use Rattle.rds_dots.specs.declared.dot.Dot.{Dot}
use Rattle.rds_dots.specs.Dots.{dot_cmp, is_dot}
use Rattle.rds_dots.specs.Order.{dots_total}
use Rattle.rds_dots.specs.Sets.{tied_dots_are_one as dot_is}
use Rattle.rds_life.specs.Life.{Life, Live, Dead, Lived, live_rows}
use Rattle.rds_state.specs.CoveredDots.{covered_dots}
use Rattle.rds_state.specs.Edit.{covers, life_killed}
use Rattle.rds_state.specs.declared.command.Command.{Command}
use Rattle.rds_state.proofs.CountLemmas.{same_dot-tied}
use Rattle.rds_tree.specs.Cuts.{covered_leaf, found_at, goes, is_deep, path_covered}
use Rattle.rds_tree.specs.Growing.{Holds}
use Rattle.rds_tree.specs.Held.{among_dots, is_covered, killed_in, IsGathered}
use Rattle.rds_tree.specs.Row.{Row}
use Rattle.rds_tree.proofs.Effects.{any_alike, live_passes, passes_live}
use Rattle.rds_tree.proofs.Holding.{goes_covers, tied}
use Rattle.rds_tree.proofs.Witness.{both_ways, or_left, or_right}

-- some entry: what is found doesn't ask for it
some_entry : Entry
some_entry = record { path = [] ∷ []; kind = Reg; value = Null; below_root = leb-true _ _ refl; within = leb-true _ _ refl }

-- ---- a live dot that is covered

none_lives : (e : Entry) → None ≡ Some (Live e) → ⊥
none_lives e h = cc

dead_lives : (e : Entry) → Some Dead ≡ Some (Live e) → ⊥
dead_lives e h = cc

live_one : (e f : Entry) → Some (Live e) ≡ Some (Live f) → e ≡ f
live_one e f h = cc

cond_itself : (b : Bool) → b ≡ is_some (cond b (Some Dead) None)
cond_itself true = refl
cond_itself false = refl

module _ (c : Command) (v : Lived) (d : Dot) where
  abbrev hit : Dot × Entry → Bool
  hit r = covers c r.1 && eq_by_cmp dot_cmp r.0 d

  -- the row that is hit is the dot's
  hit_lives : (r : Dot × Entry) → map.get v r.0 ≡ Some (Live r.1) → hit r ≡ true → map.get v d ≡ Some (Live r.1)
  hit_lives r got h = ap (map.get v) (sym (dot_is r.0 d (and_right (covers c r.1) _ h))) ∙ got

  any_hit : (e : Entry) → list_any hit (live_rows v) ≡ is_covered c v d e
  any_hit e = by (map.get v d) refl
    where
      by : (o : Option Life) → map.get v d ≡ o → list_any hit (live_rows v) ≡ is_some (life_killed c o)
      by None is = false_from_ne_true _ (λ h. let p = live_passes hit v h in none_lives p.1.0 (sym is ∙ hit_lives (p.0, p.1.0) p.1.1.0 p.1.1.1))
      by (Some Dead) is = false_from_ne_true _ (λ h. let p = live_passes hit v h in dead_lives p.1.0 (sym is ∙ hit_lives (p.0, p.1.0) p.1.1.0 p.1.1.1))
      by (Some (Live f)) is = both_ways _ _
          (λ h. let p = live_passes hit v h in
          let same : p.1.0 ≡ f = live_one p.1.0 f (sym (hit_lives (p.0, p.1.0) p.1.1.0 p.1.1.1) ∙ is) in
          ap (covers c) (sym same) ∙ and_left (covers c p.1.0) _ p.1.1.1)
          (λ h. passes_live hit v d f is (and_true _ _ h (tied d)))
          ∙ cond_itself (covers c f)

  killed_or_none : (e : Entry) → cond (is_covered c v d e) (Some Dead) None ≡ life_killed c (map.get v d)
  killed_or_none e = by (map.get v d)
    where
      by_covered : (b : Bool) → cond (is_some (cond b (Some Dead) None)) (Some Dead) None ≡ cond b (Some Dead) None
      by_covered true = refl
      by_covered false = refl

      by : (o : Option Life) → cond (is_some (life_killed c o)) (Some Dead) None ≡ life_killed c o
      by None = refl
      by (Some (Live f)) = by_covered (covers c f)
      by (Some Dead) = refl

  killed_seen : (e : Entry) → is_covered c v d e ≡ true → is_some (map.get v d) ≡ true
  killed_seen e = by (map.get v d)
    where
      by : (o : Option Life) → is_some (life_killed c o) ≡ true → is_some o ≡ true
      by None h = h
      by (Some l) h = refl

-- ---- the lists of them

-- found in a tree
pub found_covered : (c : Command) (path : List (List ℕ)) (v : Lived) (tree : List Row) → path ≡ path_covered c → Holds (live_rows v) tree → (d : Dot) (e : Entry) → found_at (covered_leaf c) (is_deep c) path tree d e ≡ is_covered c v d e
found_covered c path v tree at holds d e =
    ap (λ p. found_at (covered_leaf c) (is_deep c) p tree d e) at
    ∙ holds.any (λ r. goes (covered_leaf c) (is_deep c) (path_covered c) r.path r.leaf && eq_by_cmp dot_cmp
    r.leaf.dot d)
    ∙ any_alike _ (hit c v d) v (λ q f live. ap (λ b. b && eq_by_cmp dot_cmp q d) (goes_covers c (q, f)))
    ∙ any_hit c v d e

-- found by a look at each row
any-covered : (c : Command) (d : Dot) (rows : List (Dot × Entry)) → list_any (λ x. eq_by_cmp dot_cmp x d) (covered_dots c rows) ≡ list_any (λ r. covers c r.1 && eq_by_cmp dot_cmp r.0 d) rows
any-covered c d [] = refl
any-covered c d (r ∷ rows) = elim (covers c r.1) as (λ b. list_any (λ x. eq_by_cmp dot_cmp x d) (cond b (r.0 ∷ covered_dots c rows) (covered_dots c rows)) ≡ ((b && eq_by_cmp dot_cmp r.0 d) || list_any (λ r. covers c r.1 && eq_by_cmp dot_cmp r.0 d) rows)) [
  | true ↦ ap (λ b. eq_by_cmp dot_cmp r.0 d || b) (any-covered c d rows)
  | false ↦ any-covered c d rows
]

pub covered_gathered : (c : Command) (v : Lived) (dots : List Dot) → dots ≡ covered_dots c (live_rows v) → IsGathered (is_covered c v) [] dots
covered_gathered c v dots are = record { any = λ d e. ap (λ ds. among_dots ds d e) are ∙ any-covered c d (live_rows v) ∙ any_hit c v d e }

module _ (c : Command) (v : Lived) (dots : List Dot) (gathered : IsGathered (is_covered c v) [] dots) where
  pub gathered_killed : (d : Dot) → killed_in dots d ≡ life_killed c (map.get v d)
  gathered_killed d = ap (λ b. cond b (Some Dead) None) (gathered.any d some_entry) ∙ killed_or_none c v d some_entry

  pub gathered_seen : (d : Dot) → list_any (λ x. eq_by_cmp dot_cmp x d) dots ≡ true → is_some (map.get v d) ≡ true
  gathered_seen d h = killed_seen c v d some_entry (sym (gathered.any d some_entry) ∙ h)

pub all_dots : (dots : List Dot) → ((q : Dot) → list_any (λ x. eq_by_cmp dot_cmp x q) dots ≡ true → is_dot q ≡ true) → list_all is_dot dots ≡ true
all_dots [] each = refl
all_dots (d ∷ dots) each = and_true (is_dot d) _ (each d (or_left _ _ (tied d))) (all_dots dots (λ q h. each q (or_right _ _ h)))

-- ---- dots that are made dead one after another

-- some of the dots are dead already, and the others are still to be made so
abbrev pub IsKilling : List Dot → List Dot → Lived → Type 0
IsKilling dots rest lives = (list_all is_dot rest ≡ true) × ((d : Dot) → cond (list_any (λ x. eq_by_cmp dot_cmp x d) rest) (Some Dead) (map.get lives d) ≡ killed_in dots d)

pub kills_none : (dots : List Dot) (lives : Lived) → list_all is_dot dots ≡ true → lives ≡ map.empty → IsKilling dots dots lives
kills_none dots lives all none = (all, λ d. ap (cond (list_any (λ x. eq_by_cmp dot_cmp x d) dots) (Some Dead)) (ap (λ l. map.get l d) none ∙ map.get-empty {X = Life} dot_cmp d))

pub first_dot : (dots rest later : List Dot) (dot : Dot) (lives : Lived) → rest ≡ dot ∷ later → IsKilling dots rest lives → is_dot dot ≡ true
first_dot dots rest later dot lives split so = and_left (is_dot dot) _ (sym (ap (list_all is_dot) split) ∙ so.0)

pub kills_first : (dots rest later : List Dot) (dot : Dot) (old new : Lived) → rest ≡ dot ∷ later → new ≡ map.insert old dot Dead → IsKilling dots rest old → IsKilling dots later new
kills_first dots rest later dot old new split put so = (
  and_right (is_dot dot) _ (sym (ap (list_all is_dot) split) ∙ so.0),
  λ d. ap (cond (among later d) (Some Dead)) (ap (λ l. map.get l d) put ∙ map.get-insert dots_total old dot Dead d ∙ ap (λ b. cond b (Some Dead) (map.get old d)) (turned d dot)) ∙ either (eq_by_cmp dot_cmp dot d) (among later d) (map.get old d)
      ∙ ap (λ ds. cond (among ds d) (Some Dead) (map.get old d)) (sym split) ∙ so.1 d,
)
  where
    among : List Dot → Dot → Bool
    among ds d = list_any (λ x. eq_by_cmp dot_cmp x d) ds

    turned : (a b : Dot) → eq_by_cmp dot_cmp a b ≡ eq_by_cmp dot_cmp b a
    turned a b = same_dot-tied a b ∙ turn a.replica b.replica a.seq b.seq ∙ sym (same_dot-tied b a)
      where
        turn : (x y n m : ℕ) → (eqb x y && eqb n m) ≡ (eqb y x && eqb m n)
        turn x y n m = grind (arith, nat_tests)

    either : (a b : Bool) (o : Option Life) → cond b (Some Dead) (cond a (Some Dead) o) ≡ cond (a || b) (Some Dead) o
    either true true o = refl
    either true false o = refl
    either false b o = refl
