-- The dead dots that lives keep, as the lives change.
use Rattle.std.proofs.Common.{◌≡◌, Bool, true, false, not, ◌&&◌, ◌||◌, cond, List, Option, Some, None, refl}
use Rattle.std.proofs.Common.{sym, ◌∙◌, ap, subst}
use Rattle.std.proofs.Math.Bool.{or-false}
use Rattle.std.specs.Prelude.{is_some}
use Rattle.std.specs.Ordering.{eq_by_cmp}
use Rattle.std.specs.FinMap as map
use Rattle.std.specs.FinMap.Entries.{is_some-find}
use Rattle.std.specs.FinSet as set
use Rattle.rds_names.specs.declared.entry.Entry.{Entry}
use Rattle.rds_dots.specs.declared.dot.Dot.{Dot}
use Rattle.rds_dots.specs.Dots.{dot_cmp, Dots}
use Rattle.rds_dots.specs.Order.{dots_total, dots_exact}
use Rattle.rds_dots.specs.Sets.{tied_dots_are_one}
use Rattle.rds_life.specs.Joined.{rows_of_join}
use Rattle.rds_life.specs.Killed.{killed_by, is_the}
use Rattle.rds_life.specs.KnownDead.{KnowsDead, HasMore, AreKept}
use Rattle.rds_life.specs.Life.{Life, Live, Dead, Lived, AreRows, keys, lives_of, is_dead, entry_of, join_life}
use Rattle.rds_life.specs.Life.{live_rows, live_of}
use Rattle.rds_life.specs.Removed.{rows_without}
use Rattle.rds_life.proofs.Changes.{lives_of-without, rows-without, lives_of-insert, rows-insert, lives_of-put, rows-put}
use Rattle.rds_life.proofs.LivedLemmas.{are_joined, is_joined, seen_is}
use Rattle.rds_life.proofs.Views.{find-live_rows}

-- a set in two parts, of which the second has none
pub with_none : (s t : Dots) → t ≡ set.empty → set.union s t ≡ s
with_none s t none = set.same_set dots_total dots_exact _ _ (λ d.
    set.contains-union dots_total s t d
    ∙ ap (λ b. set.contains s d || b) (ap (λ u. set.contains u d) none ∙ set.contains-empty dot_cmp d)
    ∙ or-false (set.contains s d))

or_inside : (a b c : Bool) → (a || (b || c)) ≡ (b || (a || c))
or_inside true true c = refl
or_inside true false c = refl
or_inside false b c = refl

or_last : (a b c : Bool) → (a || (b || c)) ≡ (c || (a || b))
or_last true b true = refl
or_last true b false = refl
or_last false true true = refl
or_last false true false = refl
or_last false false true = refl
or_last false false false = refl

module _ (s t old : Dots) (is : set.union s t ≡ old) (d : Dot) where
  parts : (set.contains s d || set.contains t d) ≡ set.contains old d
  parts = sym (set.contains-union dots_total s t d) ∙ ap (λ u. set.contains u d) is

  -- one more in the second part
  pub with_one : (u : Dots) (dot : Dot) → u ≡ set.insert t dot → set.contains (set.union s u) d ≡ (eq_by_cmp dot_cmp d dot || set.contains old d)
  with_one u dot more =
      set.contains-union dots_total s u d
      ∙ ap (λ b. set.contains s d || b) (ap (λ x. set.contains x d) more ∙ set.contains-insert dots_total t dot d)
      ∙ or_inside (set.contains s d) (eq_by_cmp dot_cmp d dot) (set.contains t d)
      ∙ ap (λ b. eq_by_cmp dot_cmp d dot || b) parts

  -- more of them
  pub with_more : (u more : Dots) → u ≡ set.union t more → set.contains (set.union s u) d ≡ (set.contains more d || set.contains old d)
  with_more u more all =
      set.contains-union dots_total s u d
      ∙ ap (λ b. set.contains s d || b) (ap (λ x. set.contains x d) all ∙ set.contains-union dots_total t more d)
      ∙ or_last (set.contains s d) (set.contains t d) (set.contains more d)
      ∙ ap (λ b. set.contains more d || b) parts

  pub in_neither : set.contains s d ≡ false → set.contains t d ≡ false → set.contains old d ≡ false
  in_neither here there = sym parts ∙ ap (λ b. b || set.contains t d) here ∙ there

-- what is known goes on with what dies
known_more : (v w : Lived) (more : Dot → Bool) → ((d : Dot) → is_dead (map.get w d) ≡ (more d || is_dead (map.get v d))) → (old new : Option Dots) → KnowsDead v old → HasMore more old new → KnowsDead w new
known_more v w more grows old None known has = tt
known_more v w more grows None (Some new) known has = absurd has
known_more v w more grows (Some old) (Some new) known has = λ d. has d ∙ ap (λ b. more d || b) (known d) ∙ sym (grows d)

known_same : (v w : Lived) → ((d : Dot) → is_dead (map.get w d) ≡ is_dead (map.get v d)) → (dead : Option Dots) → KnowsDead v dead → KnowsDead w dead
known_same v w same None known = tt
known_same v w same (Some dead) known = λ d. known d ∙ sym (same d)

dies_if : (b : Bool) (o : Option Life) → is_dead (cond b (Some Dead) o) ≡ (b || is_dead o)
dies_if true o = refl
dies_if false o = refl

dies : (v w : Lived) (dot : Dot) → w ≡ map.insert v dot Dead → (d : Dot) → is_dead (map.get w d) ≡ (eq_by_cmp dot_cmp d dot || is_dead (map.get v d))
dies v w dot is d =
    ap (λ u. is_dead (map.get u d)) is ∙ ap is_dead (map.get-insert dots_total v dot Dead d) ∙ dies_if (eq_by_cmp dot_cmp d dot) (map.get v d)

lives_if : (b : Bool) (e : Entry) (o : Option Life) → (b ≡ true → o ≡ None) → is_dead (cond b (Some (Live e)) o) ≡ is_dead o
lives_if true e o none = sym (ap is_dead (none refl))
lives_if false e o none = refl

lives_more : (v w : Lived) (dot : Dot) (e : Entry) → w ≡ map.insert v dot (Live e) → map.get v dot ≡ None → (d : Dot) → is_dead (map.get w d) ≡ is_dead (map.get v d)
lives_more v w dot e is none d =
    ap (λ u. is_dead (map.get u d)) is
    ∙ ap is_dead (map.get-insert dots_total v dot (Live e) d)
    ∙ lives_if (eq_by_cmp dot_cmp d dot) e (map.get v d) (λ same. ap (map.get v) (tied_dots_are_one d dot same) ∙ none)

joined_dies : (a b : Option Life) → is_dead (join_life a b) ≡ (is_dead b || is_dead a)
joined_dies None l = sym (or-false (is_dead l))
joined_dies (Some (Live e)) None = refl
joined_dies (Some (Live e)) (Some (Live f)) = refl
joined_dies (Some (Live e)) (Some Dead) = refl
joined_dies (Some Dead) None = refl
joined_dies (Some Dead) (Some (Live e)) = refl
joined_dies (Some Dead) (Some Dead) = refl

module _ (s : Dots) (rows : List (Dot × Entry)) (old : Option Dots) (kept : AreKept s rows old) where
  -- a seen dot dies
  pub kept-kill : (dot : Dot) → set.contains s dot ≡ true → (new : Option Dots) → HasMore (λ d. eq_by_cmp dot_cmp d dot) old new → AreKept s (rows_without dot rows) new
  kept-kill dot seen new more = record {
    rows = rows-without s rows dot kept.rows;
    dead = known_more (lives_of s rows) (lives_of s (rows_without dot rows)) (λ d. eq_by_cmp dot_cmp d dot)
        (dies (lives_of s rows) (lives_of s (rows_without dot rows)) dot (lives_of-without s rows dot kept.rows seen)) old new kept.dead more;
  }

  -- an unseen dot dies
  pub kept-insert : (dot : Dot) → set.contains s dot ≡ false → (new : Option Dots) → HasMore (λ d. eq_by_cmp dot_cmp d dot) old new → AreKept (set.insert s dot) rows new
  kept-insert dot unseen new more = record {
    rows = rows-insert s rows dot kept.rows;
    dead = known_more (lives_of s rows) (lives_of (set.insert s dot) rows) (λ d. eq_by_cmp dot_cmp d dot)
        (dies (lives_of s rows) (lives_of (set.insert s dot) rows) dot (lives_of-insert s rows dot kept.rows unseen)) old new kept.dead more;
  }

  -- an unseen dot is put in
  pub kept-put : (dot : Dot) (e : Entry) → map.get (lives_of s rows) dot ≡ None → AreKept (set.insert s dot) (map.put dot_cmp dot e rows) old
  kept-put dot e none = record {
    rows = rows-put s rows dot kept.rows e;
    dead = known_same (lives_of s rows) (lives_of (set.insert s dot) (map.put dot_cmp dot e rows))
        (lives_more (lives_of s rows) (lives_of (set.insert s dot) (map.put dot_cmp dot e rows)) dot e (lives_of-put s rows dot kept.rows e) none) old kept.dead;
  }

  -- others are joined
  pub kept-join : (t : Dots) (b : List (Dot × Entry)) → AreRows t b → (w : Lived) → lives_of t b ≡ w → (u : Dots) (r : List (Dot × Entry)) → u ≡ set.union s t → r ≡ rows_of_join (set.contains s) (set.contains t) rows b
      → (new : Option Dots) → HasMore (λ d. is_dead (map.get w d)) old new → AreKept u r new
  kept-join t b are w is u r seen joined new more =
      let each = is_joined s t rows b kept.rows are u r (lives_of s rows) w seen joined refl is in
      record {
        rows = are_joined s t rows b kept.rows are seen joined;
        dead = known_more (lives_of s rows) (lives_of u r) (λ d. is_dead (map.get w d))
            (λ d. ap is_dead (each.each_dot d) ∙ joined_dies (map.get (lives_of s rows) d) (map.get w d)) old new kept.dead more;
      }

-- nothing is known
pub kept-none : (s : Dots) (rows : List (Dot × Entry)) → AreRows s rows → AreKept s rows None
kept-none s rows are = record { rows = are; dead = tt }

-- a dot that is unseen can't be killed
spares : (b : Bool) (o : Option Life) (d dot : Dot) → eq_by_cmp dot_cmp dot d ≡ b → (b ≡ true → o ≡ None) → o ≡ killed_by (is_the dot) d o
spares b None d dot is none = refl
spares b (Some Dead) d dot is none = refl
spares true (Some (Live e)) d dot is none = cc (none refl)
spares false (Some (Live e)) d dot is none = sym (ap (λ x. cond x (Some Dead) (Some (Live e))) is)

no_life : (o : Option Life) → is_some o ≡ false → o ≡ None
no_life None h = refl
no_life (Some l) h = cc

pub unseen_stays : (s : Dots) (rows : List (Dot × Entry)) (v : Lived) → lives_of s rows ≡ v → (dot : Dot) → set.contains s dot ≡ false → (d : Dot) → map.get v d ≡ killed_by (is_the dot) d (map.get v d)
unseen_stays s rows v is dot unseen d =
    spares (eq_by_cmp dot_cmp dot d) (map.get v d) d dot refl
    (λ same. ap (map.get v) (sym (tied_dots_are_one dot d same)) ∙ no_life (map.get v dot) (sym (seen_is s rows v is dot) ∙ unseen))

-- a dot that is seen and not dead is live
lives : (o : Option Life) → (is_some o && not (is_dead o)) ≡ is_some (entry_of o)
lives None = refl
lives (Some (Live e)) = refl
lives (Some Dead) = refl

contains-live_of : (v : Lived) (d : Dot) → set.contains (live_of v) d ≡ is_some (entry_of (map.get v d))
contains-live_of v d = set.contains-from_list dots_total (keys (live_rows v)) d ∙ sym (is_some-find dot_cmp d (live_rows v)) ∙ ap is_some (find-live_rows v d)

module _ (s : Dots) (rows : List (Dot × Entry)) (v : Lived) (is : lives_of s rows ≡ v) (known : Option Dots) (knows : KnowsDead (lives_of s rows) known) (dead : Dots) (some : known ≡ Some dead) where
  pub dead_known : (d : Dot) → set.contains dead d ≡ is_dead (map.get v d)
  dead_known d =
      let all : KnowsDead (lives_of s rows) (Some dead) = subst (KnowsDead (lives_of s rows)) some knows in
      all d ∙ ap (λ l. is_dead (map.get l d)) is

  left_live : (d : Dot) → (set.contains s d && not (set.contains dead d)) ≡ is_some (entry_of (map.get v d))
  left_live d =
      ap (λ b. b && not (set.contains dead d)) (seen_is s rows v is d)
      ∙ ap (λ b. is_some (map.get v d) && not b) (dead_known d)
      ∙ lives (map.get v d)

  -- what is left of the seen dots without the dead ones
  pub live_known : (left : Dots) → left ≡ set.difference s dead → left ≡ live_of v
  live_known left without_dead = set.same_set dots_total dots_exact _ _ (λ d.
      ap (λ t. set.contains t d) without_dead
      ∙ set.contains-difference dots_total s dead d
      ∙ left_live d
      ∙ sym (contains-live_of v d))

  pub live_between : (d : Dot) → set.contains s d ≡ true → set.contains dead d ≡ false → is_some (entry_of (map.get v d)) ≡ true
  live_between d has lacks = sym (left_live d) ∙ ap (λ b. b && not (set.contains dead d)) has ∙ ap not lacks
