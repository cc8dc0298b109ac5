-- Rows without those that are chosen.
use Rattle.std.proofs.Common.{◌≡◌, Bool, true, false, not, cond, List, [], ◌∷◌, Option, Some, None, refl, sym, ◌∙◌, ap}
use Rattle.std.specs.List.{list_all, filter}
use Rattle.std.specs.Ordering.{eq_by_cmp}
use Rattle.std.specs.FinMap as map
use Rattle.std.specs.FinSet as set
use Rattle.std.specs.FinMap.Entries.{find-put}
use Rattle.rds_names.specs.declared.entry.Entry.{Entry}
use Rattle.rds_dots.specs.declared.dot.Dot.{Dot}
use Rattle.rds_dots.specs.Dots.{dot_cmp, Dots}
use Rattle.rds_dots.specs.Ascending.{is_above, ascends}
use Rattle.rds_dots.specs.Order.{dots_total}
use Rattle.rds_names.specs.Conditions.{and_true, and_left, and_right}
use Rattle.rds_dots.specs.Sets.{tied_dots_are_one}
use Rattle.rds_life.specs.Life.{Life, Live, Dead, Lived, keys, life_of, lives_of, AreRows, entry_of, live_rows}
use Rattle.rds_life.specs.Killed.{killed_by}
use Rattle.rds_life.proofs.Puts.{rise-put}
use Rattle.rds_life.proofs.RowLemmas.{find_above, find-row_if, same_rows}
use Rattle.rds_life.proofs.Views.{find-live_rows, rise-live_rows}
use Rattle.rds_life.proofs.LivedLemmas.{get-lives_of, find_unseen, are_rows_of}

module _ (test : Dot → Entry → Bool) where
  abbrev pub left : List (Dot × Entry) → List (Dot × Entry)
  left rows = filter (λ r. not (test r.0 r.1)) rows

  -- an entry that isn't chosen
  abbrev pub spared : Dot → Option Entry → Option Entry
  spared d None = None
  spared d (Some e) = cond (not (test d e)) (Some e) None

  all-left : (p : Dot → Bool) (rows : List (Dot × Entry)) → list_all p (keys rows) ≡ true → list_all p (keys (left rows)) ≡ true
  all-left p [] all = refl
  all-left p (x ∷ rows) all =
      let again = all-left p rows (and_right (p x.0) _ all) in
      elim (not (test x.0 x.1)) as (λ b. list_all p (keys (cond b (x ∷ left rows) (left rows))) ≡ true) [ true ↦ and_true _ _ (and_left (p x.0) _ all) again | false ↦ again ]

  pub rise-left : (rows : List (Dot × Entry)) → ascends (keys rows) ≡ true → ascends (keys (left rows)) ≡ true
  rise-left [] rise = refl
  rise-left (x ∷ rows) rise =
      let again = rise-left rows (and_right (list_all (is_above x.0) (keys rows)) _ rise) in
      let above = all-left (is_above x.0) rows (and_left _ (ascends (keys rows)) rise) in
      elim (not (test x.0 x.1)) as (λ b. ascends (keys (cond b (x ∷ left rows) (left rows))) ≡ true) [ true ↦ and_true _ _ above again | false ↦ again ]

  -- one row more, whether it is the dot's or not, and whether it is spared or not
  find_one : (b s : Bool) (e : Entry) (o : Option Entry) (d : Dot) → (b ≡ true → not (test d e) ≡ s) → (b ≡ true → o ≡ None) → cond s (cond b (Some e) (spared d o)) (spared d o) ≡ spared d (cond b (Some e) o)
  find_one true true e o d is none = sym (ap (λ t. cond t (Some e) None) (is refl))
  find_one true false e o d is none = ap (spared d) (none refl) ∙ sym (ap (λ t. cond t (Some e) None) (is refl))
  find_one false true e o d is none = refl
  find_one false false e o d is none = refl

  pub find-left : (rows : List (Dot × Entry)) → ascends (keys rows) ≡ true → (d : Dot) → map.find dot_cmp d (left rows) ≡ spared d (map.find dot_cmp d rows)
  find-left [] rise d = refl
  find-left (x ∷ rows) rise d =
      let again = find-left rows (and_right (list_all (is_above x.0) (keys rows)) _ rise) d in
      let none = find_above x.0 rows (and_left _ (ascends (keys rows)) rise) in
      let stays = not (test x.0 x.1) in
      find-row_if d stays x (left rows)
      ∙ ap (λ o. cond stays (cond (eq_by_cmp dot_cmp d x.0) (Some x.1) o) o) again
      ∙ find_one (eq_by_cmp dot_cmp d x.0) stays x.1 (map.find dot_cmp d rows) d
      (λ is. ap (λ q. not (test q x.1)) (tied_dots_are_one d x.0 is))
      (λ is. ap (λ q. map.find dot_cmp q rows) (tied_dots_are_one d x.0 is) ∙ none)

  spared_none : (d : Dot) (o : Option Entry) → o ≡ None → spared d o ≡ None
  spared_none d None e = refl
  spared_none d (Some x) e = cc

  pub rows-left : (s : Dots) (rows : List (Dot × Entry)) → AreRows s rows → AreRows s (left rows)
  rows-left s rows are = are_rows_of s (left rows) (rise-left rows are.rise) (λ d fails. find-left rows are.rise d ∙ spared_none d (map.find dot_cmp d rows) (find_unseen s rows are d fails))

  life_left : (b t : Bool) (e : Entry) (d : Dot) → test d e ≡ t → cond b (Some (life_of (cond (not t) (Some e) None))) None ≡ killed_by test d (cond b (Some (Live e)) None)
  life_left true true e d is = sym (ap (λ x. cond x (Some Dead) (Some (Live e))) is)
  life_left true false e d is = sym (ap (λ x. cond x (Some Dead) (Some (Live e))) is)
  life_left false t e d is = refl

  dead_left : (b : Bool) (d : Dot) → cond b (Some Dead) None ≡ killed_by test d (cond b (Some Dead) None)
  dead_left true d = refl
  dead_left false d = refl

  killed_life : (b : Bool) (o : Option Entry) (d : Dot) → cond b (Some (life_of (spared d o))) None ≡ killed_by test d (cond b (Some (life_of o)) None)
  killed_life b None d = dead_left b d
  killed_life b (Some e) d = life_left b (test d e) e d refl

  -- without their rows, the chosen dots are dead
  pub get-left : (s : Dots) (rows : List (Dot × Entry)) → AreRows s rows → (v : Lived) → lives_of s rows ≡ v → (d : Dot) → map.get (lives_of s (left rows)) d ≡ killed_by test d (map.get v d)
  get-left s rows are v is d =
      get-lives_of s (left rows) d
      ∙ ap (λ o. cond (set.contains s d) (Some (life_of o)) None) (find-left rows are.rise d)
      ∙ killed_life (set.contains s d) (map.find dot_cmp d rows) d
      ∙ ap (killed_by test d) (sym (get-lives_of s rows d) ∙ ap (λ l. map.get l d) is)

entry_put : (b : Bool) (e : Entry) (o : Option Life) → entry_of (cond b (Some (Live e)) o) ≡ cond b (Some e) (entry_of o)
entry_put true e o = refl
entry_put false e o = refl

-- a dot that is made live has its row
pub live_rows-put : (v : Lived) (d : Dot) (e : Entry) → live_rows (map.insert v d (Live e)) ≡ map.put dot_cmp d e (live_rows v)
live_rows-put v d e =
    same_rows _ _ (rise-live_rows (map.insert v d (Live e))) (rise-put d e (live_rows v) (rise-live_rows v)) (λ q.
    find-live_rows (map.insert v d (Live e)) q
    ∙ ap entry_of (map.get-insert dots_total v d (Live e) q)
    ∙ entry_put (eq_by_cmp dot_cmp q d) e (map.get v q)
    ∙ sym (find-put dot_cmp dots_total q d e (live_rows v) ∙ ap (cond (eq_by_cmp dot_cmp q d) (Some e)) (find-live_rows v q)))

-- an unseen dot has no row
pub no_live_row : (v : Lived) (d : Dot) → map.get v d ≡ None → map.find dot_cmp d (live_rows v) ≡ None
no_live_row v d none = find-live_rows v d ∙ ap entry_of none
