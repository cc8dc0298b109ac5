-- Lives with one dot's life changed.
use Rattle.std.proofs.Common.{◌≡◌, Bool, true, false, ◌||◌, cond, List, Option, Some, None, refl, sym, ◌∙◌, ap}
use Rattle.std.specs.Ordering.{eq_by_cmp}
use Rattle.std.specs.FinMap as map
use Rattle.std.specs.FinSet as set
use Rattle.rds_names.specs.declared.entry.Entry.{Entry}
use Rattle.rds_dots.specs.declared.dot.Dot.{Dot}
use Rattle.rds_dots.specs.Dots.{dot_cmp, Dots}
use Rattle.rds_dots.specs.Ascending.{ascends}
use Rattle.rds_dots.specs.Order.{dots_total, dots_exact}
use Rattle.rds_dots.specs.Sets.{tied_dots_are_one}
use Rattle.rds_life.specs.Life.{Live, Dead, keys, life_of, lives_of, AreRows}
use Rattle.rds_life.specs.Removed.{rows_without}
use Rattle.rds_life.proofs.LivedLemmas.{get-lives_of, find_unseen, are_rows_of}
use Rattle.std.specs.FinMap.Entries.{find-put}
use Rattle.rds_life.proofs.Puts.{rise-put, find-without, rise-without}

chosen : (a c : Bool) (o x : Option Entry) → cond (a || c) (Some (life_of (cond a o x))) None ≡ cond a (Some (life_of o)) (cond c (Some (life_of x)) None)
chosen true c o x = refl
chosen false c o x = refl

-- a dot that is put into the set, with a row or without, has that life
lives_of-change : (s : Dots) (rows later : List (Dot × Entry)) (d : Dot) (o : Option Entry) → ((q : Dot) → map.find dot_cmp q later ≡ cond (eq_by_cmp dot_cmp q d) o (map.find dot_cmp q rows)) → lives_of (set.insert s d) later ≡ map.insert (lives_of s rows) d (life_of o)
lives_of-change s rows later d o found = map.same_map dots_total dots_exact _ _ (λ q.
    get-lives_of (set.insert s d) later q
    ∙ ap (λ b. cond b (Some (life_of (map.find dot_cmp q later))) None) (set.contains-insert dots_total s d q)
    ∙ ap (λ x. cond (eq_by_cmp dot_cmp q d || set.contains s q) (Some (life_of x)) None) (found q)
    ∙ chosen (eq_by_cmp dot_cmp q d) (set.contains s q) o (map.find dot_cmp q rows)
    ∙ sym (map.get-insert dots_total (lives_of s rows) d (life_of o) q ∙ ap (cond (eq_by_cmp dot_cmp q d) (Some (life_of o))) (get-lives_of s rows q)))

absent : (b c : Bool) (o x : Option Entry) → (b || c) ≡ false → (c ≡ false → x ≡ None) → cond b o x ≡ None
absent true c o x h none = cc
absent false c o x h none = none h

rows-change : (s : Dots) (rows later : List (Dot × Entry)) (d : Dot) (o : Option Entry) → AreRows s rows → ascends (keys later) ≡ true → ((q : Dot) → map.find dot_cmp q later ≡ cond (eq_by_cmp dot_cmp q d) o (map.find dot_cmp q rows)) → AreRows (set.insert s d) later
rows-change s rows later d o are rise found = are_rows_of (set.insert s d) later rise (λ q fails.
    found q ∙ absent (eq_by_cmp dot_cmp q d) (set.contains s q) o (map.find dot_cmp q rows) (sym (set.contains-insert dots_total s d q) ∙ fails) (find_unseen s rows are q))

module _ (s : Dots) (rows : List (Dot × Entry)) (d : Dot) (are : AreRows s rows) where
  -- a dot with a new row is live
  pub lives_of-put : (e : Entry) → lives_of (set.insert s d) (map.put dot_cmp d e rows) ≡ map.insert (lives_of s rows) d (Live e)
  lives_of-put e = lives_of-change s rows (map.put dot_cmp d e rows) d (Some e) (λ q. find-put dot_cmp dots_total q d e rows)

  pub rows-put : (e : Entry) → AreRows (set.insert s d) (map.put dot_cmp d e rows)
  rows-put e = rows-change s rows (map.put dot_cmp d e rows) d (Some e) are (rise-put d e rows are.rise) (λ q. find-put dot_cmp dots_total q d e rows)

  -- a dot without its row is dead
  lives_of-without-new : lives_of (set.insert s d) (rows_without d rows) ≡ map.insert (lives_of s rows) d Dead
  lives_of-without-new = lives_of-change s rows (rows_without d rows) d None (find-without d rows)

  in_already : (b : Bool) (q : Dot) → set.contains s d ≡ true → eq_by_cmp dot_cmp q d ≡ b → (b || set.contains s q) ≡ set.contains s q
  in_already true q has is = sym (ap (set.contains s) (tied_dots_are_one q d is) ∙ has)
  in_already false q has is = refl

  insert_again : set.contains s d ≡ true → set.insert s d ≡ s
  insert_again has = set.same_set dots_total dots_exact _ _ (λ q. set.contains-insert dots_total s d q ∙ in_already (eq_by_cmp dot_cmp q d) q has refl)

  pub lives_of-without : set.contains s d ≡ true → lives_of s (rows_without d rows) ≡ map.insert (lives_of s rows) d Dead
  lives_of-without has = ap (λ t. lives_of t (rows_without d rows)) (sym (insert_again has)) ∙ lives_of-without-new

  pub rows-without : AreRows s (rows_without d rows)
  rows-without = are_rows_of s (rows_without d rows) (rise-without d rows are.rise) (λ q fails. find-without d rows q ∙ gone q (eq_by_cmp dot_cmp q d) (find_unseen s rows are q fails))
    where
      gone : (q : Dot) (b : Bool) → map.find dot_cmp q rows ≡ None → cond b None (map.find dot_cmp q rows) ≡ None
      gone q true none = refl
      gone q false none = none

  unseen_stays : set.contains s d ≡ false → (q : Dot) (b : Bool) → eq_by_cmp dot_cmp q d ≡ b → map.find dot_cmp q rows ≡ cond b None (map.find dot_cmp q rows)
  unseen_stays fails q true is = ap (λ x. map.find dot_cmp x rows) (tied_dots_are_one q d is) ∙ find_unseen s rows are d fails
  unseen_stays fails q false is = refl

  -- an unseen dot that is put into the set is dead
  pub lives_of-insert : set.contains s d ≡ false → lives_of (set.insert s d) rows ≡ map.insert (lives_of s rows) d Dead
  lives_of-insert fails = lives_of-change s rows rows d None (λ q. unseen_stays fails q (eq_by_cmp dot_cmp q d) refl)

  pub rows-insert : AreRows (set.insert s d) rows
  rows-insert = are_rows_of (set.insert s d) rows are.rise (λ q fails. find_unseen s rows are q (neither (eq_by_cmp dot_cmp q d) (set.contains s q) (sym (set.contains-insert dots_total s d q) ∙ fails)))
    where
      neither : (a b : Bool) → (a || b) ≡ false → b ≡ false
      neither true b h = cc
      neither false b h = h
