-- The marks of dots that are listed, each once.
use Rattle.std.proofs.Common.{◌≡◌, suc, Bool, true, false, ◌||◌, cond, List, [], ◌∷◌, Some, refl, sym, ◌∙◌, ap, arith, length}
use Rattle.std.specs.List.{list_all, list_any}
use Rattle.std.specs.Ordering.{eq_by_cmp}
use Rattle.std.specs.FinMap as map
use Rattle.rds_names.specs.Conditions.{and_left, and_right}
use Rattle.rds_names.specs.declared.entry.Entry.{Entry}
use Rattle.rds_dots.specs.Ascending.{ascends, is_above}
use Rattle.rds_dots.specs.declared.dot.Dot.{Dot}
use Rattle.rds_dots.specs.Dots.{dot_cmp}
use Rattle.rds_dots.specs.Sets.{tied_dots_are_one as dot_is}
use Rattle.rds_life.specs.Life.{Lived, entry_of, keys}
use Rattle.rds_life.proofs.RowLemmas.{find_above}
use Rattle.rds_state.specs.declared.mark.Mark.{Mark}
use Rattle.rds_state.specs.Mark.{plus}
use Rattle.rds_tree.specs.Marks.{mark_at, marks_at, marks_of}
use Rattle.rds_tree.proofs.MarkRows.{find_first, find_later, other_dot, row_mark}
use Rattle.rds_tree.proofs.MarkTotals.{total, total-cons, turn}

abbrev has : Dot → List Dot → Bool
has d dots = list_any (λ x. eq_by_cmp dot_cmp x d) dots

-- without the first that is this one
abbrev drop : Dot → List Dot → List Dot
drop d [] = []
drop d (x ∷ dots) = cond (eq_by_cmp dot_cmp x d) dots (x ∷ drop d dots)

module _ (f : Dot → Mark) (d : Dot) where
  total-drop : (dots : List Dot) → has d dots ≡ true → total f dots ≡ plus (total f (drop d dots)) (f d)
  total-drop [] h = absurd (cc)
  total-drop (x ∷ dots) h = total-cons f x dots ∙ by (eq_by_cmp dot_cmp x d) refl h (λ there. total-drop dots there)
    where
      by : (b : Bool) → eq_by_cmp dot_cmp x d ≡ b → (b || has d dots) ≡ true → (has d dots ≡ true → total f dots ≡ plus (total f (drop d dots)) (f d)) → plus (total f dots) (f x) ≡ plus (total f (cond b dots (x ∷ drop d dots))) (f d)
      by true is g again = ap (λ q. plus (total f dots) (f q)) (dot_is x d is)
      by false is g again =
          ap (λ m. plus m (f x)) (again g)
          ∙ turn (total f (drop d dots)) (f d) (f x)
          ∙ ap (λ m. plus m (f d)) (sym (total-cons f x (drop d dots)))

length-drop : (d : Dot) (dots : List Dot) → has d dots ≡ true → length dots ≡ suc (length (drop d dots))
length-drop d [] h = absurd (cc)
length-drop d (x ∷ dots) h = by (eq_by_cmp dot_cmp x d) h (λ there. length-drop d dots there)
  where
    by : (b : Bool) → (b || has d dots) ≡ true → (has d dots ≡ true → length dots ≡ suc (length (drop d dots))) → length (x ∷ dots) ≡ suc (length (cond b dots (x ∷ drop d dots)))
    by true g again = refl
    by false g again = ap suc (again g)

has-drop : (d q : Dot) → eq_by_cmp dot_cmp q d ≡ false → (dots : List Dot) → has q dots ≡ true → has q (drop d dots) ≡ true
has-drop d q other [] h = h
has-drop d q other (x ∷ dots) h = by (eq_by_cmp dot_cmp x d) refl (λ there. has-drop d q other dots there)
  where
    not_both : (b : Bool) → b ≡ true → b ≡ false → ⊥
    not_both true p n = cc
    not_both false p n = cc

    past : (b : Bool) → eq_by_cmp dot_cmp x q ≡ b → (b || has q dots) ≡ true → eq_by_cmp dot_cmp x d ≡ true → has q dots ≡ true
    past true same g is = absurd (not_both (eq_by_cmp dot_cmp q d) (ap (λ y. eq_by_cmp dot_cmp y d) (sym (dot_is x q same)) ∙ is) other)
    past false same g is = g

    either : (b : Bool) → (b || has q dots) ≡ true → (has q dots ≡ true → has q (drop d dots) ≡ true) → (b || has q (drop d dots)) ≡ true
    either true g again = refl
    either false g again = again g

    by : (b : Bool) → eq_by_cmp dot_cmp x d ≡ b → (has q dots ≡ true → has q (drop d dots) ≡ true) → has q (cond b dots (x ∷ drop d dots)) ≡ true
    by true is again = past (eq_by_cmp dot_cmp x q) refl h is
    by false is again = either (eq_by_cmp dot_cmp x q) h again

none_left : (dots : List Dot) → length dots ≡ 0 → dots ≡ []
none_left [] h = refl
none_left (x ∷ dots) h = absurd (omega (arith, h))

-- as many dots as rows, with each row's among them, have the rows' marks
pub dots_as_rows : (v : Lived) (rows : List (Dot × Entry)) (dots : List Dot) → ascends (keys rows) ≡ true
    → ((d : Dot) (e : Entry) → map.find dot_cmp d rows ≡ Some e → (entry_of (map.get v d) ≡ Some e) × (has d dots ≡ true))
    → length dots ≡ length rows → marks_at v dots ≡ marks_of rows
dots_as_rows v [] dots rise are many = ap (marks_at v) (none_left dots many)
dots_as_rows v (r ∷ rows) dots rise are many =
    let at : Dot → Mark = λ d. mark_at d (entry_of (map.get v d)) in
    let own = are r.0 r.1 (find_first r rows) in
    let later = find_above r.0 rows (and_left _ (ascends (keys rows)) rise) in
    let fewer = length-drop r.0 dots own.1 in
    total-drop at r.0 dots own.1
    ∙ ap (λ m. plus m (at r.0)) (dots_as_rows v rows (drop r.0 dots) (and_right (list_all (is_above r.0) (keys rows)) _ rise)
    (λ d e there. let both = are d e (find_later r rows d e later there) in (both.0, has-drop r.0 d (other_dot r.0 d rows e later there) dots both.1))
    (omega (arith, many, fewer)))
    ∙ ap (λ o. plus (marks_of rows) (mark_at r.0 o)) own.0
    ∙ sym (total-cons row_mark r rows)
