-- How many rows a command covers.
use Rattle.std.proofs.Common.{◌≡◌, ℕ, ◌+◌, Bool, true, false, not, ◌&&◌, cond, List, [], ◌∷◌, Some, None, refl, sym}
use Rattle.std.proofs.Common.{◌∙◌, ap, arith, eqb}
use mathlib.Core.Bool.{false≢true}
use Rattle.std.specs.Prelude.{count_by}
use Rattle.std.proofs.lemmas.List.Sums.{sum_by-cons}
use Rattle.std.proofs.lemmas.Bool.Decides.{nat_tests}
use Rattle.std.specs.Ordering.{eq_by_cmp, is_eq}
use Rattle.std.specs.declared.cmp.Ordering.{Ordering}
use Rattle.std.specs.declared.cmp.Ordering.TheVariants.{Less, Equal, Greater}
use Rattle.std.specs.FinMap as map
use Rattle.std.specs.FinMap.Entries.{by_order}
use Rattle.rds_names.specs.declared.entry.Entry.{Entry}
use Rattle.rds_dots.specs.declared.dot.Dot.{Dot}
use Rattle.rds_dots.specs.Dots.{dot_cmp}
use Rattle.rds_dots.specs.Sets.{tied_is}
use Rattle.rds_life.specs.Life.{Lived, Live, live_rows}
use Rattle.rds_life.proofs.Kills.{live_rows-put, no_live_row}
use Rattle.rds_state.specs.Chosen.{is_chosen, same_dot}
use Rattle.rds_state.specs.Edit.{covers}
use Rattle.rds_state.specs.declared.command.Command.{Command}

none_more : (n : ℕ) → 0 + n ≡ n
none_more n = omega arith

abbrev pub counted_one : Bool → ℕ
counted_one b = cond b 1 0

module _ {X : Type 0} where
  pub count-cons : (p : X → Bool) (x : X) (xs : List X) → count_by p (x ∷ xs) ≡ counted_one (p x) + count_by p xs
  count-cons p x xs = sum_by-cons (λ y. cond (p y) 1 0) x xs

  pub count_none : (p : X → Bool) → ((x : X) → p x ≡ false) → (xs : List X) → count_by p xs ≡ 0
  count_none p none [] = refl
  count_none p none (x ∷ xs) = count-cons p x xs ∙ ap (λ b. counted_one b + count_by p xs) (none x) ∙ ap (λ n. 0 + n) (count_none p none xs)

pub same_dot-itself : (d : Dot) → same_dot d d ≡ true
same_dot-itself d = itself d.replica d.seq
  where
    itself : (a b : ℕ) → (eqb a a && eqb b b) ≡ true
    itself a b = grind (arith, nat_tests)

-- both tests of two dots say the same
pub same_dot-tied : (a b : Dot) → eq_by_cmp dot_cmp a b ≡ same_dot a b
same_dot-tied a b = tied_is a.replica b.replica a.seq b.seq

module _ (c : Command) (new : Dot) where
  abbrev chosen : Dot × Entry → Bool
  chosen r = is_chosen c (Some new) r.0 r.1

  abbrev covered : Dot × Entry → Bool
  covered r = covers c r.1

  not_new : (e : Entry) → is_chosen c (Some new) new e ≡ false
  not_new e = ap (λ b. not b && covers c e) (same_dot-itself new)

  another : (r : Dot × Entry) → eq_by_cmp dot_cmp new r.0 ≡ false → chosen r ≡ covered r
  another r h = ap (λ b. not b && covers c r.1) (sym (same_dot-tied new r.0) ∙ h)

  not_here : (r : Dot × Entry) (rows : List (Dot × Entry)) → map.find dot_cmp new (r ∷ rows) ≡ None → (eq_by_cmp dot_cmp new r.0 ≡ false) × (map.find dot_cmp new rows ≡ None)
  not_here r rows h = by (eq_by_cmp dot_cmp new r.0) refl h
    where
      by : (b : Bool) → eq_by_cmp dot_cmp new r.0 ≡ b → cond b (Some r.1) (map.find dot_cmp new rows) ≡ None → (eq_by_cmp dot_cmp new r.0 ≡ false) × (map.find dot_cmp new rows ≡ None)
      by true e k = cc k
      by false e k = (e, k)

  count_same : (rows : List (Dot × Entry)) → map.find dot_cmp new rows ≡ None → count_by chosen rows ≡ count_by covered rows
  count_same [] none = refl
  count_same (r ∷ rows) none =
      let apart = not_here r rows none in
      count-cons chosen r rows ∙ ap (λ b. counted_one b + count_by chosen rows) (another r apart.0) ∙ ap (λ n. counted_one (covered r) + n) (count_same rows apart.1) ∙ sym (count-cons covered r rows)

  count_put : (e : Entry) (rows : List (Dot × Entry)) → map.find dot_cmp new rows ≡ None → count_by chosen (map.put dot_cmp new e rows) ≡ count_by covered rows
  count_put e [] none = count-cons chosen (new, e) [] ∙ ap (λ b. counted_one b + 0) (not_new e)
  count_put e (r ∷ rows) none = by (dot_cmp new r.0) (not_here r rows none).0 (count_put e rows (not_here r rows none).1)
    where
      by : (o : Ordering) → is_eq o ≡ false → count_by chosen (map.put dot_cmp new e rows) ≡ count_by covered rows → count_by chosen (by_order o ((new, e) ∷ r ∷ rows) ((r.0, e) ∷ rows) (r ∷ map.put dot_cmp new e rows)) ≡ count_by covered (r ∷ rows)
      by Less h again = count-cons chosen (new, e) (r ∷ rows) ∙ ap (λ b. counted_one b + count_by chosen (r ∷ rows)) (not_new e) ∙ none_more (count_by chosen (r ∷ rows)) ∙ count_same (r ∷ rows) none
      by Equal h again = absurd (false≢true (sym h))
      by Greater h again = count-cons chosen r (map.put dot_cmp new e rows) ∙ ap (λ b. counted_one b + count_by chosen (map.put dot_cmp new e rows)) (another r (not_here r rows none).0) ∙ ap (λ n. counted_one (covered r) + n) again ∙ sym (count-cons covered r rows)

  -- what is chosen once the new dot is live is what was covered before
  pub count_chosen : (v : Lived) (e : Entry) → map.get v new ≡ None → count_by chosen (live_rows (map.insert v new (Live e))) ≡ count_by covered (live_rows v)
  count_chosen v e none = ap (count_by chosen) (live_rows-put v new e) ∙ count_put e (live_rows v) (no_live_row v new none)
