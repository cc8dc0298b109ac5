-- What was found is what the command covers.
use Rattle.std.proofs.Common.{◌≡◌, ℕ, Bool, true, false, not, ◌&&◌, cond, List, [], ◌∷◌, Option, Some, None, refl, sym}
use Rattle.std.proofs.Common.{◌∙◌, ap, eqb, ◌+◌, arith}
use Rattle.std.proofs.lemmas.Bool.Decides.{nat_tests}
use Rattle.std.specs.Prelude.{count_by}
use Rattle.std.specs.Ordering.{eq_by_cmp}
use Rattle.std.specs.List.{list_all}
use Rattle.std.specs.FinMap as map
use Rattle.rds_names.specs.Conditions.{and_left, and_right}
use Rattle.rds_names.specs.declared.entry.Entry.{Entry}
use Rattle.rds_dots.specs.declared.dot.Dot.{Dot}
use Rattle.rds_dots.specs.Ascending.{is_above, ascends}
use Rattle.rds_dots.specs.Dots.{dot_cmp}
use Rattle.rds_dots.specs.Order.{dots_total}
use Rattle.rds_dots.specs.Sets.{tied_dots_are_one as dot_is}
use Rattle.rds_life.specs.Killed.{but_for, killed_by}
use Rattle.rds_life.specs.Life.{Life, Live, Dead, Lived, keys, entry_of, live_rows}
use Rattle.rds_life.proofs.Views.{find-live_rows, rise-live_rows}
use Rattle.rds_life.proofs.RowLemmas.{find_above}
use Rattle.rds_state.specs.Chosen.{is_chosen, same_dot}
use Rattle.rds_state.specs.Edit.{covers}
use Rattle.rds_state.specs.declared.command.Command.{Command}
use Rattle.rds_state.proofs.CountLemmas.{count-cons, counted_one, same_dot-itself, same_dot-tied}

live_of_entry : (o : Option Life) (e : Entry) → entry_of o ≡ Some e → o ≡ Some (Live e)
live_of_entry None e h = cc
live_of_entry (Some (Live f)) e h = ap (λ x. Some (Live x)) (same f e h)
  where
    same : (a b : Entry) → Some a ≡ Some b → a ≡ b
    same a b h = cc
live_of_entry (Some Dead) e h = cc

-- tests that agree on live dots count the same
pub count_alike : (t u : Dot → Entry → Bool) (v : Lived) → ((d : Dot) (e : Entry) → map.get v d ≡ Some (Live e) → t d e ≡ u d e) → count_by (λ (r : Dot × Entry). t r.0 r.1) (live_rows v) ≡ count_by (λ (r : Dot × Entry). u r.0 r.1) (live_rows v)
count_alike t u v alike = over (live_rows v) (rise-live_rows v) (λ d e found. alike d e (live_of_entry _ e (sym (find-live_rows v d) ∙ found)))
  where
    over : (rows : List (Dot × Entry)) → ascends (keys rows) ≡ true → ((d : Dot) (e : Entry) → map.find dot_cmp d rows ≡ Some e → t d e ≡ u d e) → count_by (λ (r : Dot × Entry). t r.0 r.1) rows ≡ count_by (λ (r : Dot × Entry). u r.0 r.1) rows
    over [] rise same = refl
    over (x ∷ rows) rise same =
        count-cons (λ (r : Dot × Entry). t r.0 r.1) x rows
        ∙ ap (λ b. counted_one b + count_by (λ (r : Dot × Entry). t r.0 r.1) rows) (same x.0 x.1 here)
        ∙ ap (λ n. counted_one (u x.0 x.1) + n) (over rows (and_right (list_all (is_above x.0) (keys rows)) _ rise) (λ d e found. same d e (below d e found)))
        ∙ sym (count-cons (λ (r : Dot × Entry). u r.0 r.1) x rows)
      where
        here : map.find dot_cmp x.0 (x ∷ rows) ≡ Some x.1
        here = ap (λ b. cond b (Some x.1) (map.find dot_cmp x.0 rows)) (same_dot-tied x.0 x.0 ∙ same_dot-itself x.0)

        no_value : (e : Entry) → None ≡ Some e → ⊥
        no_value e h = cc

        below : (d : Dot) (e : Entry) → map.find dot_cmp d rows ≡ Some e → map.find dot_cmp d (x ∷ rows) ≡ Some e
        below d e found = elim (eq_by_cmp dot_cmp d x.0) as (λ b. eq_by_cmp dot_cmp d x.0 ≡ b → cond b (Some x.1) (map.find dot_cmp d rows) ≡ Some e) [
          | true ↦ λ is. absurd (no_value e (sym (find_above x.0 rows (and_left _ (ascends (keys rows)) rise)) ∙ ap (λ q. map.find dot_cmp q rows) (sym (dot_is d x.0 is)) ∙ found))
          | false ↦ λ is. found
        ] refl

-- tests that agree on a live dot make it dead both or neither
pub killed_alike : (t u : Dot → Entry → Bool) (d : Dot) (o : Option Life) → ((e : Entry) → o ≡ Some (Live e) → t d e ≡ u d e) → killed_by t d o ≡ killed_by u d o
killed_alike t u d None alike = refl
killed_alike t u d (Some (Live e)) alike = ap (λ b. cond b (Some Dead) (Some (Live e))) (alike e refl)
killed_alike t u d (Some Dead) alike = refl

abbrev pub Finds : (Dot → Entry → Bool) → Command → Lived → Type 0
Finds found c v = (d : Dot) (e : Entry) → map.get v d ≡ Some (Live e) → found d e ≡ covers c e

-- once the new dot is live, what was found is what is chosen
pub found_but : (found : Dot → Entry → Bool) (c : Command) (v : Lived) (new : Dot) (made : Entry) → Finds found c v → (d : Dot) (e : Entry) → map.get (map.insert v new (Live made)) d ≡ Some (Live e) → but_for (Some new) found d e ≡ is_chosen c (Some new) d e
found_but found c v new made finds d e live = elim (same_dot new d) as (λ b. same_dot new d ≡ b → (not b && found d e) ≡ (not b && covers c e)) [
  | true ↦ λ is. refl
  | false ↦ λ is. finds d e (sym (ap (λ b. cond b (Some (Live made)) (map.get v d)) (same_dot-tied d new ∙ turned is)) ∙ sym (map.get-insert dots_total v new (Live made) d) ∙ live)
] refl
  where
    turn : (x y n m : ℕ) → (eqb x y && eqb n m) ≡ (eqb y x && eqb m n)
    turn x y n m = grind (arith, nat_tests)

    turned : same_dot new d ≡ false → same_dot d new ≡ false
    turned is = turn d.replica new.replica d.seq new.seq ∙ is
