-- Marks add up in any order, so that one row more is one mark more.
use Rattle.std.proofs.Common.{◌≡◌, ℕ, ◌+◌, ◌%◌, ◌^◌, Bool, true, false, cond, List, [], ◌∷◌, Option}
use Rattle.std.proofs.Common.{Some, None, refl, sym, ◌∙◌, ap, arith}
use Rattle.std.specs.Prelude.{fold}
use Rattle.std.specs.Cmp.{tied_itself}
use Rattle.std.specs.Ordering.{eq_by_cmp, is_eq}
use Rattle.std.specs.declared.cmp.Ordering.{Ordering}
use Rattle.std.specs.declared.cmp.Ordering.TheVariants.{Less, Equal, Greater}
use Rattle.std.specs.FinMap as map
use Rattle.std.specs.FinMap.Entries.{by_order}
use Rattle.rds_names.specs.declared.entry.Entry.{Entry}
use Rattle.rds_dots.specs.declared.dot.Dot.{Dot}
use Rattle.rds_dots.specs.Dots.{dot_cmp}
use Rattle.rds_dots.specs.Order.{dots_total, dots_exact}
use Rattle.rds_dots.specs.Sets.{tied_dots_are_one}
use Rattle.rds_life.specs.Life.{Life, Live, Dead, entry_of, live_rows}
use Rattle.rds_life.proofs.Kills.{live_rows-put}
use Rattle.rds_life.proofs.Views.{find-live_rows}
use Rattle.rds_counts.specs.RowsOf.{count_rows}
use Rattle.rds_state.specs.declared.mark.Mark.{Mark}
use Rattle.rds_state.specs.Mark.{count_mark, live_mark, mark_of, no_mark, plus, plus_count, plus_live}
use Rattle.rds_state.specs.Value.{StateValue}

sums_turn : (a b c : ℕ) → ((a + b) % 2 ^ 64 + c) % 2 ^ 64 ≡ ((a + c) % 2 ^ 64 + b) % 2 ^ 64
sums_turn a b c = omega arith

abbrev of_halves : ℕ → ℕ → Mark
of_halves a b = record { high = a; low = b }

same_halves : (a b c d : ℕ) → a ≡ b → c ≡ d → of_halves a c ≡ of_halves b d
same_halves a b c d p q = cc

turn : (m n o : Mark) → plus (plus m n) o ≡ plus (plus m o) n
unfolding plus
turn m n o = same_halves _ _ _ _ (sums_turn m.high n.high o.high) (sums_turn m.low n.low o.low)

-- a mark that was added first may be added last
added_last : {X : Type 0} (f : X → Mark) (m n : Mark) (xs : List X) → fold (λ a x. plus a (f x)) (plus m n) xs ≡ plus (fold (λ a x. plus a (f x)) m xs) n
added_last f m n [] = refl
added_last f m n (x ∷ xs) = ap (λ a. fold (λ b y. plus b (f y)) a xs) (turn m n (f x)) ∙ added_last f (plus m (f x)) n xs

-- one row more, wherever it stands
pub sum-put : (d : Dot) (e : Entry) (rows : List (Dot × Entry)) → map.find dot_cmp d rows ≡ None → (m : Mark) → fold plus_live m (map.put dot_cmp d e rows) ≡ plus (fold plus_live m rows) (live_mark d e)
sum-put d e [] none m = refl
sum-put d e (r ∷ rows) none m = placed (dot_cmp d r.0) none (λ later. sum-put d e rows later (plus_live m r))
  where
    placed : (o : Ordering) → cond (is_eq o) (Some r.1) (map.find dot_cmp d rows) ≡ None
        → (map.find dot_cmp d rows ≡ None → fold plus_live (plus_live m r) (map.put dot_cmp d e rows) ≡ plus (fold plus_live (plus_live m r) rows) (live_mark d e))
        → fold plus_live m (by_order o ((d, e) ∷ r ∷ rows) ((r.0, e) ∷ rows) (r ∷ map.put dot_cmp d e rows)) ≡ plus (fold plus_live m (r ∷ rows)) (live_mark d e)
    placed Less no_row again = added_last (λ (x : Dot × Entry). live_mark x.0 x.1) m (live_mark d e) (r ∷ rows)
    placed Equal no_row again = cc
    placed Greater no_row again = again no_row

-- a dot that is made live adds its mark
pub mark-live : (v : StateValue) (d : Dot) (e : Entry) → entry_of (map.get v.lives d) ≡ None → mark_of (record { lives = map.insert v.lives d (Live e); counts = v.counts }) ≡ plus (mark_of v) (live_mark d e)
unfolding mark_of
mark-live v d e none =
    ap (λ rows. fold plus_count (fold plus_live no_mark rows) (count_rows v.counts)) (live_rows-put v.lives d e)
    ∙ ap (λ m. fold plus_count m (count_rows v.counts)) (sum-put d e (live_rows v.lives) (find-live_rows v.lives d ∙ none) no_mark)
    ∙ added_last count_mark (fold plus_live no_mark (live_rows v.lives)) (live_mark d e) (count_rows v.counts)

life_again : (b : Bool) (l k : Life) (o : Option Life) → (b ≡ true → o ≡ Some l) → cond b (Some l) (cond b (Some k) o) ≡ o
life_again true l k o is = sym (is refl)
life_again false l k o is = refl

-- one that dies takes its mark with it
pub mark-dead : (v : StateValue) (d : Dot) (e : Entry) → map.get v.lives d ≡ Some (Live e) → plus (mark_of (record { lives = map.insert v.lives d Dead; counts = v.counts })) (live_mark d e) ≡ mark_of v
mark-dead v d e is =
    let dead = map.insert v.lives d Dead in
    let at = map.get-insert dots_total v.lives d Dead d ∙ ap (λ o. cond (is_eq o) (Some Dead) (map.get v.lives d)) (tied_itself dots_total d) in
    let back = map.same_map dots_total dots_exact (map.insert dead d (Live e)) v.lives (λ q.
    map.get-insert dots_total dead d (Live e) q
    ∙ ap (cond (eq_by_cmp dot_cmp q d) (Some (Live e))) (map.get-insert dots_total v.lives d Dead q)
    ∙ life_again (eq_by_cmp dot_cmp q d) (Live e) Dead (map.get v.lives q) (λ same. ap (map.get v.lives) (tied_dots_are_one q d same) ∙ is)) in
    sym (mark-live (record { lives = dead; counts = v.counts }) d e (ap entry_of at)) ∙ ap (λ l. mark_of (record { lives = l; counts = v.counts })) back
