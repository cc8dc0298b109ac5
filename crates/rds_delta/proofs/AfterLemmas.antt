-- The dots after a dot, one by one and in runs.
use Rattle.std.proofs.Common.{◌≡◌, ℕ, zero, suc, ◌+◌, ◌-◌, ◌<◌, ◌≤◌, Bool, true, false, not, cond, ◌&&◌, ◌==◌, List, []}
use Rattle.std.proofs.Common.{◌∷◌, ◌++◌, Option, Some, None, refl, sym, ◌∙◌, ap, subst, arith}
use Rattle.std.specs.Prelude.{map as each, nat_le, is_some}
use lib.Dec.{T}
use mathlib.Core.Bool.{false≢true}
use Rattle.std.specs.List.{filter}
use Rattle.std.specs.Ordering.{nat_cmp, ordering_then, is_lt, is_eq, eq_by_cmp}
use Rattle.std.specs.Cmp.{tied_itself}
use Rattle.std.specs.declared.cmp.Ordering.{Ordering}
use Rattle.std.specs.declared.cmp.Ordering.TheVariants.{Less, Equal, Greater}
use Rattle.std.specs.FinMap as map
use Rattle.std.specs.FinMap.Entries.{find, is_sorted, below_all, is_sorted-where_key, find-where_key, same_entries}
use Rattle.std.proofs.lemmas.Bool.Decides.{nat_tests}
use Rattle.rds_dots.specs.declared.dot.Dot.{Dot}
use Rattle.rds_dots.specs.declared.dot.Run.{Run}
use Rattle.rds_dots.specs.Dots.{dot_cmp, first_of, last_of, comes_after}
use Rattle.rds_dots.specs.Lacking.{dot_of}
use Rattle.rds_dots.specs.Listed.{dots_from}
use Rattle.rds_dots.specs.Order.{dots_total, dots_exact, before_after, after_before}
use Rattle.rds_names.specs.Conditions.{and_true, less_of, true_of}
use Rattle.rds_life.specs.Life.{Life, Live, Dead, Lived, entry_of}
use Rattle.rds_delta.specs.declared.row.Row.{Row}
use Rattle.rds_delta.specs.declared.row.Row.TheVariants as rows
use Rattle.rds_delta.specs.Claims.{OfLive, OfDead, claim_at, life_claim, spread, goes_on, stops_before}
use Rattle.rds_delta.specs.Grouped.{dead_front, front, grouped_onto}
use Rattle.rds_delta.proofs.Grouping.{rows_of_claims-append, row_onto}
use Rattle.rds_delta.specs.Next.{IsGap, IsNextLive, IsNextDead}
use Rattle.rds_delta.specs.Rest.{after_of, claims_after, is_flat}

to_T : (b : Bool) → b ≡ true → T b
to_T b h = subst T (sym h) tt

find-after : (v : Lived) (after : Option Dot) (q : Dot) → find dot_cmp q (after_of after v) ≡ cond (comes_after after q) (map.get v q) None
find-after v after q =
    find-where_key dot_cmp (comes_after after) q (λ x t. ap (comes_after after) (sym (dots_exact q x t))) (map.entries v)
    ∙ ap (λ o. cond (comes_after after q) o None) (sym (map.get-entries v q))

sorted-after : (v : Lived) (after : Option Dot) → T (is_sorted dot_cmp (after_of after v))
sorted-after v after = is_sorted-where_key dot_cmp (comes_after after) (map.entries v) (map.entries_sorted v)

below_kept : (d : Dot) (es : List (Dot × Life)) → below_all dot_cmp d (filter (λ e. comes_after (Some d) e.0) es) ≡ true
below_kept d [] = refl
below_kept d (e ∷ es) =
    elim (is_lt (dot_cmp d e.0)) as (λ b. is_lt (dot_cmp d e.0) ≡ b → below_all dot_cmp d (cond b (e ∷ filter (λ x. comes_after (Some d) x.0) es) (filter (λ x. comes_after (Some d) x.0) es)) ≡ true) [
      | true ↦ λ lt. and_true _ _ lt (below_kept d es)
      | false ↦ λ _. below_kept d es
    ] refl

-- nothing is left where nothing comes after
pub after_none : (v : Lived) (after : Option Dot) → ((d : Dot) → comes_after after d ≡ true → map.get v d ≡ None) → after_of after v ≡ []
after_none v after none = same_entries dot_cmp dots_total dots_exact (after_of after v) [] (sorted-after v after) tt (λ q. find-after v after q ∙ gone q (comes_after after q) refl)
  where
    gone : (q : Dot) (b : Bool) → comes_after after q ≡ b → cond b (map.get v q) None ≡ None
    gone q true h = none q h
    gone q false h = refl

trans_after : (after : Option Dot) (d q : Dot) → comes_after after d ≡ true → is_lt (dot_cmp d q) ≡ true → comes_after after q ≡ true
trans_after None d q a b = refl
trans_after (Some x) d q a b = ap is_lt (dots_total.trans x d q (less_of (dot_cmp x d) a) (less_of (dot_cmp d q) b))

-- the next dot is the first that is left
pub after_next : (v : Lived) (after : Option Dot) (d : Dot) (l : Life) → map.get v d ≡ Some l → comes_after after d ≡ true → IsGap v after d → after_of after v ≡ (d, l) ∷ after_of (Some d) v
after_next v after d l here comes gap =
    same_entries dot_cmp dots_total dots_exact (after_of after v) ((d, l) ∷ after_of (Some d) v) (sorted-after v after)
    (to_T _ (and_true _ _ (below_kept d (map.entries v)) (true_of _ (sorted-after v (Some d)))))
    (λ q. find-after v after q ∙ sym (ap (cond (eq_by_cmp dot_cmp q d) (Some l)) (find-after v (Some d) q) ∙ at q (dot_cmp q d) refl))
  where
    at : (q : Dot) (o : Ordering) → dot_cmp q d ≡ o → cond (eq_by_cmp dot_cmp q d) (Some l) (cond (comes_after (Some d) q) (map.get v q) None) ≡ cond (comes_after after q) (map.get v q) None
    at q Less h =
        ap (λ o. cond (is_eq o) (Some l) (cond (comes_after (Some d) q) (map.get v q) None)) h
        ∙ ap (λ o. cond (is_lt o) (map.get v q) None) (before_after q d h)
        ∙ none q (comes_after after q) refl (ap is_lt h)
      where
        none : (q : Dot) (b : Bool) → comes_after after q ≡ b → is_lt (dot_cmp q d) ≡ true → None ≡ cond b (map.get v q) None
        none q true c lt = sym (gap q c lt)
        none q false c lt = refl
    at q Equal h =
        ap (λ o. cond (is_eq o) (Some l) (cond (comes_after (Some d) q) (map.get v q) None)) h
        ∙ sym (ap (λ x. cond (comes_after after x) (map.get v x) None) (dots_exact q d h) ∙ ap (λ b. cond b (map.get v d) None) comes ∙ here)
    at q Greater h =
        ap (λ o. cond (is_eq o) (Some l) (cond (comes_after (Some d) q) (map.get v q) None)) h
        ∙ ap (λ o. cond (is_lt o) (map.get v q) None) (after_before q d h)
        ∙ sym (ap (λ b. cond b (map.get v q) None) (trans_after after d q comes (ap is_lt (after_before q d h))))

between : (r a n s : ℕ) → is_lt (ordering_then (nat_cmp r a) (nat_cmp n s)) ≡ true → is_lt (ordering_then (nat_cmp a r) (nat_cmp s (n + 1))) ≡ true → ⊥
between r a n s p q = grind (arith, nat_tests)

-- dead dots in a row
after_run : (v : Lived) (replica lo n : ℕ) → ((m : ℕ) → lo < m → m ≤ lo + n → map.get v (dot_of replica m) ≡ Some Dead) → after_of (Some (dot_of replica lo)) v ≡ each (λ d. (d, Dead)) (dots_from replica (lo + 1) n) ++ after_of (Some (dot_of replica (lo + n))) v
after_run v replica lo zero dead = let e : lo ≡ lo + 0 = omega arith in ap (λ m. after_of (Some (dot_of replica m)) v) e
after_run v replica lo (suc n) dead =
    let e : (lo + 1) + n ≡ lo + suc n = omega arith in
    after_next v (Some (dot_of replica lo)) (dot_of replica (lo + 1)) Dead (dead (lo + 1) (omega arith) (omega arith)) (next replica lo) (λ q a b. absurd (between replica q.replica lo q.seq a b))
    ∙ ap (λ es. (dot_of replica (lo + 1), Dead) ∷ es) (after_run v replica (lo + 1) n (λ m a b. dead m (omega arith) (omega arith)))
    ∙ ap (λ m. (dot_of replica (lo + 1), Dead) ∷ (each (λ d. (d, Dead)) (dots_from replica ((lo + 1) + 1) n) ++ after_of (Some (dot_of replica m)) v)) e
  where
    next : (replica lo : ℕ) → is_lt (ordering_then (nat_cmp replica replica) (nat_cmp lo (lo + 1))) ≡ true
    next replica lo = grind (arith, nat_tests)

pub after_dead : (v : Lived) (after : Option Dot) (peer : Dot → ℕ) (r : Run) (p : ℕ) → IsNextDead peer v after r p → after_of after v ≡ each (λ d. (d, Dead)) (dots_from r.replica r.lo (r.hi + 1 - r.lo)) ++ after_of (Some (last_of r)) v
after_dead v after peer r p next =
    let rises = next.is_run.rises in
    let n = r.hi - r.lo in
    let count : suc n ≡ r.hi + 1 - r.lo = omega arith in
    let last : r.lo + n ≡ r.hi = omega arith in
    after_next v after (first_of r) Dead (next.dead r.lo (omega arith) rises) next.follows next.gap
    ∙ ap (λ es. (first_of r, Dead) ∷ es) (after_run v r.replica r.lo n (λ m a b. next.dead m (omega arith) (omega arith)))
    ∙ ap (λ k. each (λ d. (d, Dead)) (dots_from r.replica r.lo k) ++ after_of (Some (dot_of r.replica (r.lo + n))) v) count
    ∙ ap (λ m. each (λ d. (d, Dead)) (dots_from r.replica r.lo (r.hi + 1 - r.lo)) ++ after_of (Some (dot_of r.replica m)) v) last

-- the claims of dead dots of one rank
each_dead : (peer : Dot → ℕ) (p replica lo n : ℕ) (es : List (Dot × Life)) → ((m : ℕ) → lo ≤ m → m < lo + n → peer (dot_of replica m) ≡ p) → each (life_claim peer) (each (λ d. (d, Dead)) (dots_from replica lo n) ++ es) ≡ each (λ d. OfDead d p) (dots_from replica lo n) ++ each (life_claim peer) es
each_dead peer p replica lo zero es same = refl
each_dead peer p replica lo (suc n) es same =
    ap (λ k. OfDead (dot_of replica lo) k ∷ each (life_claim peer) (each (λ d. (d, Dead)) (dots_from replica (lo + 1) n) ++ es)) (same lo (omega arith) (omega arith))
    ∙ ap (λ cs. OfDead (dot_of replica lo) p ∷ cs) (each_dead peer p replica (lo + 1) n es (λ m a b. same m (omega arith) (omega arith)))

not_goes : (a b p q lo hi : ℕ) → (a ≡ b → p ≡ q → lo ≡ hi + 1 → ⊥) → not ((a == b) && (p == q) && (lo == hi + 1)) ≡ true
not_goes a b p q lo hi h = grind (arith, nat_tests)

-- nothing goes on from a run into a dead dot that isn't the next, or of another rank
stops_dead : (r : Run) (p : ℕ) (d : Dot) (q : ℕ) (rs : List Row) → (r.replica ≡ d.replica → p ≡ q → d.seq ≡ r.hi + 1 → ⊥) → stops_before (rows.Dead r p) (dead_front d q rs) ≡ true
stops_dead r p d q [] h = not_goes r.replica d.replica p q d.seq r.hi h
stops_dead r p d q (rows.Live e ∷ rs) h = not_goes r.replica d.replica p q d.seq r.hi h
stops_dead r p d q (rows.Count key replica which sent peer ∷ rs) h = not_goes r.replica d.replica p q d.seq r.hi h
stops_dead r p d q (rows.Dead s u ∷ rs) h =
    let run = λ (hi : ℕ). (let x : Run = record { replica = d.replica; lo = d.seq; hi = hi } in x) in
    elim (goes_on (rows.Dead (run d.seq) q) (rows.Dead s u)) as (λ b. stops_before (rows.Dead r p) (cond b (rows.Dead (run s.hi) q ∷ rs) (rows.Dead (run d.seq) q ∷ rows.Dead s u ∷ rs)) ≡ true) [
      | true ↦ not_goes r.replica d.replica p q d.seq r.hi h
      | false ↦ not_goes r.replica d.replica p q d.seq r.hi h
    ]

stops_flat : (r : Run) (p : ℕ) (rs : List Row) → is_flat rs ≡ true → stops_before (rows.Dead r p) rs ≡ true
stops_flat r p [] h = refl
stops_flat r p (rows.Live d ∷ rs) h = refl
stops_flat r p (rows.Dead s u ∷ rs) h = absurd (false≢true h)
stops_flat r p (rows.Count key replica which sent peer ∷ rs) h = refl

-- the first entry after a dot stands in the map
first_after : (v : Lived) (after : Option Dot) (e : Dot × Life) (es : List (Dot × Life)) → after_of after v ≡ e ∷ es → map.get v e.0 ≡ Some e.1
first_after v after e es is =
    let found : find dot_cmp e.0 (after_of after v) ≡ Some e.1 = ap (find dot_cmp e.0) is ∙ ap (λ o. cond (is_eq o) (Some e.1) (find dot_cmp e.0 es)) (tied_itself dots_total e.0) in
    pick (comes_after after e.0) (sym (find-after v after e.0) ∙ found)
  where
    pick : (b : Bool) → cond b (map.get v e.0) None ≡ Some e.1 → map.get v e.0 ≡ Some e.1
    pick true h = h
    pick false h = cc h

stops_list : (v : Lived) (after : Option Dot) (peer : Dot → ℕ) (r : Run) (p : ℕ) → IsNextDead peer v after r p → (last : Option Dot) (es : List (Dot × Life)) → after_of last v ≡ es → (more : List Row) → is_flat more ≡ true → stops_before (rows.Dead r p) (grouped_onto (each (life_claim peer) es) more) ≡ true
stops_list v after peer r p next last [] is more flat = stops_flat r p more flat
stops_list v after peer r p next last (e ∷ es) is more flat = by_life e.1 refl
  where
    by_life : (l : Life) → e.1 ≡ l → stops_before (rows.Dead r p) (front (claim_at e.0 (peer e.0) l) (grouped_onto (each (life_claim peer) es) more)) ≡ true
    by_life (Live x) h = refl
    by_life Dead h = stops_dead r p e.0 (peer e.0) (grouped_onto (each (life_claim peer) es) more) (λ a b c.
        let at : e.0 ≡ dot_of r.replica (r.hi + 1) = (λ i. let d : Dot = record { replica = sym a i; seq = c i } in d) in
        next.ends (ap (map.get v) (sym at) ∙ first_after v last e es is ∙ ap Some h) (ap peer (sym at) ∙ sym b))

-- the steps of a certificate's dot rows
pub step_none : (peer : Dot → ℕ) (v : Lived) (after : Option Dot) (more : List Row) → ((d : Dot) → comes_after after d ≡ true → map.get v d ≡ None) → claims_after peer v after more ≡ more
step_none peer v after more none = ap (λ es. grouped_onto (each (life_claim peer) es) more) (after_none v after none)

is_some_live : (o : Option Life) → is_some (entry_of o) ≡ true → (l : Life) × (o ≡ Some l) × ((d : Dot) (k : ℕ) → claim_at d k l ≡ OfLive d)
is_some_live None h = absurd (false≢true h)
is_some_live (Some (Live e)) h = (Live e, refl, λ d k. refl)
is_some_live (Some Dead) h = absurd (false≢true h)

pub step_live : (peer : Dot → ℕ) (v : Lived) (after : Option Dot) (d : Dot) (p : ℕ) (more : List Row) → IsNextLive peer v after d p → claims_after peer v after more ≡ rows.Live d ∷ claims_after peer v (Some d) more
step_live peer v after d p more next =
    let l = is_some_live (map.get v d) next.live in
    ap (λ es. grouped_onto (each (life_claim peer) es) more) (after_next v after d l.0 l.1 next.follows next.gap)
    ∙ ap (λ c. front c (claims_after peer v (Some d) more)) (l.2 d (peer d))

full_le : (a b : ℕ) → a ≤ b → nat_le a b ≡ true
full_le a b h = grind (arith, nat_tests)

pub step_dead : (peer : Dot → ℕ) (v : Lived) (after : Option Dot) (r : Run) (p : ℕ) (more : List Row) → is_flat more ≡ true → IsNextDead peer v after r p → claims_after peer v after more ≡ rows.Dead r p ∷ claims_after peer v (Some (last_of r)) more
step_dead peer v after r p more flat next =
    let rises = next.is_run.rises in
    let end : r.lo + (r.hi + 1 - r.lo) ≡ r.hi + 1 = omega arith in
    ap (λ es. grouped_onto (each (life_claim peer) es) more) (after_dead v after peer r p next)
    ∙ ap (λ cs. grouped_onto cs more) (each_dead peer p r.replica r.lo (r.hi + 1 - r.lo) (after_of (Some (last_of r)) v) (λ m a b. next.rank m a (omega arith)))
    ∙ rows_of_claims-append (spread (rows.Dead r p)) (each (life_claim peer) (after_of (Some (last_of r)) v)) more
    ∙ row_onto (rows.Dead r p) (claims_after peer v (Some (last_of r)) more) (full_le r.lo r.hi rises)
    (stops_list v after peer r p next (Some (last_of r)) (after_of (Some (last_of r)) v) refl more flat)
