-- What the parts of a delta are.
use Rattle.std.proofs.Common.{◌≡◌, ℕ, zero, suc, ◌<◌, ◌≤◌, Bool, true, false, not, ◌&&◌, ◌||◌, cond, nat_lt, List, []}
use Rattle.std.proofs.Common.{◌∷◌, Option, Some, None, refl, sym, ◌∙◌, ap, arith}
use Rattle.std.specs.Prelude.{is_some, nat_le}
use mathlib.Core.Bool.{false≢true}
use Rattle.std.proofs.lemmas.Bool.Decides.{nat_tests}
use Rattle.std.specs.List.{list_all}
use Rattle.std.specs.Ordering.{is_lt, is_eq, eq_by_cmp}
use Rattle.std.specs.Cmp.{tied_itself, nat_cmp_total}
use Rattle.std.specs.Cmp.Lexicographic.{nat_list_cmp_total}
use Rattle.std.specs.FinMap as map
use Rattle.std.specs.FinMap.Entries.{find, find-where_key}
use Rattle.std.specs.FinSet as set
use Rattle.rds_names.specs.declared.entry.Entry.{Entry}
use Rattle.rds_dots.specs.declared.dot.Dot.{Dot}
use Rattle.rds_dots.specs.Dots.{dot_cmp, Dots}
use Rattle.rds_dots.specs.Ascending.{ascends, is_above}
use Rattle.rds_dots.specs.Order.{dots_total, dots_exact}
use Rattle.rds_names.specs.Conditions.{and_true, and_left, and_right, equal_of}
use Rattle.rds_life.specs.Life.{Life, Live, Dead, Lived, keys, life_of, life_in, entry_of, lives_of, AreRows}
use Rattle.rds_life.proofs.LivedLemmas.{get-lives_of}
use Rattle.rds_counts.specs.declared.row.Which.{Which}
use Rattle.rds_counts.specs.declared.row.Which.TheVariants.{P, N}
use Rattle.rds_counts.specs.declared.row.CountRow.{CountRow}
use Rattle.rds_counts.specs.declared.row.TheConstants.{MAX_COUNT}
use Rattle.rds_counts.specs.Place.{Place, place_cmp}
use Rattle.rds_counts.specs.PlaceOrder.{place_exact}
use Rattle.rds_counts.specs.Counted.{Counted, number, place, counts_of, row_cmp, is_row, rows_rise, AreCountRows}
use Rattle.rds_counts.specs.CountedLemmas.{some, number_in, number-row, number_past, get-counts_of}
use Rattle.rds_delta.specs.Ranks.{life_rank}
use Rattle.rds_delta.specs.Digested.{DigestValue, rank_in, IsInside}
use Rattle.rds_delta.specs.Higher.{higher, higher_row, kept_row, higher_rows, unseen_rows, is_sent}

module _ {X : Type 0} (p : Dot → Bool) where
  find-unseen : (d : Dot) (rows : List (Dot × X)) → find dot_cmp d (unseen_rows p rows) ≡ cond (not (p d)) (find dot_cmp d rows) None
  find-unseen d rows = find-where_key dot_cmp (λ q. not (p q)) d (λ x t. ap (λ q. not (p q)) (sym (dots_exact d x t))) rows

  all-unseen : (t : Dot → Bool) (rows : List (Dot × X)) → list_all t (keys rows) ≡ true → list_all t (keys (unseen_rows p rows)) ≡ true
  all-unseen t [] all = refl
  all-unseen t (r ∷ rows) all =
      let again = all-unseen t rows (and_right (t r.0) _ all) in
      elim (not (p r.0)) as (λ b. list_all t (keys (cond b (r ∷ unseen_rows p rows) (unseen_rows p rows))) ≡ true) [ true ↦ and_true (t r.0) _ (and_left (t r.0) _ all) again | false ↦ again ]

  ascends-unseen : (rows : List (Dot × X)) → ascends (keys rows) ≡ true → ascends (keys (unseen_rows p rows)) ≡ true
  ascends-unseen [] rise = refl
  ascends-unseen (r ∷ rows) rise =
      let again = ascends-unseen rows (and_right (list_all (is_above r.0) (keys rows)) _ rise) in
      elim (not (p r.0)) as (λ b. ascends (keys (cond b (r ∷ unseen_rows p rows) (unseen_rows p rows))) ≡ true) [
        | true ↦ and_true _ _ (all-unseen (is_above r.0) rows (and_left _ (ascends (keys rows)) rise)) again
        | false ↦ again
      ]

-- rows are of dots that have them
all_found : (has : Dot → Bool) (rows : List (Dot × Entry)) → ((d : Dot) → is_some (find dot_cmp d rows) ≡ true → has d ≡ true) → list_all (λ r. has r.0) rows ≡ true
all_found has [] h = refl
all_found has (r ∷ rows) h = and_true _ _
    (h r.0 (ap (λ o. is_some (cond (is_eq o) (Some r.1) (find dot_cmp r.0 rows))) (tied_itself dots_total r.0)))
    (all_found has rows (λ d f. h d (more (eq_by_cmp dot_cmp d r.0) (find dot_cmp d rows) f)))
  where
    more : (b : Bool) (o : Option Entry) → is_some o ≡ true → is_some (cond b (Some r.1) o) ≡ true
    more true o f = refl
    more false o f = f

sent_live : (l : Option Life) (seen live : Bool) → is_some (cond (not seen) (entry_of l) None) ≡ true → is_sent l seen live ≡ true
sent_live None true live h = absurd (false≢true h)
sent_live None false live h = absurd (false≢true h)
sent_live (Some (Live e)) true live h = absurd (false≢true h)
sent_live (Some (Live e)) false live h = refl
sent_live (Some Dead) true live h = absurd (false≢true h)
sent_live (Some Dead) false live h = absurd (false≢true h)

sent_life : (l : Option Life) (seen live : Bool) → (live ≡ true → seen ≡ true) → cond (is_sent l seen live) (Some (life_of (cond (not seen) (entry_of l) None))) None ≡ cond (nat_lt (cond live 1 (cond seen 2 0)) (life_rank l)) l None
sent_life None true true h = refl
sent_life None true false h = refl
sent_life None false true h = refl
sent_life None false false h = refl
sent_life (Some (Live e)) true true h = refl
sent_life (Some (Live e)) true false h = refl
sent_life (Some (Live e)) false true h = absurd (false≢true (h refl))
sent_life (Some (Live e)) false false h = refl
sent_life (Some Dead) true true h = refl
sent_life (Some Dead) true false h = refl
sent_life (Some Dead) false true h = refl
sent_life (Some Dead) false false h = refl

module _ (g : DigestValue) (inside : IsInside g.live g.seen) (v : Lived) (s : Dots) (sent : (d : Dot) → set.contains s d ≡ is_sent (map.get v d) (set.contains g.seen d) (set.contains g.live d)) (rows : List (Dot × Entry)) (rise : ascends (keys rows) ≡ true) (entries : (d : Dot) → find dot_cmp d rows ≡ entry_of (map.get v d)) where
  found : (d : Dot) → find dot_cmp d (unseen_rows (set.contains g.seen) rows) ≡ cond (not (set.contains g.seen d)) (entry_of (map.get v d)) None
  found d = find-unseen (set.contains g.seen) d rows ∙ ap (λ o. cond (not (set.contains g.seen d)) o None) (entries d)

  pub sent_rows : AreRows s (unseen_rows (set.contains g.seen) rows)
  sent_rows = record {
    rise = ascends-unseen (set.contains g.seen) rows rise;
    seen_all = all_found (set.contains s) (unseen_rows (set.contains g.seen) rows) (λ d f. sent d ∙ sent_live (map.get v d) (set.contains g.seen d) (set.contains g.live d) (ap is_some (sym (found d)) ∙ f));
  }

  pub sent_lives : (d : Dot) → map.get (lives_of s (unseen_rows (set.contains g.seen) rows)) d ≡ cond (nat_lt (rank_in g d) (life_rank (map.get v d))) (map.get v d) None
  sent_lives d =
      get-lives_of s (unseen_rows (set.contains g.seen) rows) d
      ∙ ap (λ b. cond b (Some (life_in (unseen_rows (set.contains g.seen) rows) d)) None) (sent d)
      ∙ ap (λ o. cond (is_sent (map.get v d) (set.contains g.seen d) (set.contains g.live d)) (Some (life_of o)) None) (found d)
      ∙ sent_life (map.get v d) (set.contains g.seen d) (set.contains g.live d) (inside.each_dot d)

-- numbers
higher_least : (a b : ℕ) → a ≤ MAX_COUNT → higher a b ≤ MAX_COUNT
higher_least a b h = grind (arith, nat_tests)

row_most : (p n m a : ℕ) → ((nat_lt 0 p || nat_lt 0 n) && nat_le p m && nat_le n m && nat_lt a 256) ≡ true → (p ≤ m) × (n ≤ m) × (a < 256)
row_most p n m a h = grind (arith, nat_tests)

row_is : (p n m a : ℕ) → (nat_lt 0 p || nat_lt 0 n) ≡ true → p ≤ m → n ≤ m → a < 256 → ((nat_lt 0 p || nat_lt 0 n) && nat_le p m && nat_le n m && nat_lt a 256) ≡ true
row_is p n m a b c d e = grind (arith, nat_tests)

module _ (peer : Place → ℕ) where
  all-higher : (x : CountRow) (rs : List CountRow) → list_all (λ t. is_lt (row_cmp x t)) rs ≡ true → list_all (λ t. is_lt (row_cmp x t)) (higher_rows peer rs) ≡ true
  all-higher x [] all = refl
  all-higher x (r ∷ rs) all =
      let h = higher_row peer r in
      let again = all-higher x rs (and_right (is_lt (row_cmp x r)) _ all) in
      elim (nat_lt 0 h.p || nat_lt 0 h.n) as (λ b. list_all (λ t. is_lt (row_cmp x t)) (cond b (h ∷ higher_rows peer rs) (higher_rows peer rs)) ≡ true) [
        | true ↦ and_true _ _ (and_left (is_lt (row_cmp x r)) _ all) again
        | false ↦ again
      ]

  rise-higher : (rs : List CountRow) → rows_rise rs ≡ true → rows_rise (higher_rows peer rs) ≡ true
  rise-higher [] rise = refl
  rise-higher (r ∷ rs) rise =
      let h = higher_row peer r in
      let first = and_left (list_all (λ t. is_lt (row_cmp r t)) rs) _ rise in
      let again = rise-higher rs (and_right (list_all (λ t. is_lt (row_cmp r t)) rs) _ rise) in
      elim (nat_lt 0 h.p || nat_lt 0 h.n) as (λ b. rows_rise (cond b (h ∷ higher_rows peer rs) (higher_rows peer rs)) ≡ true) [
        | true ↦ and_true _ _ (all-higher r rs first) again
        | false ↦ again
      ]

  are-higher : (rs : List CountRow) → list_all is_row rs ≡ true → list_all is_row (higher_rows peer rs) ≡ true
  are-higher [] all = refl
  are-higher (r ∷ rs) all =
      let h = higher_row peer r in
      let most = row_most r.p r.n MAX_COUNT r.replica (and_left (is_row r) _ all) in
      let again = are-higher rs (and_right (is_row r) _ all) in
      elim (nat_lt 0 h.p || nat_lt 0 h.n) as (λ b. (nat_lt 0 h.p || nat_lt 0 h.n) ≡ b → list_all is_row (cond b (h ∷ higher_rows peer rs) (higher_rows peer rs)) ≡ true) [
        | true ↦ λ is. and_true _ _ (row_is h.p h.n MAX_COUNT r.replica is (higher_least r.p (peer (place r.key r.replica P)) most.0) (higher_least r.n (peer (place r.key r.replica N)) most.1) most.2) again
        | false ↦ λ _. again
      ] refl

  pub higher_are : (rs : List CountRow) → AreCountRows rs → AreCountRows (higher_rows peer rs)
  higher_are rs are = record { rise = rise-higher rs are.rise; are = are-higher rs are.are }

  -- a row that is left out has no numbers
  zero_sum : (p n : ℕ) → (nat_lt 0 p || nat_lt 0 n) ≡ false → (p ≡ 0) × (n ≡ 0)
  zero_sum p n h = grind (arith, nat_tests)

  drop_zero : (a b : Bool) (p n rest : ℕ) → p ≡ 0 → n ≡ 0 → rest ≡ cond (a && some p) p (cond (b && some n) n rest)
  drop_zero a b zero zero rest x y = plain a b
    where
      plain : (a b : Bool) → rest ≡ cond (a && false) 0 (cond (b && false) 0 rest)
      plain true true = refl
      plain true false = refl
      plain false true = refl
      plain false false = refl
  drop_zero a b zero (suc n) rest x y = absurd (omega arith)
  drop_zero a b (suc p) n rest x y = absurd (omega arith)

  kept_number : (q : Place) (h : CountRow) (rs : List CountRow) → number_in (kept_row h rs) q ≡ cond (eq_by_cmp place_cmp q (place h.key h.replica P) && some h.p) h.p (cond (eq_by_cmp place_cmp q (place h.key h.replica N) && some h.n) h.n (number_in rs q))
  kept_number q h rs =
      elim (nat_lt 0 h.p || nat_lt 0 h.n) as (λ b. (nat_lt 0 h.p || nat_lt 0 h.n) ≡ b → number_in (cond b (h ∷ rs) rs) q ≡ cond (eq_by_cmp place_cmp q (place h.key h.replica P) && some h.p) h.p (cond (eq_by_cmp place_cmp q (place h.key h.replica N) && some h.n) h.n (number_in rs q))) [
        | true ↦ λ _. number-row q h rs
        | false ↦ λ is. let z = zero_sum h.p h.n is in drop_zero _ _ h.p h.n (number_in rs q) z.0 z.1
      ] refl

  higher_some : (b : Bool) (n f rest : ℕ) → (b ≡ true → rest ≡ 0) → cond (b && some (higher n f)) (higher n f) (higher rest f) ≡ higher (cond (b && some n) n rest) f
  higher_some true zero f rest z = one (higher 0 f) (no_zero f)
    where
      no_zero : (f : ℕ) → higher 0 f ≡ 0
      no_zero f = grind (arith, nat_tests)

      one : (x : ℕ) → x ≡ 0 → cond (some x) x (higher rest f) ≡ higher rest f
      one zero e = refl
      one (suc x) e = absurd (omega arith)
  higher_some true (suc n) f rest z = one (higher (suc n) f) refl
    where
      none : (f : ℕ) → higher 0 f ≡ 0
      none f = grind (arith, nat_tests)

      one : (x : ℕ) → higher (suc n) f ≡ x → cond (some x) x (higher rest f) ≡ higher (suc n) f
      one zero e = ap (λ r. higher r f) (z refl) ∙ none f ∙ sym e
      one (suc x) e = sym e
  higher_some false n f rest z = refl

  one_more : (b : Bool) (n f fq rest : ℕ) → (b ≡ true → f ≡ fq) → (b ≡ true → rest ≡ 0) → cond (b && some (higher n f)) (higher n f) (higher rest fq) ≡ higher (cond (b && some n) n rest) fq
  one_more true n f fq rest e z = ap (λ x. cond (some (higher n x)) (higher n x) (higher rest fq)) (e refl) ∙ higher_some true n fq rest z
  one_more false n f fq rest e z = refl

  same_place : (q x : Place) → eq_by_cmp place_cmp q x ≡ true → q ≡ x
  same_place q x h = place_exact q x (equal_of (place_cmp q x) h)

  number-higher : (rs : List CountRow) → rows_rise rs ≡ true → (q : Place) → number_in (higher_rows peer rs) q ≡ higher (number_in rs q) (peer q)
  number-higher [] rise q = none (peer q)
    where
      none : (f : ℕ) → 0 ≡ higher 0 f
      none f = grind (arith, nat_tests)
  number-higher (r ∷ rs) rise q =
      let first = and_left (list_all (λ t. is_lt (row_cmp r t)) rs) _ rise in
      let p = place r.key r.replica P in
      let n = place r.key r.replica N in
      let at_p = eq_by_cmp place_cmp q p in
      let at_n = eq_by_cmp place_cmp q n in
      let up = higher r.p (peer p) in
      kept_number q (higher_row peer r) (higher_rows peer rs)
      ∙ ap (λ x. cond (at_p && some up) up (cond (at_n && some (higher r.n (peer n))) (higher r.n (peer n)) x)) (number-higher rs (and_right (list_all (λ t. is_lt (row_cmp r t)) rs) _ rise) q)
      ∙ ap (λ x. cond (at_p && some up) up x) (one_more at_n r.n (peer n) (peer q) (number_in rs q) (λ is. ap peer (sym (same_place q n is))) (λ is. past N is first))
      ∙ one_more at_p r.p (peer p) (peer q) (cond (at_n && some r.n) r.n (number_in rs q)) (λ is. ap peer (sym (same_place q p is))) (λ is.
      ap (λ b. cond (b && some r.n) r.n (number_in rs q)) (ap (λ x. eq_by_cmp place_cmp x n) (same_place q p is) ∙ apart r.key r.replica) ∙ past P is first)
      ∙ ap (λ x. higher x (peer q)) (sym (number-row q r rs))
    where
      past : (w : Which) → eq_by_cmp place_cmp q (place r.key r.replica w) ≡ true → list_all (λ t. is_lt (row_cmp r t)) rs ≡ true → number_in rs q ≡ 0
      past w is first = ap (number_in rs) (same_place q (place r.key r.replica w) is) ∙ number_past r w rs first

      apart : (k : List ℕ) (n : ℕ) → eq_by_cmp place_cmp (place k n P) (place k n N) ≡ false
      apart k n = rw (tied_itself nat_list_cmp_total k, tied_itself nat_cmp_total n) refl

  pub number_above : (rs : List CountRow) → AreCountRows rs → (m : Counted) → counts_of rs ≡ m → (q : Place) → number (counts_of (higher_rows peer rs)) q ≡ higher (number m q) (peer q)
  number_above rs are m is q = sym (get-counts_of (higher_rows peer rs) (counts_of (higher_rows peer rs)) refl q) ∙ number-higher rs are.rise q ∙ ap (λ n. higher n (peer q)) (get-counts_of rs m is q)
