-- The rows of a certificate lie in their ranges.
use Rattle.std.proofs.Common.{◌≡◌, ℕ, zero, suc, ◌+◌, ◌-◌, ◌<◌, ◌≤◌, Bool, true, false, ◌&&◌, ◌||◌, cond, nat_lt, List}
use Rattle.std.proofs.Common.{[], ◌∷◌, ◌++◌, Option, Some, None, refl, sym, ◌∙◌, ap, subst, arith, leb, inl, inr}
use Rattle.std.specs.Prelude.{map as each, is_some, nat_le}
use Rattle.std.specs.List.{list_all, AllByRecursion}
use Rattle.std.specs.Ordering.{eq_by_cmp, is_eq}
use Rattle.std.specs.declared.cmp.Ordering.{Ordering}
use Rattle.std.specs.declared.cmp.Ordering.TheVariants.{Equal}
use Rattle.std.specs.Cmp.{IsTotalOrder}
use Rattle.std.specs.FinMap as map
use Rattle.std.specs.FinMap.Entries.{find, is_sorted, below_all}
use Rattle.std.proofs.lemmas.Cmp.{tied_itself}
use Rattle.std.proofs.lemmas.Bool.{cases_lt}
use Rattle.std.proofs.lemmas.Bool.Decides.{nat_tests}
use Rattle.rds_dots.specs.declared.dot.Dot.{Dot}
use Rattle.rds_dots.specs.Dots.{is_dot}
use Rattle.rds_dots.specs.Lacking.{dot_of}
use Rattle.rds_dots.specs.Listed.{dots_from}
use Rattle.rds_names.specs.Conditions.{and_left, and_right, true_of, equal_of}
use Rattle.rds_dots.specs.Order.{dots_total, dots_exact}
use Rattle.rds_counts.specs.declared.row.CountRow.{CountRow}
use Rattle.rds_counts.specs.declared.row.TheConstants.{MAX_COUNT}
use Rattle.rds_counts.specs.declared.row.Which.TheVariants.{P, N}
use Rattle.rds_counts.specs.Place.{Place, place_cmp}
use Rattle.rds_counts.specs.PlaceOrder.{place_total, place_exact}
use Rattle.rds_counts.specs.Counted.{Above, Counted, number, number_from, place, counts_of, is_row, AreCountRows}
use Rattle.rds_counts.specs.CountedLemmas.{some, number_in, number-row, get-counts_of}
use Rattle.rds_life.specs.Life.{Life, Live, Dead}
use Rattle.rds_state.specs.Fits.{Fits}
use Rattle.rds_state.specs.Value.{StateValue, coordinates}
use Rattle.rds_delta.specs.declared.row.Row.{Row}
use Rattle.rds_delta.specs.declared.row.Row.TheVariants as rows
use Rattle.rds_delta.specs.Claims.{Claim, OfLive, OfDead, OfCount, claims, claim_at, life_claim, number_claim, spread}
use Rattle.rds_delta.specs.Claims.{spread_all, is_full, IsCertificate}
use Rattle.rds_delta.specs.Least.{IsAbove}
use Rattle.rds_delta.specs.Ranges.{IsRowWithin, AreRowsWithin}
use Rattle.rds_delta.specs.Ranks.{Ranks, life_rank}
use Rattle.rds_delta.proofs.Sizes.{no_entry}

-- the same of claims
abbrev ClaimWithin : ℕ → Claim → Type 0
ClaimWithin n (OfLive d) = (d.replica < n) × (is_dot d ≡ true)
ClaimWithin n (OfDead d p) = (d.replica < n) × (is_dot d ≡ true) × (p ≤ 1)
ClaimWithin n (OfCount q sent peer) = (q.replica < n) × (peer < sent) × (sent ≤ MAX_COUNT)

module _ {X : Type 0} (Q : X → Type 0) where
  pub all_append : (xs ys : List X) → AllByRecursion Q xs → AllByRecursion Q ys → AllByRecursion Q (xs ++ ys)
  all_append [] ys p q = q
  all_append (x ∷ xs) ys p q = (p.0, all_append xs ys p.1 q)

  all_left : (xs ys : List X) → AllByRecursion Q (xs ++ ys) → AllByRecursion Q xs
  all_left [] ys p = tt
  all_left (x ∷ xs) ys p = (p.0, all_left xs ys p.1)

  all_right : (xs ys : List X) → AllByRecursion Q (xs ++ ys) → AllByRecursion Q ys
  all_right [] ys p = p
  all_right (x ∷ xs) ys p = all_right xs ys p.1

  pub all_each : {Y : Type 0} (f : Y → X) (ys : List Y) → AllByRecursion (λ y. Q (f y)) ys → AllByRecursion Q (each f ys)
  all_each f [] p = tt
  all_each f (y ∷ ys) p = (p.0, all_each f ys p.1)

-- what holds of each entry that is found holds of all
module _ {K X : Type 0} (R : K → K → Ordering) (total : IsTotalOrder R) (exact : (x y : K) → R x y ≡ Equal → x ≡ y) (Q : K × X → Type 0) where
  still_found : (e : K × X) (es : List (K × X)) → below_all R e.0 es ≡ true → (k : K) (x : X) → find R k es ≡ Some x → find R k (e ∷ es) ≡ Some x
  still_found e es below k x found =
      elim (eq_by_cmp R k e.0) as (λ b. eq_by_cmp R k e.0 ≡ b → cond b (Some e.1) (find R k es) ≡ Some x) [
        | true ↦ λ is. absurd (gone (find R k es) (ap (λ q. find R q es) (exact k e.0 (equal_of (R k e.0) is)) ∙ no_entry R total exact e.0 es below) found)
        | false ↦ λ _. found
      ] refl
    where
      gone : (o : Option X) → o ≡ None → o ≡ Some x → ⊥
      gone o a b = cc

  all_found : (es : List (K × X)) → is_sorted R es ≡ true → ((k : K) (x : X) → find R k es ≡ Some x → Q (k, x)) → AllByRecursion Q es
  all_found [] rise each = tt
  all_found (e ∷ es) rise each = (
    each e.0 e.1 (ap (λ o. cond (is_eq o) (Some e.1) (find R e.0 es)) (tied_itself total e.0)),
    all_found es (and_right (below_all R e.0 es) _ rise) (λ k x found. each k x (still_found e es (and_left _ (is_sorted R es) rise) k x found)),
  )

  pub all_entries : (m : map.FinMap R X) → ((k : K) (x : X) → map.get m k ≡ Some x → Q (k, x)) → AllByRecursion Q (map.entries m)
  all_entries m each = all_found (map.entries m) (true_of _ (map.entries_sorted m)) (λ k x found. each k x (map.get-entries m k ∙ found))

-- numbers of rows are within their limit
row_numbers : (p n m a : ℕ) → ((nat_lt 0 p || nat_lt 0 n) && nat_le p m && nat_le n m && nat_lt a 256) ≡ true → (p ≤ m) × (n ≤ m)
row_numbers p n m a h = grind (arith, nat_tests)

either : (a b : Bool) (p n rest m : ℕ) → p ≤ m → n ≤ m → rest ≤ m → cond a p (cond b n rest) ≤ m
either true b p n rest m x y z = x
either false true p n rest m x y z = y
either false false p n rest m x y z = z

most_in : (rs : List CountRow) → list_all is_row rs ≡ true → (q : Place) → number_in rs q ≤ MAX_COUNT
most_in [] all q = omega arith
most_in (r ∷ rs) all q =
    let most = row_numbers r.p r.n MAX_COUNT r.replica (and_left (is_row r) _ all) in
    subst (λ n. n ≤ MAX_COUNT) (sym (number-row q r rs))
    (either (eq_by_cmp place_cmp q (place r.key r.replica P) && some r.p) (eq_by_cmp place_cmp q (place r.key r.replica N) && some r.n) r.p r.n (number_in rs q) MAX_COUNT most.0 most.1 (most_in rs (and_right (is_row r) _ all) q))

pub number_most : (m : Counted) (rs : List CountRow) → AreCountRows rs → m ≡ counts_of rs → (q : Place) → number m q ≤ MAX_COUNT
number_most m rs are is q = subst (λ n. n ≤ MAX_COUNT) (get-counts_of rs m (sym is) q) (most_in rs are.are q)

most_rank : (l : Life) → life_rank (Some l) ≤ 2
most_rank (Live e) = omega arith
most_rank Dead = omega arith

module _ (n : ℕ) (b : Ranks) (v : StateValue) (dots : (d : Dot) → is_some (map.get v.lives d) ≡ true → is_dot d ≡ true) (most : (q : Place) → number v.counts q ≤ MAX_COUNT) (fits : Fits n (coordinates v)) (above : IsAbove (coordinates v) b) where
  life_within : (d : Dot) (l : Life) → map.get v.lives d ≡ Some l → ClaimWithin n (life_claim b.rank (d, l))
  life_within d l is = by_life l refl
    where
      seen : is_some (map.get v.lives d) ≡ true
      seen = ap is_some is

      by_life : (k : Life) → l ≡ k → ClaimWithin n (claim_at d (b.rank d) k)
      by_life (Live e) h = (fits.dots d seen, dots d seen)
      by_life Dead h =
          let lt = above.lives d seen in
          let two = most_rank l in
          let same = ap life_rank is in
          (fits.dots d seen, dots d seen, omega arith)

  number_within : (q : Place) (a : Above) → map.get v.counts q ≡ Some a → ClaimWithin n (number_claim b.number (q, a))
  number_within q a is =
      let same : number v.counts q ≡ a.before + 1 = ap number_from is in
      let limit = most q in
      let lt = above.numbers q (omega arith) in
      (fits.numbers q (omega arith), omega arith, omega arith)

  claims_within : AllByRecursion (ClaimWithin n) (claims b v)
  claims_within =
      all_append (ClaimWithin n) (each (life_claim b.rank) (map.entries v.lives)) (each (number_claim b.number) (map.entries v.counts))
      (all_each (ClaimWithin n) (life_claim b.rank) (map.entries v.lives) (all_entries _ dots_total dots_exact (λ e. ClaimWithin n (life_claim b.rank e)) v.lives life_within))
      (all_each (ClaimWithin n) (number_claim b.number) (map.entries v.counts) (all_entries _ place_total place_exact (λ e. ClaimWithin n (number_claim b.number e)) v.counts number_within))

  -- the dots of a run
  in_row : (p replica lo k : ℕ) → AllByRecursion (ClaimWithin n) (each (λ d. OfDead d p) (dots_from replica lo k)) → (m : ℕ) → lo ≤ m → m < lo + k → ClaimWithin n (OfDead (dot_of replica m) p)
  in_row p replica lo zero all m x y = absurd (omega arith)
  in_row p replica lo (suc k) all m x y = elim (cases_lt lo m) [
    | inl lt ↦ in_row p replica (lo + 1) k all.1 m (omega arith) (omega arith)
    | inr ge ↦ (let same : lo ≡ m = omega arith in subst (λ i. ClaimWithin n (OfDead (dot_of replica i) p)) same all.0)
  ]

  le_of : (x y : ℕ) → nat_le x y ≡ true → x ≤ y
  le_of x y h = grind (arith, nat_tests)

  low_of : (a x : ℕ) → (leb a 255 && leb 1 x && leb x 281474976710655) ≡ true → 1 ≤ x
  low_of a x h = grind (arith, nat_tests)

  high_of : (a x : ℕ) → (leb a 255 && leb 1 x && leb x 281474976710655) ≡ true → x ≤ 281474976710655
  high_of a x h = grind (arith, nat_tests)

  row_within : (r : Row) → is_full r ≡ true → AllByRecursion (ClaimWithin n) (spread r) → IsRowWithin n r
  row_within (rows.Live d) full all = all.0
  row_within (rows.Dead r p) full all =
      let le = le_of r.lo r.hi full in
      let first = in_row p r.replica r.lo (r.hi + 1 - r.lo) all r.lo (omega arith) (omega arith) in
      let last = in_row p r.replica r.lo (r.hi + 1 - r.lo) all r.hi le (omega arith) in
      (first.0, record { from_one = low_of r.replica r.lo first.1; rises = le; within = high_of r.replica r.hi last.1 }, first.2)
  row_within (rows.Count key replica which sent peer) full all = all.0

  all_rows : (rs : List Row) → list_all is_full rs ≡ true → AllByRecursion (ClaimWithin n) (spread_all rs) → AreRowsWithin n rs
  all_rows [] full all = tt
  all_rows (r ∷ rs) full all = (
    row_within r (and_left (is_full r) _ full) (all_left (ClaimWithin n) (spread r) (spread_all rs) all),
    all_rows rs (and_right (is_full r) _ full) (all_right (ClaimWithin n) (spread r) (spread_all rs) all),
  )

  pub certificate_within : (rs : List Row) → IsCertificate b v rs → AreRowsWithin n rs
  certificate_within rs is = all_rows rs is.full (subst (AllByRecursion (ClaimWithin n)) (sym is.claimed) claims_within)
