-- The certificate of a delta that has a text has one too.
use Rattle.std.proofs.Common.{◌≡◌, ℕ, zero, suc, ◌+◌, ◌-◌, ◌<◌, ◌≤◌, true, false, cond, leb, ltb, ◌&&◌, ◌||◌, List, [], ◌∷◌, ◌++◌, Option, Some, None, refl, sym, ap, subst, ◌∙◌, arith}
use mathlib.Core.Bool.{false≢true}
use Rattle.std.specs.Prelude.{is_some, map as each}
use Rattle.std.specs.List.{AllByRecursion, list_all}
use Rattle.std.specs.Cmp.{IsTotalOrder, tied_itself}
use Rattle.std.specs.Ordering.{is_eq, is_lt}
use Rattle.std.specs.declared.cmp.Ordering.{Ordering}
use Rattle.std.specs.declared.cmp.Ordering.TheVariants.{Equal}
use Rattle.std.specs.FinMap as map
use Rattle.std.specs.FinMap.Entries.{below_all}
use Rattle.std.specs.FinSet as set
use Rattle.std.proofs.lemmas.Bool.{leb-true}
use Rattle.rds_names.specs.Conditions.{true_of, and_left, and_right, less_of, equal_of}
use Rattle.rds_dots.specs.declared.dot.Dot.{Dot}
use Rattle.rds_dots.specs.Dots.{dot_cmp, is_dot}
use Rattle.rds_dots.specs.Listed.{dots_from}
use Rattle.rds_dots.specs.Order.{dots_total}
use Rattle.rds_dots.specs.Sets.{dot_limits}
use Rattle.rds_counts.specs.declared.row.CountRow.{CountRow}
use Rattle.rds_counts.specs.declared.row.Which.{Which}
use Rattle.rds_counts.specs.declared.row.Which.TheVariants.{P, N}
use Rattle.rds_counts.specs.Counted.{Above, entry_above, components, is_row, number, number_from, place}
use Rattle.rds_counts.specs.Entries.{entries-counts_of}
use Rattle.rds_counts.specs.Place.{Place, place_cmp}
use Rattle.rds_counts.specs.PlaceOrder.{place_total}
use Rattle.rds_life.specs.Life.{Life, Live, Dead, seen_of}
use Rattle.rds_life.proofs.Views.{contains-seen_of}
use Rattle.rds_state.specs.Value.{StateValue, coordinates}
use Rattle.rds_delta.specs.Claims.{Claim, OfLive, OfDead, OfCount, IsCertificate, claim_at, life_claim, number_claim, spread, spread_all, is_full}
use Rattle.rds_delta.specs.Least.{IsAbove}
use Rattle.rds_delta.specs.Ranks.{Ranks, life_rank}
use Rattle.rds_delta.specs.declared.row.Row.{Row}
use Rattle.rds_delta.specs.declared.row.Row.TheVariants as rows
use Rattle.rds_codec.specs.CertificateTexts.{IsHeldRow, RowFits, IsRowOf, IsCertificateOf}
use Rattle.rds_bytes.specs.Values.{IsCountRowOf}
use Rattle.rds_codec.specs.StateTexts.{IsStateOf}

-- ---- all of a list

all_each : {A B : Type 0} (Q : B → Type 0) (f : A → B) (xs : List A) → AllByRecursion (λ x. Q (f x)) xs → AllByRecursion Q (each f xs)
all_each Q f [] h = tt
all_each Q f (x ∷ xs) h = (h.0, all_each Q f xs h.1)

all_append : {A : Type 0} (Q : A → Type 0) (xs ys : List A) → AllByRecursion Q xs → AllByRecursion Q ys → AllByRecursion Q (xs ++ ys)
all_append Q [] ys h k = k
all_append Q (x ∷ xs) ys h k = (h.0, all_append Q xs ys h.1 k)

all_split : {A : Type 0} (Q : A → Type 0) (xs ys : List A) → AllByRecursion Q (xs ++ ys) → AllByRecursion Q xs × AllByRecursion Q ys
all_split Q [] ys h = (tt, h)
all_split Q (x ∷ xs) ys h = (let again = all_split Q xs ys h.1 in ((h.0, again.0), again.1))

all_both : {A : Type 0} (Q R S : A → Type 0) → ((x : A) → Q x → R x → S x) → (xs : List A) → AllByRecursion Q xs → AllByRecursion R xs → AllByRecursion S xs
all_both Q R S both [] h k = tt
all_both Q R S both (x ∷ xs) h k = (both x h.0 k.0, all_both Q R S both xs h.1 k.1)

-- ---- entries are found

module _ {K X : Type 0} (R : K → K → Ordering) (o : IsTotalOrder R) where
  above_none : (q k : K) → R q k ≡ Equal → (es : List (K × X)) → below_all R k es ≡ true → map.find R q es ≡ None
  above_none q k tie [] h = refl
  above_none q k tie (e ∷ es) h =
      let less = o.congr q k e.0 tie ∙ less_of (R k e.0) (and_left (is_lt (R k e.0)) _ h) in
      ap (λ r. cond (is_eq r) (Some e.1) (map.find R q es)) less ∙ above_none q k tie es (and_right (is_lt (R k e.0)) _ h)

  found_later : (k : K) (x : X) (e : K × X) (es : List (K × X)) → below_all R e.0 es ≡ true → map.find R k es ≡ Some x → map.find R k (e ∷ es) ≡ Some x
  found_later k x e es below f =
      elim (is_eq (R k e.0)) as (λ b. is_eq (R k e.0) ≡ b → cond b (Some e.1) (map.find R k es) ≡ Some x) [
        | true ↦ λ tie. absurd (let none : ◌≡◌ {A = Option X} None (Some x) = sym (above_none k e.0 (equal_of (R k e.0) tie) es below) ∙ f in false≢true (ap is_some none))
        | false ↦ λ _. f
      ] refl

  each_entry : (es : List (K × X)) → map.is_sorted R es ≡ true → (Q : K × X → Type 0) → ((k : K) (x : X) → map.find R k es ≡ Some x → Q (k, x)) → AllByRecursion Q es
  each_entry [] sorted Q h = tt
  each_entry (e ∷ es) sorted Q h =
      let below = and_left (below_all R e.0 es) _ sorted in (
        h e.0 e.1 (ap (λ r. cond (is_eq r) (Some e.1) (map.find R e.0 es)) (tied_itself o e.0)),
        each_entry es (and_right (below_all R e.0 es) _ sorted) Q (λ k x f. h k x (found_later k x e es below f)),
      )

-- ---- what is claimed lies in the ranges

module _ (replicas : ℕ) where
  abbrev IsDotOf : Dot → Type 0
  IsDotOf d = (is_dot d ≡ true) × (d.replica < replicas)

  abbrev ClaimFits : Claim → Type 0
  ClaimFits (OfLive d) = IsDotOf d
  ClaimFits (OfDead d peer) = IsDotOf d × (peer ≤ 1)
  ClaimFits (OfCount q sent peer) = (q.replica < replicas) × ((sent ≤ 281474976710655) × (peer ≤ 281474976710655))

  from_dots : (replica lo n peer : ℕ) → AllByRecursion ClaimFits (each (λ d. OfDead d peer) (dots_from replica lo n)) → (i : ℕ) → i < n → (let d : Dot = record { replica = replica; seq = lo + i } in IsDotOf d × (peer ≤ 1))
  from_dots replica lo zero peer h i lt = absurd (let none : ⊥ = omega arith in none)
  from_dots replica lo (suc n) peer h zero lt = (let same : lo ≡ lo + 0 = omega arith in subst (λ (s : ℕ). let d : Dot = record { replica = replica; seq = s } in IsDotOf d × (peer ≤ 1)) same h.0)
  from_dots replica lo (suc n) peer h (suc i) lt =
      let again = from_dots replica (lo + 1) n peer h.1 i (omega arith) in
      let same : (lo + 1) + i ≡ lo + suc i = omega arith in
      subst (λ (s : ℕ). let d : Dot = record { replica = replica; seq = s } in IsDotOf d × (peer ≤ 1)) same again

  row_fits : (r : Row) → is_full r ≡ true → AllByRecursion ClaimFits (spread r) → RowFits replicas r
  row_fits (rows.Live d) full h = h.0
  row_fits (rows.Dead r peer) full h =
      let rises = leb-true r.lo r.hi full in
      let at = from_dots r.replica r.lo (r.hi + 1 - r.lo) peer h in
      let first = at 0 (omega arith) in
      let last = at (r.hi - r.lo) (omega arith) in
      let low : 1 ≤ r.lo + 0 = (dot_limits (record { replica = r.replica; seq = r.lo + 0 }) first.0.0).from_one in
      let high : r.lo + (r.hi - r.lo) ≤ 281474976710655 = (dot_limits (record { replica = r.replica; seq = r.lo + (r.hi - r.lo) }) last.0.0).within in
      (record { from_one = omega arith; rises = rises; within = omega arith }, (first.0.1, first.1))
  row_fits (rows.Count key replica which sent peer) full h = h.0

  rows_fit : (rs : List Row) → list_all is_full rs ≡ true → AllByRecursion ClaimFits (spread_all rs) → AllByRecursion (RowFits replicas) rs
  rows_fit [] full h = tt
  rows_fit (r ∷ rs) full h =
      let parts = all_split ClaimFits (spread r) (spread_all rs) h in
      (row_fits r (and_left (is_full r) _ full) parts.0, rows_fit rs (and_right (is_full r) _ full) parts.1)

  -- ---- the claims of a delta

  life_fits : (peer : ℕ) (d : Dot) (l : Life) → IsDotOf d → (peer < life_rank (Some l)) → ClaimFits (claim_at d peer l)
  life_fits peer d (Live e) is above = is
  life_fits peer d Dead is above = (is, omega arith)

  lives_fit : (b : Ranks) (v : StateValue) → IsStateOf replicas v → IsAbove (coordinates v) b → AllByRecursion ClaimFits (each (life_claim b.rank) (map.entries v.lives))
  lives_fit b v is above =
      all_each ClaimFits (life_claim b.rank) (map.entries v.lives)
      (each_entry dot_cmp dots_total (map.entries v.lives) (true_of _ (map.entries_sorted v.lives)) (λ e. ClaimFits (life_claim b.rank e)) (λ d l f.
      let here : map.get v.lives d ≡ Some l = map.get-entries v.lives d ∙ f in
      let seen : set.contains (seen_of v.lives) d ≡ true = contains-seen_of v.lives d ∙ ap is_some here in
      let lower = above.lives d (ap is_some here) in
      life_fits (b.rank d) d l (is.dots d seen) (subst (λ (o : Option Life). b.rank d < life_rank o) here lower)))

  abbrev IsSent : Place × Above → Type 0
  IsSent e = (e.0.replica < replicas) × (e.1.before + 1 ≤ 281474976710655)

  sent_one : (key : List ℕ) (replica : ℕ) (which : Which) (n : ℕ) → replica < replicas → n ≤ 281474976710655 → AllByRecursion IsSent (entry_above (place key replica which) n)
  sent_one key replica which zero small few = tt
  sent_one key replica which (suc n) small few = ((small, omega arith), tt)

  sent_all : (rs : List CountRow) → list_all is_row rs ≡ true → AllByRecursion (IsCountRowOf replicas) rs → AllByRecursion IsSent (components rs)
  sent_all [] are each_row = tt
  sent_all (r ∷ rs) are each_row =
      let is = and_left (is_row r) _ are in
      let some = ltb 0 r.p || ltb 0 r.n in
      let p = leb-true r.p 281474976710655 (and_right some _ (and_left (some && leb r.p 281474976710655) _ (and_left (some && leb r.p 281474976710655 && leb r.n 281474976710655) _ is))) in
      let n = leb-true r.n 281474976710655 (and_right (some && leb r.p 281474976710655) _ (and_left (some && leb r.p 281474976710655 && leb r.n 281474976710655) _ is)) in
      all_append IsSent (entry_above (place r.key r.replica P) r.p) (entry_above (place r.key r.replica N) r.n ++ components rs) (sent_one r.key r.replica P r.p each_row.0.1 p)
      (all_append IsSent (entry_above (place r.key r.replica N) r.n) (components rs) (sent_one r.key r.replica N r.n each_row.0.1 n) (sent_all rs (and_right (is_row r) _ are) each_row.1))

  numbers_fit : (b : Ranks) (v : StateValue) → IsStateOf replicas v → IsAbove (coordinates v) b → AllByRecursion ClaimFits (each (number_claim b.number) (map.entries v.counts))
  numbers_fit b v is above_all =
      let es = map.entries v.counts in
      let same : es ≡ components is.counts.rows = ap map.entries (sym is.counts.value) ∙ entries-counts_of is.counts.rows is.counts.are_rows.rise in
      let sent = subst (AllByRecursion IsSent) (sym same) (sent_all is.counts.rows is.counts.are_rows.are is.counts.each_row) in
      let lower = each_entry place_cmp place_total es (true_of _ (map.entries_sorted v.counts)) (λ e. b.number e.0 < e.1.before + 1) (λ q a f.
      let here : number v.counts q ≡ a.before + 1 = ap number_from (map.get-entries v.counts q ∙ f) in
      let some : 0 < number v.counts q = omega (arith, here) in
      let low = above_all.numbers q some in
      omega (arith, here, low)) in
      all_each ClaimFits (number_claim b.number) es (all_both IsSent (λ e. b.number e.0 < e.1.before + 1) (λ e. ClaimFits (number_claim b.number e)) (λ e s l. let few = s.1 in (s.0, (few, omega arith))) es sent lower)

  certificate_fits : (b : Ranks) (v : StateValue) (rs : List Row) → IsStateOf replicas v → IsAbove (coordinates v) b → IsCertificate b v rs → AllByRecursion (RowFits replicas) rs
  certificate_fits b v rs is above_all certificate =
      rows_fit rs certificate.full (subst (AllByRecursion ClaimFits) (sym certificate.claimed)
      (all_append ClaimFits (each (life_claim b.rank) (map.entries v.lives)) (each (number_claim b.number) (map.entries v.counts)) (lives_fit b v is above_all) (numbers_fit b v is above_all)))

  -- ---- rows that code holds

  pub are_rows_of : (rs : List Row) → AllByRecursion IsHeldRow rs → AllByRecursion (RowFits replicas) rs → IsCertificateOf replicas rs
  are_rows_of rs held fits = all_both IsHeldRow (RowFits replicas) (IsRowOf replicas) (λ r holds lies. (holds, lies)) rs held fits

  pub is_certificate_of : (b : Ranks) (v : StateValue) (rs : List Row) → IsStateOf replicas v → IsAbove (coordinates v) b → IsCertificate b v rs → AllByRecursion IsHeldRow rs → IsCertificateOf replicas rs
  is_certificate_of b v rs is above_all certificate held = are_rows_of rs held (certificate_fits b v rs is above_all certificate)
