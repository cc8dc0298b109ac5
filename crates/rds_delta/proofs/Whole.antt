-- The whole check, from its parts.
use Rattle.std.proofs.Common.{◌≡◌, ◌↔◌, ℕ, zero, suc, ◌+◌, Bool, true, false, ◌&&◌, cond, List, [], ◌∷◌, ◌++◌, None}
use Rattle.std.proofs.Common.{refl, sym, ◌∙◌, ap, subst, arith}
use Rattle.std.specs.Prelude.{map as each}
use Rattle.std.specs.List.{filter, list_all}
use Rattle.std.specs.Ordering.{is_lt, eq_by_cmp}
use Rattle.std.specs.FinMap as map
use Rattle.rds_counts.specs.declared.row.Which.{Which}
use Rattle.rds_counts.specs.declared.row.Which.TheVariants.{P, N}
use Rattle.rds_counts.specs.declared.row.CountRow.{CountRow}
use Rattle.rds_counts.specs.Place.{Place, place_cmp}
use Rattle.rds_counts.specs.PlaceOrder.{place_exact}
use Rattle.rds_counts.specs.Counted.{Above, number, place, entry_above, components, counts_of, row_cmp, rows_rise}
use Rattle.rds_counts.specs.Counted.{AreCountRows}
use Rattle.rds_counts.specs.CountedLemmas.{some, number_in, number_past, number-row, number-own, get-counts_of}
use Rattle.rds_names.specs.Conditions.{and_left, and_right, equal_of}
use Rattle.rds_counts.specs.Entries.{entries-counts_of}
use Rattle.rds_delta.specs.Ranks.{Ranks}
use Rattle.rds_delta.specs.Least.{IsAbove}
use Rattle.rds_state.specs.Value.{StateValue, coordinates}
use Rattle.rds_delta.specs.declared.row.Row.{Row}
use Rattle.rds_delta.specs.declared.row.Row.TheVariants as rows
use Rattle.rds_delta.specs.Claims.{claims, life_claim, number_claim, IsCertificate}
use Rattle.rds_delta.specs.Grouped.{rows_of_claims, grouped_onto}
use Rattle.rds_delta.proofs.Grouping.{rows_of_claims-append, certificate_is, grouped_certificate}
use Rattle.rds_delta.specs.Rest.{claims_after, is_flat}
use Rattle.rds_delta.specs.CounterRows.{number_rows, counter_rows, IsNumberAbove, AreAbove}
use Rattle.rds_delta.specs.Claimed.{IsClaimed, IsUnclaimed}

-- the claims of numbers are the count rows
number_grouped : (peer : Place → ℕ) (q : Place) (n : ℕ) (es : List (Place × Above)) → rows_of_claims (each (number_claim peer) (entry_above q n ++ es)) ≡ number_rows q n (peer q) ++ rows_of_claims (each (number_claim peer) es)
number_grouped peer q zero es = refl
number_grouped peer q (suc n) es =
    let e : n + 1 ≡ suc n = omega arith in
    ap (λ k. rows.Count q.key q.replica q.which k (peer q) ∷ rows_of_claims (each (number_claim peer) es)) e

counts_grouped : (peer : Place → ℕ) (rs : List CountRow) → rows_of_claims (each (number_claim peer) (components rs)) ≡ counter_rows peer rs
counts_grouped peer [] = refl
counts_grouped peer (r ∷ rs) =
    let p = place r.key r.replica P in
    let n = place r.key r.replica N in
    number_grouped peer p r.p (entry_above n r.n ++ components rs)
    ∙ ap (λ l. number_rows p r.p (peer p) ++ l) (number_grouped peer n r.n (components rs) ∙ ap (λ l. number_rows n r.n (peer n) ++ l) (counts_grouped peer rs))

flat_number : (q : Place) (n peer : ℕ) (rs : List Row) → is_flat rs ≡ true → is_flat (number_rows q n peer ++ rs) ≡ true
flat_number q zero peer rs h = h
flat_number q (suc n) peer rs h = refl

pub flat_counts : (peer : Place → ℕ) (rs : List CountRow) → is_flat (counter_rows peer rs) ≡ true
flat_counts peer [] = refl
flat_counts peer (r ∷ rs) = flat_number (place r.key r.replica P) r.p (peer (place r.key r.replica P)) _ (flat_number (place r.key r.replica N) r.n (peer (place r.key r.replica N)) _ (flat_counts peer rs))

keep_all : {A : Type 0} (xs : List A) → filter (λ x. true) xs ≡ xs
keep_all [] = refl
keep_all (x ∷ xs) = ap (λ l. x ∷ l) (keep_all xs)

-- a certificate is the rows of the dots, then those of the numbers
pub certificate_rows : (b : Ranks) (v : StateValue) (rs : List CountRow) → AreCountRows rs → v.counts ≡ counts_of rs → rows_of_claims (claims b v) ≡ claims_after b.rank v.lives None (counter_rows b.number rs)
certificate_rows b v rs are is =
    rows_of_claims-append (each (life_claim b.rank) (map.entries v.lives)) (each (number_claim b.number) (map.entries v.counts)) []
    ∙ ap (λ es. grouped_onto (each (life_claim b.rank) (map.entries v.lives)) (rows_of_claims (each (number_claim b.number) es))) (ap map.entries is ∙ entries-counts_of rs are.rise)
    ∙ ap (grouped_onto (each (life_claim b.rank) (map.entries v.lives))) (counts_grouped b.number rs)
    ∙ ap (λ es. grouped_onto (each (life_claim b.rank) es) (counter_rows b.number rs)) (sym (keep_all (map.entries v.lives)))

-- numbers above, row by row and place by place
abbrev AboveIn : (Place → ℕ) → List CountRow → Type 0
AboveIn peer rs = (q : Place) → IsNumberAbove (number_in rs q) (peer q)

same_place : (q x : Place) → eq_by_cmp place_cmp q x ≡ true → q ≡ x
same_place q x h = place_exact q x (equal_of (place_cmp q x) h)

to_rows : (peer : Place → ℕ) (rs : List CountRow) → rows_rise rs ≡ true → AboveIn peer rs → AreAbove peer rs
to_rows peer [] rise all = tt
to_rows peer (r ∷ rs) rise all =
    let first = and_left (list_all (λ t. is_lt (row_cmp r t)) rs) _ rise in (
      subst (λ n. IsNumberAbove n (peer (place r.key r.replica P))) (number-own r rs P first) (all (place r.key r.replica P)),
      subst (λ n. IsNumberAbove n (peer (place r.key r.replica N))) (number-own r rs N first) (all (place r.key r.replica N)),
      to_rows peer rs (and_right (list_all (λ t. is_lt (row_cmp r t)) rs) _ rise) (λ q. later q (eq_by_cmp place_cmp q (place r.key r.replica P)) (eq_by_cmp place_cmp q (place r.key r.replica N)) refl refl first),
    )
  where
    own : (q : Place) (w : Which) → q ≡ place r.key r.replica w → list_all (λ t. is_lt (row_cmp r t)) rs ≡ true → IsNumberAbove (number_in rs q) (peer q)
    own q w e first h =
        let z : number_in rs q ≡ 0 = ap (number_in rs) e ∙ number_past r w rs first in
        absurd (omega (arith, z, h))

    later : (q : Place) (a b : Bool) → eq_by_cmp place_cmp q (place r.key r.replica P) ≡ a → eq_by_cmp place_cmp q (place r.key r.replica N) ≡ b → list_all (λ t. is_lt (row_cmp r t)) rs ≡ true → IsNumberAbove (number_in rs q) (peer q)
    later q true b x y first = own q P (same_place q (place r.key r.replica P) x) first
    later q false true x y first = own q N (same_place q (place r.key r.replica N) y) first
    later q false false x y first =
        let e : number_in (r ∷ rs) q ≡ number_in rs q =
        number-row q r rs
        ∙ ap (λ c. cond (c && some r.p) r.p (cond (eq_by_cmp place_cmp q (place r.key r.replica N) && some r.n) r.n (number_in rs q))) x
        ∙ ap (λ c. cond (c && some r.n) r.n (number_in rs q)) y in
        subst (λ n. IsNumberAbove n (peer q)) e (all q)

from_rows : (peer : Place → ℕ) (rs : List CountRow) → AreAbove peer rs → AboveIn peer rs
from_rows peer [] all q = λ h. absurd (omega arith)
from_rows peer (r ∷ rs) all q =
    subst (λ n. IsNumberAbove n (peer q)) (sym (number-row q r rs))
    (by_p (from_rows peer rs all.2 q) (eq_by_cmp place_cmp q (place r.key r.replica P)) refl (eq_by_cmp place_cmp q (place r.key r.replica N)) refl)
  where
    at_n : IsNumberAbove (number_in rs q) (peer q) → (b : Bool) → eq_by_cmp place_cmp q (place r.key r.replica N) ≡ b → IsNumberAbove (cond (b && some r.n) r.n (number_in rs q)) (peer q)
    at_n again true y =
        elim (some r.n) as (λ c. IsNumberAbove (cond c r.n (number_in rs q)) (peer q)) [
          | true ↦ subst (λ x. IsNumberAbove r.n (peer x)) (sym (same_place q (place r.key r.replica N) y)) all.1
          | false ↦ again
        ]
    at_n again false y = again

    by_p : IsNumberAbove (number_in rs q) (peer q) → (a : Bool) → eq_by_cmp place_cmp q (place r.key r.replica P) ≡ a → (b : Bool) → eq_by_cmp place_cmp q (place r.key r.replica N) ≡ b → IsNumberAbove (cond (a && some r.p) r.p (cond (b && some r.n) r.n (number_in rs q))) (peer q)
    by_p again true x b y =
        elim (some r.p) as (λ c. IsNumberAbove (cond c r.p (cond (b && some r.n) r.n (number_in rs q))) (peer q)) [
          | true ↦ subst (λ z. IsNumberAbove r.p (peer z)) (sym (same_place q (place r.key r.replica P) x)) all.0
          | false ↦ at_n again b y
        ]
    by_p again false x b y = at_n again b y

pub above_rows : (b : Ranks) (v : StateValue) (rs : List CountRow) → AreCountRows rs → v.counts ≡ counts_of rs → ((q : Place) → IsNumberAbove (number v.counts q) (b.number q)) ↔ AreAbove b.number rs
above_rows b v rs are is = (
  λ h. to_rows b.number rs are.rise (λ q. subst (λ n. IsNumberAbove n (b.number q)) (sym (get-counts_of rs v.counts (sym is) q)) (h q)),
  λ h q. subst (λ n. IsNumberAbove n (b.number q)) (get-counts_of rs v.counts (sym is) q) (from_rows b.number rs h q),
)

-- the check's two parts say that the delta is above and the rows are its certificate
pub whole_yes : (b : Ranks) (v : StateValue) (rs : List CountRow) → AreCountRows rs → v.counts ≡ counts_of rs → (rows rest : List Row) → IsClaimed b.rank v.lives rows rest → AreAbove b.number rs × (rest ≡ counter_rows b.number rs) → IsAbove (coordinates v) b × IsCertificate b v rows
whole_yes b v rs are is rows rest claimed told =
    let flat = flat_counts b.number rs in
    let e = (claimed.left (counter_rows b.number rs) flat).1 told.1 ∙ sym (certificate_rows b v rs are is) in (
      record { lives = claimed.above; numbers = (above_rows b v rs are is).1 told.0 },
      subst (IsCertificate b v) (sym e) (grouped_certificate b v),
    )

pub whole_back : (b : Ranks) (v : StateValue) (rs : List CountRow) → AreCountRows rs → v.counts ≡ counts_of rs → (rows rest : List Row) → IsClaimed b.rank v.lives rows rest → IsAbove (coordinates v) b × IsCertificate b v rows → AreAbove b.number rs × (rest ≡ counter_rows b.number rs)
whole_back b v rs are is rows rest claimed h =
    let flat = flat_counts b.number rs in (
      (above_rows b v rs are is).0 h.0.numbers,
      (claimed.left (counter_rows b.number rs) flat).0 (certificate_is b v rows h.1 ∙ certificate_rows b v rs are is),
    )

flat_claims : (peer : Place → ℕ) (es : List (Place × Above)) → is_flat (rows_of_claims (each (number_claim peer) es)) ≡ true
flat_claims peer [] = refl
flat_claims peer (e ∷ es) = refl

claims_rows : (b : Ranks) (v : StateValue) → rows_of_claims (claims b v) ≡ claims_after b.rank v.lives None (rows_of_claims (each (number_claim b.number) (map.entries v.counts)))
claims_rows b v =
    rows_of_claims-append (each (life_claim b.rank) (map.entries v.lives)) (each (number_claim b.number) (map.entries v.counts)) []
    ∙ ap (λ es. grouped_onto (each (life_claim b.rank) es) (rows_of_claims (each (number_claim b.number) (map.entries v.counts)))) (sym (keep_all (map.entries v.lives)))

pub whole_no : (b : Ranks) (v : StateValue) (rows : List Row) → IsUnclaimed b.rank v.lives rows → IsAbove (coordinates v) b × IsCertificate b v rows → ⊥
whole_no b v rows un h = un.fails h.0.lives (rows_of_claims (each (number_claim b.number) (map.entries v.counts))) (flat_claims b.number (map.entries v.counts)) (certificate_is b v rows h.1 ∙ claims_rows b v)

-- the dots' rows and the numbers' are a certificate
pub whole_certificate : (b : Ranks) (v : StateValue) (rs : List CountRow) → AreCountRows rs → v.counts ≡ counts_of rs → (dots : List Row) → ((more : List Row) → is_flat more ≡ true → dots ++ more ≡ claims_after b.rank v.lives None more) → IsCertificate b v (dots ++ counter_rows b.number rs)
whole_certificate b v rs are is dots told = subst (IsCertificate b v) (certificate_rows b v rs are is ∙ sym (told (counter_rows b.number rs) (flat_counts b.number rs))) (grouped_certificate b v)
