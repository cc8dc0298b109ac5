-- Lists of dots as sets.
use Rattle.std.proofs.Common.{◌≡◌, ℕ, suc, zero, ◌+◌, ◌-◌, ◌<◌, ◌≤◌, Bool, true, false, cond, not, ◌&&◌, ◌||◌, List, []}
use Rattle.std.proofs.Common.{◌∷◌, ◌++◌, length, refl, sym, ◌∙◌, ap, arith, eqb, leb}
use mathlib.Core.Bool.{false≢true}
use Rattle.std.specs.List.{list_all, filter}
use Rattle.std.specs.Ordering.{eq_by_cmp, is_eq, is_lt, ordering_then, nat_cmp}
use Rattle.std.specs.FinSet as set
use Rattle.std.proofs.lemmas.Bool.{leb-true}
use Rattle.std.proofs.lemmas.Bool.Decides.{nat_tests}
use Rattle.rds_names.specs.Conditions.{equal_of, and_left, and_right, and_true, less_of}
use Rattle.rds_dots.specs.declared.dot.Dot.{Dot}
use Rattle.rds_dots.specs.declared.dot.Run.{Run}
use Rattle.rds_dots.specs.declared.dot.TheConstants.{MAX_SEQ}
use Rattle.rds_dots.specs.Dots.{dot_cmp, is_dot, in_run, IsRun}
use Rattle.rds_dots.specs.Ascending.{is_above, ascends}
use Rattle.rds_dots.specs.Merged.{merge_of}
use Rattle.rds_dots.specs.Listed.{lists, dots_from, dots_of, without}
use Rattle.rds_dots.specs.Order.{dots_total, dots_exact}
use Rattle.rds_dots.specs.Merges.{any-merge_of}

pub contains_list : (ds : List Dot) (q : Dot) → set.contains (set.from_list {R = dot_cmp} ds) q ≡ lists ds q
contains_list ds q = set.contains-from_list dots_total ds q

-- a merge is the union
pub list-merge_of : (ds es : List Dot) → set.from_list {R = dot_cmp} (merge_of ds es) ≡ set.union (set.from_list ds) (set.from_list es)
list-merge_of ds es = set.same_set dots_total dots_exact _ _ (λ q.
    contains_list (merge_of ds es) q ∙ any-merge_of (eq_by_cmp dot_cmp q) ds es
    ∙ sym (set.contains-union dots_total (set.from_list ds) (set.from_list es) q ∙ ap (λ b. b || set.contains (set.from_list {R = dot_cmp} es) q) (contains_list ds q) ∙ ap (λ b. lists ds q || b) (contains_list es q)))

-- dots that tie are one
pub tied_dots_are_one : (q d : Dot) → eq_by_cmp dot_cmp q d ≡ true → q ≡ d
tied_dots_are_one q d e = dots_exact q d (equal_of (dot_cmp q d) e)

pick_true : (e l pq : Bool) → (e ≡ true → pq ≡ true) → (e || (l && pq)) ≡ ((e || l) && pq)
pick_true true l pq h = sym (h refl)
pick_true false l pq h = refl

pick_false : (e l pq : Bool) → (e ≡ true → pq ≡ false) → (l && pq) ≡ ((e || l) && pq)
pick_false true true pq h = refl
pick_false true false pq h = sym (h refl)
pick_false false l pq h = refl

-- a test that tells tied dots apart no more than the order does
any-filter : (p : Dot → Bool) (q : Dot) (ds : List Dot) → lists (filter p ds) q ≡ (lists ds q && p q)
any-filter p q [] = refl
any-filter p q (d ∷ ds) =
    let again = any-filter p q ds in
    elim (p d) as (λ b. p d ≡ b → lists (cond b (d ∷ filter p ds) (filter p ds)) q ≡ ((eq_by_cmp dot_cmp q d || lists ds q) && p q)) [
      | true ↦ λ is. ap (λ b. eq_by_cmp dot_cmp q d || b) again
          ∙ pick_true _ _ (p q) (λ e. ap p (tied_dots_are_one q d e) ∙ is)
      | false ↦ λ is. again ∙ pick_false (eq_by_cmp dot_cmp q d) _ (p q) (λ e. ap p (tied_dots_are_one q d e) ∙ is)
    ] refl

pub list-without : (ds es : List Dot) → set.from_list {R = dot_cmp} (without ds es) ≡ set.difference (set.from_list ds) (set.from_list es)
list-without ds es = set.same_set dots_total dots_exact _ _ (λ q.
    contains_list (without ds es) q ∙ any-filter (λ d. not (lists es d)) q ds
    ∙ sym (set.contains-difference dots_total (set.from_list ds) (set.from_list es) q ∙ ap (λ b. b && not (set.contains (set.from_list {R = dot_cmp} es) q)) (contains_list ds q) ∙ ap (λ b. lists ds q && not b) (contains_list es q)))

-- what holds of all holds of one that is listed
pub all_listed : (p : Dot → Bool) (ds : List Dot) → list_all p ds ≡ true → (q : Dot) → lists ds q ≡ true → p q ≡ true
all_listed p [] all q one = absurd (false≢true one)
all_listed p (d ∷ ds) all q one =
    let again = all_listed p ds (and_right (p d) _ all) q in
    elim (eq_by_cmp dot_cmp q d) as (λ b. eq_by_cmp dot_cmp q d ≡ b → (b || lists ds q) ≡ true → p q ≡ true) [
      | true ↦ λ e _. ap p (tied_dots_are_one q d e) ∙ and_left (p d) _ all
      | false ↦ λ _ o. again o
    ] refl one

-- a dot below all isn't listed
pub not_above : (d : Dot) (ds : List Dot) → list_all (is_above d) ds ≡ true → lists ds d ≡ false
not_above d [] all = refl
not_above d (e ∷ ds) all = ap (λ o. is_eq o || lists ds d) (less_of (dot_cmp d e) (and_left (is_above d e) _ all)) ∙ not_above d ds (and_right (is_above d e) _ all)

-- dots that rise are as many as the list is long
pub len-list : (ds : List Dot) → ascends ds ≡ true → set.len (set.from_list {R = dot_cmp} ds) ≡ length ds
len-list [] rise = set.len-empty dot_cmp
len-list (d ∷ ds) rise =
    let new : set.contains (set.from_list {R = dot_cmp} ds) d ≡ false = contains_list ds d ∙ not_above d ds (and_left _ (ascends ds) rise) in
    set.len-insert dots_total (set.from_list ds) d ∙ ap (λ b. cond b (set.len (set.from_list {R = dot_cmp} ds)) (set.len (set.from_list {R = dot_cmp} ds) + 1)) new ∙ ap (λ n. n + 1) (len-list ds (and_right (list_all (is_above d) ds) _ rise)) ∙ omega arith

pub filter_all : (p t : Dot → Bool) (ds : List Dot) → list_all p ds ≡ true → list_all p (filter t ds) ≡ true
filter_all p t [] all = refl
filter_all p t (d ∷ ds) all =
    let again = filter_all p t ds (and_right (p d) _ all) in
    elim (t d) as (λ b. list_all p (cond b (d ∷ filter t ds) (filter t ds)) ≡ true) [ true ↦ and_true (p d) _ (and_left (p d) _ all) again | false ↦ again ]

pub ascends-filter : (t : Dot → Bool) (ds : List Dot) → ascends ds ≡ true → ascends (filter t ds) ≡ true
ascends-filter t [] rise = refl
ascends-filter t (d ∷ ds) rise =
    let again = ascends-filter t ds (and_right (list_all (is_above d) ds) _ rise) in
    elim (t d) as (λ b. ascends (cond b (d ∷ filter t ds) (filter t ds)) ≡ true) [ true ↦ and_true _ _ (filter_all (is_above d) t ds (and_left (list_all (is_above d) ds) _ rise)) again | false ↦ again ]

-- one more dot of a run
pub dots_from_more : (replica lo n : ℕ) → let d : Dot = record { replica = replica; seq = lo + n } in dots_from replica lo (n + 1) ≡ dots_from replica lo n ++ d ∷ []
dots_from_more replica lo zero = let at : ℕ → List Dot = λ n. (let d : Dot = record { replica = replica; seq = n } in d ∷ []) in let e : lo ≡ lo + 0 = omega arith in ap at e
dots_from_more replica lo (suc n) =
    let first : Dot = record { replica = replica; seq = lo } in
    let at : ℕ → List Dot = λ m. (let d : Dot = record { replica = replica; seq = m } in first ∷ (dots_from replica (lo + 1) n ++ d ∷ [])) in
    let one : suc n + 1 ≡ suc (n + 1) = omega arith in
    let last : (lo + 1) + n ≡ lo + suc n = omega arith in
    ap (dots_from replica lo) one ∙ ap (λ ds. first ∷ ds) (dots_from_more replica (lo + 1) n) ∙ ap at last

pub tied_is : (a b c d : ℕ) → is_eq (ordering_then (nat_cmp a b) (nat_cmp c d)) ≡ (eqb a b && eqb c d)
tied_is a b c d = grind (arith, nat_tests)

one_more_is : (a r s lo n : ℕ) → ((eqb a r && eqb s lo) || (eqb a r && (leb (lo + 1) s && leb (s + 1) ((lo + 1) + n)))) ≡ (eqb a r && (leb lo s && leb (s + 1) (lo + suc n)))
one_more_is a r s lo n = grind (arith, nat_tests)

pub lists-dots_from : (replica lo n : ℕ) (q : Dot) → lists (dots_from replica lo n) q ≡ (eqb q.replica replica && (leb lo q.seq && leb (q.seq + 1) (lo + n)))
lists-dots_from replica lo zero q = grind (arith, nat_tests)
lists-dots_from replica lo (suc n) q = ap (λ b. b || lists (dots_from replica (lo + 1) n) q) (tied_is q.replica replica q.seq lo) ∙ ap (λ b. (eqb q.replica replica && eqb q.seq lo) || b) (lists-dots_from replica (lo + 1) n q) ∙ one_more_is q.replica replica q.seq lo n

-- a set that a list of dots makes has dots alone
pub within_list : (ds : List Dot) → list_all is_dot ds ≡ true → (d : Dot) → set.contains (set.from_list {R = dot_cmp} ds) d ≡ true → is_dot d ≡ true
within_list ds all d has = all_listed is_dot ds all d (sym (contains_list ds d) ∙ has)

pub run_bounds : (a r s lo hi : ℕ) → lo ≤ hi → (eqb a r && (leb lo s && leb (s + 1) (lo + (hi + 1 - lo)))) ≡ (eqb a r && leb lo s && leb s hi)
run_bounds a r s lo hi le = grind (arith, nat_tests)

-- the dots of a run are those that it has
pub lists-run : (run : Run) → IsRun run → (d : Dot) → lists (dots_of run) d ≡ in_run run d
lists-run run is d = lists-dots_from run.replica run.lo (run.hi + 1 - run.lo) d ∙ run_bounds d.replica run.replica d.seq run.lo run.hi is.rises

below_is : (a r s at : ℕ) → a ≡ r → s < at → is_lt (ordering_then (nat_cmp a r) (nat_cmp s at)) ≡ true
below_is a r s at same lt = grind (arith, nat_tests)

from_above : (replica : ℕ) (d : Dot) → d.replica ≡ replica → (n at : ℕ) → d.seq < at → list_all (is_above d) (dots_from replica at n) ≡ true
from_above replica d same zero at lt = refl
from_above replica d same (suc n) at lt = and_true _ _ (below_is d.replica replica d.seq at same lt) (from_above replica d same n (at + 1) (omega arith))

ascends-from : (replica lo n : ℕ) → ascends (dots_from replica lo n) ≡ true
ascends-from replica lo zero = refl
ascends-from replica lo (suc n) = and_true _ _ (from_above replica (record { replica = replica; seq = lo }) refl n (lo + 1) (omega arith)) (ascends-from replica (lo + 1) n)

pub ascends-run : (run : Run) → IsRun run → ascends (dots_of run) ≡ true
ascends-run run is = ascends-from run.replica run.lo (run.hi + 1 - run.lo)

within_is : (r s : ℕ) → r ≤ 255 → 1 ≤ s → s ≤ MAX_SEQ → (leb r 255 && leb 1 s && leb s MAX_SEQ) ≡ true
within_is r s a b c = grind (arith, nat_tests)

-- the limits of a dot's numbers
pub record HasLimits (d : Dot) : Type 0 where
  pub small : d.replica ≤ 255
  pub from_one : 1 ≤ d.seq
  pub within : d.seq ≤ MAX_SEQ

pub dot_limits : (d : Dot) → is_dot d ≡ true → HasLimits d
dot_limits d is =
    let front = and_left (leb d.replica 255 && leb 1 d.seq) (leb d.seq MAX_SEQ) is in
    record {
      small = leb-true d.replica 255 (and_left (leb d.replica 255) (leb 1 d.seq) front);
      from_one = leb-true 1 d.seq (and_right (leb d.replica 255) (leb 1 d.seq) front);
      within = leb-true d.seq MAX_SEQ (and_right (leb d.replica 255 && leb 1 d.seq) (leb d.seq MAX_SEQ) is);
    }

all-from : (replica lo n : ℕ) → replica ≤ 255 → 1 ≤ lo → lo + n ≤ MAX_SEQ + 1 → list_all is_dot (dots_from replica lo n) ≡ true
all-from replica lo zero r one most = refl
all-from replica lo (suc n) r one most = and_true _ _ (within_is replica lo r one (omega arith)) (all-from replica (lo + 1) n r (omega arith) (omega arith))

pub all-run : (run : Run) → IsRun run → run.replica ≤ 255 → list_all is_dot (dots_of run) ≡ true
all-run run is small = all-from run.replica run.lo (run.hi + 1 - run.lo) small is.from_one (omega arith)
