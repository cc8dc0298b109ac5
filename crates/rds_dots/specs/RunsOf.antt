-- The runs of a set: they are there, and they are the only ones.
use Rattle.std.proofs.Common.{◌≡◌, ℕ, ◌+◌, ◌*◌, ◌-◌, ◌<◌, ◌≤◌, Bool, true, false, cond, ◌&&◌, ◌||◌, List, [], ◌∷◌, refl}
use Rattle.std.proofs.Common.{sym, ◌∙◌, ap, arith, eqb, leb, ltb}
use mathlib.Core.Bool.{false≢true}
use Rattle.std.proofs.Math.Bool.{or_assoc, or-false}
use Rattle.std.proofs.lemmas.Bool.{or_left, or_right}
use Rattle.std.specs.List.{list_all}
use Rattle.std.specs.Ordering.{eq_by_cmp, is_eq, is_lt, nat_cmp, ordering_then}
use Rattle.std.specs.Cmp.{tied_itself}
use Rattle.std.specs.FinSet as set
use Rattle.std.proofs.lemmas.Bool.Decides.{nat_tests}
use Rattle.rds_dots.specs.declared.dot.Dot.{Dot}
use Rattle.rds_dots.specs.declared.dot.Run.{Run}
use Rattle.rds_dots.specs.Dots.{Dots, dot_cmp, is_dot, in_run, first_of}
use Rattle.rds_dots.specs.Ascending.{is_above, ascends}
use Rattle.rds_dots.specs.Listed.{lists}
use Rattle.rds_dots.specs.Merges.{any-merge_of, ascends-merge_of}
use Rattle.rds_names.specs.Conditions.{and_left, and_right, and_true}
use Rattle.rds_dots.specs.Order.{dots_total}
use Rattle.rds_dots.specs.Sets.{contains_list, dot_limits, tied_is}
use Rattle.rds_dots.specs.Runs.{runs_cover, dot_place, start, stop, begins_past, are_maximal, put_dot, runs_of_dots}
use Rattle.rds_dots.specs.Runs.{dots_in_order, runs_of}
pub use Rattle.rds_dots.specs.Runs.{AreRuns}
use Rattle.rds_dots.specs.RunFacts.{Bounds, RunParts, run_parts, maximal_by, spans, has, lt_by, begins_later, has_past}
use Rattle.rds_dots.specs.RunFacts.{has_none, covers_is}

in_numbers : (a ρ s lo hi : ℕ) → a ≡ ρ → lo ≤ s → s ≤ hi → (eqb a ρ && leb lo s && leb s hi) ≡ true
in_numbers a ρ s lo hi p q r = grind (arith, nat_tests)

in_first : (r : Run) → Bounds r → in_run r (first_of r) ≡ true
in_first r b = let rises = b.rises in in_numbers r.replica r.replica r.lo r.lo r.hi refl (omega arith) rises

place_to : (a s ρ lo hi : ℕ) → (eqb a ρ && leb lo s && leb s hi) ≡ true → a * 281474976710656 + s ≤ ρ * 281474976710656 + hi
place_to a s ρ lo hi h = grind (arith, nat_tests)

has_from : (r : Run) (rs : List Run) → are_maximal (r ∷ rs) ≡ true → (n : ℕ) → has (r ∷ rs) n ≡ true → start r ≤ n
has_from r rs max n h =
    let p = run_parts r rs max in
    let one = p.bounds.one in
    let past = has_past (r ∷ rs) max (start r - 1) n (lt_by (start r - 1) (start r) (omega arith)) h in omega arith

covered_from : (r : Run) (rs : List Run) → are_maximal (r ∷ rs) ≡ true → (d : Dot) → runs_cover (r ∷ rs) d ≡ true → start r ≤ dot_place d.replica d.seq
covered_from r rs max d h = has_from r rs max _ (and_right (is_dot d) _ (sym (covers_is (r ∷ rs) max d) ∙ h))

start_le : (r t : Run) (rs ts : List Run) → are_maximal (r ∷ rs) ≡ true → are_maximal (t ∷ ts) ≡ true → ((d : Dot) → runs_cover (r ∷ rs) d ≡ runs_cover (t ∷ ts) d) → start r ≤ start t
start_le r t rs ts mr mt same = covered_from r rs mr (first_of t) (same (first_of t) ∙ or_left _ _ (in_first t (run_parts t ts mt).bounds))

same_replica : (a lo ρ lo' : ℕ) → lo ≤ 281474976710655 → lo' ≤ 281474976710655 → a * 281474976710656 + lo ≡ ρ * 281474976710656 + lo' → a ≡ ρ
same_replica a lo ρ lo' p q e = omega arith

stop_le : (r t : Run) (rs ts : List Run) → are_maximal (r ∷ rs) ≡ true → are_maximal (t ∷ ts) ≡ true → ((d : Dot) → runs_cover (r ∷ rs) d ≡ runs_cover (t ∷ ts) d) → r.replica ≡ t.replica → r.lo ≡ t.lo → (t.hi < r.hi) → ⊥
stop_le r t rs ts mr mt same rep lo lt =
    let next : Dot = record { replica = t.replica; seq = t.hi + 1 } in
    let b = (run_parts r rs mr).bounds in
    let p = run_parts t ts mt in
    let c = p.bounds in
    let rises = c.rises in
    let inside : in_run r next ≡ true = in_numbers t.replica r.replica (t.hi + 1) r.lo r.hi (sym rep) (omega arith) (omega arith) in
    let there : runs_cover (t ∷ ts) next ≡ true = sym (same next) ∙ or_left _ _ inside in
    let at : has (t ∷ ts) (dot_place t.replica (t.hi + 1)) ≡ true = and_right (is_dot next) _ (sym (covers_is (t ∷ ts) mt next) ∙ there) in
    let none : has ts (dot_place t.replica (t.hi + 1)) ≡ false = has_none ts p.rest (stop t + 1) (dot_place t.replica (t.hi + 1)) p.apart (omega arith) in
    let out : spans t (dot_place t.replica (t.hi + 1)) ≡ false = past_end (start t) (stop t) (dot_place t.replica (t.hi + 1)) (omega arith) in
    false≢true (sym (ap (λ b. b || has ts (dot_place t.replica (t.hi + 1))) out ∙ none) ∙ at)
  where
    past_end : (a b n : ℕ) → b < n → (leb a n && leb n b) ≡ false
    past_end a b n h = grind (arith, nat_tests)

same_run : (r t : Run) → r.replica ≡ t.replica → r.lo ≡ t.lo → r.hi ≡ t.hi → r ≡ t
same_run r t p q e i = record { replica = p i; lo = q i; hi = e i }

-- runs that have the same dots are the same
pub runs_unique : (rs ts : List Run) → are_maximal rs ≡ true → are_maximal ts ≡ true → ((d : Dot) → runs_cover rs d ≡ runs_cover ts d) → rs ≡ ts
runs_unique [] [] mr mt same = refl
runs_unique [] (t ∷ ts) mr mt same = absurd (false≢true (same (first_of t) ∙ or_left _ _ (in_first t (run_parts t ts mt).bounds)))
runs_unique (r ∷ rs) [] mr mt same = absurd (false≢true (sym (same (first_of r)) ∙ or_left _ _ (in_first r (run_parts r rs mr).bounds)))
runs_unique (r ∷ rs) (t ∷ ts) mr mt same =
    let p = run_parts r rs mr in
    let q = run_parts t ts mt in
    let b = p.bounds in
    let c = q.bounds in
    let one : start r ≤ start t = start_le r t rs ts mr mt same in
    let two : start t ≤ start r = start_le t r ts rs mt mr (λ d. sym (same d)) in
    let b1 = b.rises in let b2 = b.most in let c1 = c.rises in let c2 = c.most in
    let rep : r.replica ≡ t.replica = same_replica r.replica r.lo t.replica t.lo (omega arith) (omega arith) (omega arith) in
    let lo : r.lo ≡ t.lo = omega arith in
    let hi : r.hi ≡ t.hi = no_less r.hi t.hi (stop_le t r ts rs mt mr (λ d. sym (same d)) (sym rep) (sym lo)) (stop_le r t rs ts mr mt same rep lo) in
    let e : r ≡ t = same_run r t rep lo hi in
    λ i. e i ∷ runs_unique rs ts p.rest q.rest (λ d. tails e p q d (same d)) i
  where
    no_less : (a b : ℕ) → (a < b → ⊥) → (b < a → ⊥) → a ≡ b
    no_less a b p q = omega arith

    tail_none : (r : Run) (rs : List Run) → RunParts r rs → (d : Dot) → in_run r d ≡ true → runs_cover rs d ≡ false
    tail_none r rs p d is =
        let le = place_to d.replica d.seq r.replica r.lo r.hi is in
        covers_is rs p.rest d ∙ ap (λ b. is_dot d && b) (has_none rs p.rest (stop r + 1) _ p.apart (omega arith)) ∙ and_no (is_dot d)
      where
        and_no : (a : Bool) → (a && false) ≡ false
        and_no true = refl
        and_no false = refl

    tails : {r t : Run} {rs ts : List Run} → r ≡ t → RunParts r rs → RunParts t ts → (d : Dot) → runs_cover (r ∷ rs) d ≡ runs_cover (t ∷ ts) d → runs_cover rs d ≡ runs_cover ts d
    tails {r = r} {t = t} {rs = rs} {ts = ts} e p q d same =
        elim (in_run r d) as (λ b. in_run r d ≡ b → (b || runs_cover rs d) ≡ (in_run t d || runs_cover ts d) → runs_cover rs d ≡ runs_cover ts d) [
          | true ↦ λ is _. tail_none r rs p d is ∙ sym (tail_none t ts q d (sym (ap (λ x. in_run x d) e) ∙ is))
          | false ↦ λ is h. h ∙ ap (λ b. b || runs_cover ts d) (sym (ap (λ x. in_run x d) e) ∙ is)
        ] refl same

next_is : (a s ρ lo : ℕ) → (eqb a ρ && eqb (s + 1) lo) ≡ true → (a ≡ ρ) × (s + 1 ≡ lo)
next_is a s ρ lo h = (first a s ρ lo h, second a s ρ lo h)
  where
    first : (a s ρ lo : ℕ) → (eqb a ρ && eqb (s + 1) lo) ≡ true → a ≡ ρ
    first a s ρ lo h = grind (arith, nat_tests)

    second : (a s ρ lo : ℕ) → (eqb a ρ && eqb (s + 1) lo) ≡ true → s + 1 ≡ lo
    second a s ρ lo h = grind (arith, nat_tests)

apart_is : (a s ρ lo : ℕ) → s ≤ 281474976710655 → 1 ≤ lo → lo ≤ 281474976710655 → (eqb a ρ && eqb (s + 1) lo) ≡ false → ltb (a * 281474976710656 + s) (ρ * 281474976710656 + lo) ≡ true → ltb ((a * 281474976710656 + s) + 1) (ρ * 281474976710656 + lo) ≡ true
apart_is a s ρ lo p q r other h = grind (arith, nat_tests)

-- a dot before all runs, put in front of them
maximal-put : (d : Dot) (rs : List Run) → is_dot d ≡ true → are_maximal rs ≡ true → begins_past (dot_place d.replica d.seq) rs ≡ true → are_maximal (put_dot d rs) ≡ true
maximal-put d [] is max begins = let l = dot_limits d is in maximal_by (record { replica = d.replica; lo = d.seq; hi = d.seq }) [] (record { small = l.small; one = l.from_one; rises = omega arith; most = l.within }) refl refl
maximal-put d (r ∷ rs) is max begins =
    let p = run_parts r rs max in
    let l = dot_limits d is in
    let one = l.from_one in
    let within = l.within in
    let b = p.bounds in
    let rises = b.rises in
    let most = b.most in
    elim ((eqb d.replica r.replica) && (eqb (d.seq + 1) r.lo)) as (λ t. ((eqb d.replica r.replica) && (eqb (d.seq + 1) r.lo)) ≡ t → are_maximal (cond t (record { replica = d.replica; lo = d.seq; hi = r.hi } ∷ rs) (record { replica = d.replica; lo = d.seq; hi = d.seq } ∷ r ∷ rs)) ≡ true) [
      | true ↦ λ t.
          let n = next_is d.replica d.seq r.replica r.lo t in
          let same = n.0 in let follows = n.1 in
          maximal_by (record { replica = d.replica; lo = d.seq; hi = r.hi }) rs (record { small = l.small; one = one; rises = omega arith; most = most }) (begins_later rs (dot_place d.replica r.hi + 1) (stop r + 1) (omega arith) p.apart) p.rest
      | false ↦ λ t.
          maximal_by (record { replica = d.replica; lo = d.seq; hi = d.seq }) (r ∷ rs) (record { small = l.small; one = one; rises = omega arith; most = within }) (apart_is d.replica d.seq r.replica r.lo within b.one (omega arith) t begins) max
    ] refl

begins-put : (n : ℕ) (d : Dot) (rs : List Run) → n < dot_place d.replica d.seq → begins_past n (put_dot d rs) ≡ true
begins-put n d [] lt = lt_by n (dot_place d.replica d.seq) lt
begins-put n d (r ∷ rs) lt = elim ((eqb d.replica r.replica) && (eqb (d.seq + 1) r.lo)) as (λ t. begins_past n (cond t (record { replica = d.replica; lo = d.seq; hi = r.hi } ∷ rs) (record { replica = d.replica; lo = d.seq; hi = d.seq } ∷ r ∷ rs)) ≡ true) [ true ↦ lt_by n (dot_place d.replica d.seq) lt | false ↦ lt_by n (dot_place d.replica d.seq) lt ]

single_is : (a s b t : ℕ) → (eqb a b && leb t s && leb s t) ≡ (eqb a b && eqb s t)
single_is a s b t = grind (arith, nat_tests)

longer_is : (a s b t ρ lo hi : ℕ) → b ≡ ρ → t + 1 ≡ lo → lo ≤ hi → (eqb a b && leb t s && leb s hi) ≡ ((eqb a b && eqb s t) || (eqb a ρ && leb lo s && leb s hi))
longer_is a s b t ρ lo hi p q r = grind (arith, nat_tests)

covers-put : (d : Dot) (rs : List Run) → are_maximal rs ≡ true → (q : Dot) → runs_cover (put_dot d rs) q ≡ (eq_by_cmp dot_cmp q d || runs_cover rs q)
covers-put d [] max q = ap (λ b. b || false) (single_is q.replica q.seq d.replica d.seq ∙ sym (tied_is q.replica d.replica q.seq d.seq))
covers-put d (r ∷ rs) max q =
    let b = (run_parts r rs max).bounds in
    let tie = tied_is q.replica d.replica q.seq d.seq in
    elim ((eqb d.replica r.replica) && (eqb (d.seq + 1) r.lo)) as (λ t. ((eqb d.replica r.replica) && (eqb (d.seq + 1) r.lo)) ≡ t → runs_cover (cond t (record { replica = d.replica; lo = d.seq; hi = r.hi } ∷ rs) (record { replica = d.replica; lo = d.seq; hi = d.seq } ∷ r ∷ rs)) q ≡ (eq_by_cmp dot_cmp q d || runs_cover (r ∷ rs) q)) [
      | true ↦ λ t.
          let n = next_is d.replica d.seq r.replica r.lo t in
          ap (λ x. x || runs_cover rs q) (longer_is q.replica q.seq d.replica d.seq r.replica r.lo r.hi n.0 n.1 b.rises) ∙ or_assoc (eqb q.replica d.replica && eqb q.seq d.seq) (in_run r q) (runs_cover rs q) ∙ ap (λ x. x || runs_cover (r ∷ rs) q) (sym tie)
      | false ↦ λ t. ap (λ x. x || runs_cover (r ∷ rs) q) (single_is q.replica q.seq d.replica d.seq ∙ sym tie)
    ] refl

place_below : (a s b t : ℕ) → s ≤ 281474976710655 → 1 ≤ t → is_lt (ordering_then (nat_cmp a b) (nat_cmp s t)) ≡ true → a * 281474976710656 + s < b * 281474976710656 + t
place_below a s b t p q h = grind (arith, nat_tests)

-- dots that rise, grouped
pub record IsGrouped (ds : List Dot) : Type 0 where
  pub maximal : are_maximal (runs_of_dots ds) ≡ true
  pub same : (q : Dot) → runs_cover (runs_of_dots ds) q ≡ lists ds q

begins-runs_of_dots : (d : Dot) (ds : List Dot) → is_dot d ≡ true → list_all is_dot ds ≡ true → list_all (is_above d) ds ≡ true → begins_past (dot_place d.replica d.seq) (runs_of_dots ds) ≡ true
begins-runs_of_dots d [] is all above = refl
begins-runs_of_dots d (e ∷ ds) is all above =
    let l = dot_limits d is in
    let m = dot_limits e (and_left (is_dot e) _ all) in
    begins-put (dot_place d.replica d.seq) e (runs_of_dots ds) (place_below d.replica d.seq e.replica e.seq l.within m.from_one (and_left (is_above d e) _ above))

pub are_grouped : (ds : List Dot) → ascends ds ≡ true → list_all is_dot ds ≡ true → IsGrouped ds
are_grouped [] rise all = record { maximal = refl; same = λ q. refl }
are_grouped (d ∷ ds) rise all =
    let is = and_left (is_dot d) _ all in
    let later = and_right (is_dot d) _ all in
    let again = are_grouped ds (and_right (list_all (is_above d) ds) _ rise) later in
    record {
      maximal = maximal-put d (runs_of_dots ds) is again.maximal (begins-runs_of_dots d ds is later (and_left (list_all (is_above d) ds) _ rise));
      same = λ q. covers-put d (runs_of_dots ds) again.maximal q ∙ ap (λ b. eq_by_cmp dot_cmp q d || b) (again.same q);
    }

ascends-dots_in_order : (ds : List Dot) → ascends (dots_in_order ds) ≡ true
ascends-dots_in_order [] = refl
ascends-dots_in_order (d ∷ ds) = ascends-merge_of (d ∷ []) (dots_in_order ds) refl (ascends-dots_in_order ds)

lists-dots_in_order : (ds : List Dot) (q : Dot) → lists (dots_in_order ds) q ≡ lists ds q
lists-dots_in_order [] q = refl
lists-dots_in_order (d ∷ ds) q = any-merge_of (eq_by_cmp dot_cmp q) (d ∷ []) (dots_in_order ds) ∙ ap (λ b. b || lists (dots_in_order ds) q) (or-false (eq_by_cmp dot_cmp q d)) ∙ ap (λ b. eq_by_cmp dot_cmp q d || b) (lists-dots_in_order ds q)

all_of_each : (p : Dot → Bool) (ds : List Dot) → ((q : Dot) → lists ds q ≡ true → p q ≡ true) → list_all p ds ≡ true
all_of_each p [] each = refl
all_of_each p (d ∷ ds) each = and_true (p d) _ (each d (ap (λ o. is_eq o || lists ds d) (tied_itself dots_total d))) (all_of_each p ds (λ q h. each q (or_right _ _ h)))

pub are_runs : (s : Dots) → ((d : Dot) → set.contains s d ≡ true → is_dot d ≡ true) → AreRuns s (runs_of s)
unfolding runs_of
are_runs s within =
    let ds = set.items s in
    let same : (q : Dot) → lists (dots_in_order ds) q ≡ set.contains s q = λ q. lists-dots_in_order ds q ∙ sym (set.contains-items s q) in
    let g = are_grouped (dots_in_order ds) (ascends-dots_in_order ds) (all_of_each is_dot (dots_in_order ds) (λ q h. within q (sym (same q) ∙ h))) in
    record { maximal = g.maximal; same = λ d. g.same d ∙ same d }

pub covered_is_dot : (rs : List Run) → are_maximal rs ≡ true → (d : Dot) → runs_cover rs d ≡ true → is_dot d ≡ true
covered_is_dot rs max d h = and_left (is_dot d) _ (sym (covers_is rs max d) ∙ h)

-- so what rises with gaps between and has the dots of the set is its runs
pub runs_are : (s : Dots) (rs : List Run) → AreRuns s rs → runs_of s ≡ rs
runs_are s rs are =
    let within : (d : Dot) → set.contains s d ≡ true → is_dot d ≡ true = λ d h. covered_is_dot rs are.maximal d (are.same d ∙ h) in
    let ours = are_runs s within in
    runs_unique (runs_of s) rs ours.maximal are.maximal (λ d. ours.same d ∙ sym (are.same d))

-- the runs of a list of dots
pub list_runs : (ds : List Dot) → ascends ds ≡ true → list_all is_dot ds ≡ true → runs_of (set.from_list ds) ≡ runs_of_dots ds
list_runs ds rise all =
    let g = are_grouped ds rise all in
    runs_are (set.from_list ds) (runs_of_dots ds) (record { maximal = g.maximal; same = λ d. g.same d ∙ sym (contains_list ds d) })
