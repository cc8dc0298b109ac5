-- A run added behind others: what they go through then, and that they stay maximal.
use Rattle.std.proofs.Common.{◌≡◌, ℕ, ◌+◌, ◌*◌, ◌<◌, ◌≤◌, Bool, true, false, cond, ◌&&◌, ◌||◌, List, [], ◌∷◌, refl, sym}
use Rattle.std.proofs.Common.{◌∙◌, ap, arith, leb, ltb}
use Rattle.std.proofs.lemmas.Bool.Decides.{nat_tests}
use Rattle.rds_dots.specs.declared.dot.Run.{Run}
use Rattle.rds_dots.specs.Runs.{start, stop, begins_past, are_maximal}
use Rattle.rds_dots.specs.RunFacts.{Bounds, run_parts, maximal_by, spans, has, lt_of, start_stop}
use Rattle.rds_gaps.specs.Added.{stretch_of, addition, added_behind, last_start, last_start_behind}
use Rattle.rds_gaps.proofs.Facts.{ge_of, touching, or_none, or_assoc}

bounds-stretch_of : (r z : Run) → Bounds r → Bounds z → start r ≤ start z → Bounds (stretch_of r z)
bounds-stretch_of r z b c le = elim (ltb r.hi z.hi) as (λ t. ltb r.hi z.hi ≡ t → Bounds (cond t (record { replica = r.replica; lo = r.lo; hi = z.hi }) r)) [
  | true ↦ λ t. (let lt = lt_of r.hi z.hi t in let rises = b.rises in record { small = b.small; one = b.one; rises = omega arith; most = c.most })
  | false ↦ λ _. b
] refl

start-stretch_of : (r z : Run) → start (stretch_of r z) ≡ start r
start-stretch_of r z = elim (ltb r.hi z.hi) as (λ t. start (cond t (record { replica = r.replica; lo = r.lo; hi = z.hi }) r) ≡ start r) [ true ↦ refl | false ↦ refl ]

begins-behind : (n : ℕ) (r : Run) (rs : List Run) (z : Run) → begins_past n (added_behind r rs z) ≡ ltb n (start r)
begins-behind n r [] z = elim (ltb (stop r + 1) (start z)) as (λ t. begins_past n (cond t (r ∷ z ∷ []) (stretch_of r z ∷ [])) ≡ ltb n (start r)) [ true ↦ refl | false ↦ ap (ltb n) (start-stretch_of r z) ]
begins-behind n r (s ∷ rs) z = refl

maximal-behind : (r : Run) (rs : List Run) (z : Run) → are_maximal (r ∷ rs) ≡ true → Bounds z → last_start_behind r rs ≤ start z → are_maximal (added_behind r rs z) ≡ true
maximal-behind r [] z max c le =
    let p = run_parts r [] max in
    elim (ltb (stop r + 1) (start z)) as (λ t. ltb (stop r + 1) (start z) ≡ t → are_maximal (cond t (r ∷ z ∷ []) (stretch_of r z ∷ [])) ≡ true) [
      | true ↦ λ t. maximal_by r (z ∷ []) p.bounds t (maximal_by z [] c refl refl)
      | false ↦ λ _. maximal_by (stretch_of r z) [] (bounds-stretch_of r z p.bounds c le) refl refl
    ] refl
maximal-behind r (s ∷ rs) z max c le =
    let p = run_parts r (s ∷ rs) max in
    maximal_by r (added_behind s rs z) p.bounds (begins-behind (stop r + 1) s rs z ∙ p.apart) (maximal-behind s rs z p.rest c le)

pub maximal-addition : (rs : List Run) (z : Run) → are_maximal rs ≡ true → Bounds z → last_start rs ≤ start z → are_maximal (addition rs z) ≡ true
maximal-addition [] z max c le = maximal_by z [] c refl refl
maximal-addition (r ∷ rs) z max c le = maximal-behind r rs z max c le

or_swap : (a b : Bool) → (a || (b || false)) ≡ ((a || false) || b)
or_swap true b = refl
or_swap false true = refl
or_swap false false = refl

joined_is : (sr er sz ez n : ℕ) → sr ≤ sz → sz ≤ er + 1 → er < ez → ((leb sr n && leb n ez) || false) ≡ (((leb sr n && leb n er) || false) || (leb sz n && leb n ez))
joined_is sr er sz ez n p q r = grind (arith, nat_tests)

inside_is : (sr er sz ez n : ℕ) → sr ≤ sz → ez ≤ er → ((leb sr n && leb n er) || false) ≡ (((leb sr n && leb n er) || false) || (leb sz n && leb n ez))
inside_is sr er sz ez n p r = grind (arith, nat_tests)

has-stretch_of : (r z : Run) → Bounds r → Bounds z → start r ≤ start z → start z ≤ stop r + 1 → (n : ℕ) → (spans (stretch_of r z) n || false) ≡ ((spans r n || false) || spans z n)
has-stretch_of r z b c le touch n =
    let rep = touching r z b c touch (let rise = start_stop z c in omega arith) in
    let stop_is : r.replica * 281474976710656 + z.hi ≡ stop z = ap (λ a. a * 281474976710656 + z.hi) rep in
    elim (ltb r.hi z.hi) as (λ t. ltb r.hi z.hi ≡ t → (spans (cond t (record { replica = r.replica; lo = r.lo; hi = z.hi }) r) n || false) ≡ ((spans r n || false) || spans z n)) [
      | true ↦ λ t. (let lt = lt_of r.hi z.hi t in ap (λ e. (leb (start r) n && leb n e) || false) stop_is ∙ joined_is (start r) (stop r) (start z) (stop z) n le touch (omega arith))
      | false ↦ λ t. (let ge = ge_of r.hi z.hi t in inside_is (start r) (stop r) (start z) (stop z) n le (omega arith))
    ] refl

has-behind : (r : Run) (rs : List Run) (z : Run) → are_maximal (r ∷ rs) ≡ true → Bounds z → last_start_behind r rs ≤ start z → (n : ℕ) → has (added_behind r rs z) n ≡ (has (r ∷ rs) n || spans z n)
has-behind r [] z max c le n =
    let p = run_parts r [] max in
    elim (ltb (stop r + 1) (start z)) as (λ t. ltb (stop r + 1) (start z) ≡ t → has (cond t (r ∷ z ∷ []) (stretch_of r z ∷ [])) n ≡ (has (r ∷ []) n || spans z n)) [
      | true ↦ λ t. or_swap (spans r n) (spans z n)
      | false ↦ λ t. has-stretch_of r z p.bounds c le (ge_of (stop r + 1) (start z) t) n
    ] refl
has-behind r (s ∷ rs) z max c le n = ap (λ b. spans r n || b) (has-behind s rs z (run_parts r (s ∷ rs) max).rest c le n) ∙ sym (or_assoc (spans r n) (has (s ∷ rs) n) (spans z n))

pub has-addition : (rs : List Run) (z : Run) → are_maximal rs ≡ true → Bounds z → last_start rs ≤ start z → (n : ℕ) → has (addition rs z) n ≡ (has rs n || spans z n)
has-addition [] z max c le n = or_none (spans z n)
has-addition (r ∷ rs) z max c le n = has-behind r rs z max c le n

last_start_of-behind : (r : Run) (rs : List Run) (z : Run) → last_start_behind r rs ≤ start z → last_start (added_behind r rs z) ≤ start z
last_start_of-behind r [] z le =
    elim (ltb (stop r + 1) (start z)) as (λ t. last_start (cond t (r ∷ z ∷ []) (stretch_of r z ∷ [])) ≤ start z) [ true ↦ omega arith | false ↦ (let e = start-stretch_of r z in omega arith) ]
last_start_of-behind r (s ∷ rs) z le = more r s rs z (last_start_of-behind s rs z le)
  where
    more : (r s : Run) (rs : List Run) (z : Run) → last_start (added_behind s rs z) ≤ start z → last_start (r ∷ added_behind s rs z) ≤ start z
    more r s [] z h = elim (ltb (stop s + 1) (start z)) as (λ t. last_start (cond t (s ∷ z ∷ []) (stretch_of s z ∷ [])) ≤ start z → last_start (r ∷ cond t (s ∷ z ∷ []) (stretch_of s z ∷ [])) ≤ start z) [ true ↦ λ h. h | false ↦ λ h. h ] h
    more r s (q ∷ rs) z h = h

pub last_start-addition : (rs : List Run) (z : Run) → last_start rs ≤ start z → last_start (addition rs z) ≤ start z
last_start-addition [] z le = omega arith
last_start-addition (r ∷ rs) z le = last_start_of-behind r rs z le
