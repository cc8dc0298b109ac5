-- A run inserted among others: what they go through then, and that they stay maximal.
use Rattle.std.proofs.Common.{◌≡◌, ℕ, ◌+◌, ◌*◌, ◌<◌, ◌≤◌, Bool, true, false, cond, ◌&&◌, ◌||◌, List, [], ◌∷◌, refl, sym}
use Rattle.std.proofs.Common.{◌∙◌, ap, arith, leb, ltb, Result, Ok, Err, OnOk, OnErr}
use Rattle.std.proofs.lemmas.Bool.Decides.{nat_tests}
use Rattle.rds_dots.specs.declared.dot.Run.{Run}
use Rattle.rds_dots.specs.Runs.{start, stop, begins_past, are_maximal}
use Rattle.rds_dots.specs.RunFacts.{Bounds, run_parts, maximal_by, spans, has, lt_of, lt_by, start_stop, begins_later}
use Rattle.rds_gaps.specs.Operations.{IsUnion}
use Rattle.rds_gaps.specs.Inserted.{hull, insertion}
use Rattle.rds_gaps.proofs.Facts.{ge_of, touching, or_none, or_assoc, or_last}

low_of : (a b : ℕ) → 1 ≤ a → 1 ≤ b → 1 ≤ cond (ltb a b) a b
low_of a b p q = elim (ltb a b) as (λ t. 1 ≤ cond t a b) [ true ↦ p | false ↦ q ]

least_of : (a b : ℕ) → cond (ltb a b) a b ≤ b
least_of a b = elim (ltb a b) as (λ t. ltb a b ≡ t → cond t a b ≤ b) [ true ↦ λ t. (let lt = lt_of a b t in omega arith) | false ↦ λ _. omega arith ] refl

most_of : (a b : ℕ) → b ≤ cond (ltb b a) a b
most_of a b = elim (ltb b a) as (λ t. ltb b a ≡ t → b ≤ cond t a b) [ true ↦ λ t. (let lt = lt_of b a t in omega arith) | false ↦ λ _. omega arith ] refl

below_both : (a b m : ℕ) → a ≤ m → b ≤ m → cond (ltb b a) a b ≤ m
below_both a b m p q = elim (ltb b a) as (λ t. cond t a b ≤ m) [ true ↦ p | false ↦ q ]

pub bounds-hull : (r z : Run) → Bounds r → Bounds z → Bounds (hull r z)
bounds-hull r z b c =
    let low = least_of r.lo z.lo in
    let high = most_of r.hi z.hi in
    let rises = c.rises in
    record { small = c.small; one = low_of r.lo z.lo b.one c.one; rises = omega arith; most = below_both r.hi z.hi 281474976710655 b.most c.most }

-- it begins no later than the run
pub start-hull : (r z : Run) → start (hull r z) ≤ start z
start-hull r z = let low = least_of r.lo z.lo in omega arith

first_past : (m : ℕ) (r z : Run) → r.replica ≡ z.replica → m < start r → m < start z → m < start (hull r z)
first_past m r z same p q = elim (ltb r.lo z.lo) as (λ t. m < z.replica * 281474976710656 + cond t r.lo z.lo) [ true ↦ omega (arith, same) | false ↦ q ]

within_both : (sr er sz ez n : ℕ) → sr < sz → ez < er → (leb sr n && leb n er) ≡ ((leb sr n && leb n er) || (leb sz n && leb n ez))
within_both sr er sz ez n p q = grind (arith, nat_tests)

on_left : (sr er sz ez n : ℕ) → sz ≤ er + 1 → sr < sz → er ≤ ez → (leb sr n && leb n ez) ≡ ((leb sr n && leb n er) || (leb sz n && leb n ez))
on_left sr er sz ez n p q r = grind (arith, nat_tests)

on_right : (sr er sz ez n : ℕ) → sr ≤ ez + 1 → sz ≤ sr → ez < er → (leb sz n && leb n er) ≡ ((leb sr n && leb n er) || (leb sz n && leb n ez))
on_right sr er sz ez n p q r = grind (arith, nat_tests)

around : (sr er sz ez n : ℕ) → sz ≤ sr → er ≤ ez → (leb sz n && leb n ez) ≡ ((leb sr n && leb n er) || (leb sz n && leb n ez))
around sr er sz ez n p q = grind (arith, nat_tests)

spans-parts : (a lo hi ρ n : ℕ) → a ≡ ρ → (leb (a * 281474976710656 + lo) n && leb n (a * 281474976710656 + hi)) ≡ (leb (ρ * 281474976710656 + lo) n && leb n (ρ * 281474976710656 + hi))
spans-parts a lo hi ρ n e = ap (λ (x : ℕ). leb (x * 281474976710656 + lo) n && leb n (x * 281474976710656 + hi)) e

pub spans-hull : (r z : Run) → Bounds r → Bounds z → start z ≤ stop r + 1 → start r ≤ stop z + 1 → (n : ℕ) → spans (hull r z) n ≡ (spans r n || spans z n)
spans-hull r z b c p q n =
    let same = touching r z b c p q in
    let at : ℕ → ℕ = λ s. z.replica * 281474976710656 + s in
    let moved : spans r n ≡ (leb (z.replica * 281474976710656 + r.lo) n && leb n (z.replica * 281474976710656 + r.hi)) = spans-parts r.replica r.lo r.hi z.replica n same in
    elim (ltb r.lo z.lo) as (λ t. ltb r.lo z.lo ≡ t → (leb (z.replica * 281474976710656 + cond t r.lo z.lo) n && leb n (z.replica * 281474976710656 + cond (ltb z.hi r.hi) r.hi z.hi)) ≡ (spans r n || spans z n)) [
      | true ↦ λ low. (let lt = lt_of r.lo z.lo low in elim (ltb z.hi r.hi) as (λ u. ltb z.hi r.hi ≡ u → (leb (z.replica * 281474976710656 + r.lo) n && leb n (z.replica * 281474976710656 + cond u r.hi z.hi)) ≡ (spans r n || spans z n)) [
        | true ↦ λ high. (let gt = lt_of z.hi r.hi high in within_both (z.replica * 281474976710656 + r.lo) (z.replica * 281474976710656 + r.hi) (start z) (stop z) n (omega arith) (omega arith) ∙ ap (λ x. x || spans z n) (sym moved))
        | false ↦ λ high. (let le = ge_of z.hi r.hi high in on_left (z.replica * 281474976710656 + r.lo) (z.replica * 281474976710656 + r.hi) (start z) (stop z) n (omega (arith, same)) (omega arith) (omega arith) ∙ ap (λ x. x || spans z n) (sym moved))
      ] refl)
      | false ↦ λ low. (let ge = ge_of r.lo z.lo low in elim (ltb z.hi r.hi) as (λ u. ltb z.hi r.hi ≡ u → (leb (z.replica * 281474976710656 + z.lo) n && leb n (z.replica * 281474976710656 + cond u r.hi z.hi)) ≡ (spans r n || spans z n)) [
        | true ↦ λ high. (let gt = lt_of z.hi r.hi high in on_right (z.replica * 281474976710656 + r.lo) (z.replica * 281474976710656 + r.hi) (start z) (stop z) n (omega (arith, same)) (omega arith) (omega arith) ∙ ap (λ x. x || spans z n) (sym moved))
        | false ↦ λ high. (let le = ge_of z.hi r.hi high in around (z.replica * 281474976710656 + r.lo) (z.replica * 281474976710656 + r.hi) (start z) (stop z) n (omega arith) (omega arith) ∙ ap (λ x. x || spans z n) (sym moved))
      ] refl)
    ] refl

begins-insertion : (m : ℕ) (rs : List Run) (z : Run) → are_maximal rs ≡ true → Bounds z → begins_past m rs ≡ true → m < start z → begins_past m (insertion rs z) ≡ true
begins-insertion m [] z max c begins lt = lt_by m (start z) lt
begins-insertion m (r ∷ rs) z max c begins lt =
    let p = run_parts r rs max in
    let first = lt_of m (start r) begins in
    let rise = start_stop r p.bounds in
    elim (ltb (stop r + 1) (start z)) as (λ t. ltb (stop r + 1) (start z) ≡ t → begins_past m (cond t (r ∷ insertion rs z) (cond (ltb (stop z + 1) (start r)) (z ∷ r ∷ rs) (insertion rs (hull r z)))) ≡ true) [
      | true ↦ λ _. begins
      | false ↦ λ low. elim (ltb (stop z + 1) (start r)) as (λ u. ltb (stop z + 1) (start r) ≡ u → begins_past m (cond u (z ∷ r ∷ rs) (insertion rs (hull r z))) ≡ true) [
        | true ↦ λ _. lt_by m (start z) lt
        | false ↦ λ high. (
            let same = touching r z p.bounds c (ge_of (stop r + 1) (start z) low) (ge_of (stop z + 1) (start r) high) in
            begins-insertion m rs (hull r z) p.rest (bounds-hull r z p.bounds c) (begins_later rs m (stop r + 1) (omega arith) p.apart) (first_past m r z same first lt))
      ] refl
    ] refl

maximal-insertion : (rs : List Run) (z : Run) → are_maximal rs ≡ true → Bounds z → are_maximal (insertion rs z) ≡ true
maximal-insertion [] z max c = maximal_by z [] c refl refl
maximal-insertion (r ∷ rs) z max c =
    let p = run_parts r rs max in
    elim (ltb (stop r + 1) (start z)) as (λ t. ltb (stop r + 1) (start z) ≡ t → are_maximal (cond t (r ∷ insertion rs z) (cond (ltb (stop z + 1) (start r)) (z ∷ r ∷ rs) (insertion rs (hull r z)))) ≡ true) [
      | true ↦ λ low. maximal_by r (insertion rs z) p.bounds (begins-insertion (stop r + 1) rs z p.rest c p.apart (lt_of (stop r + 1) (start z) low)) (maximal-insertion rs z p.rest c)
      | false ↦ λ _. elim (ltb (stop z + 1) (start r)) as (λ u. ltb (stop z + 1) (start r) ≡ u → are_maximal (cond u (z ∷ r ∷ rs) (insertion rs (hull r z))) ≡ true) [
        | true ↦ λ high. maximal_by z (r ∷ rs) c high max
        | false ↦ λ _. maximal-insertion rs (hull r z) p.rest (bounds-hull r z p.bounds c)
      ] refl
    ] refl

or_back : (a b c : Bool) → (c || (a || b)) ≡ ((a || b) || c)
or_back true b true = refl
or_back true b false = refl
or_back false true true = refl
or_back false true false = refl
or_back false false true = refl
or_back false false false = refl

or_turn : (a b c : Bool) → (b || (a || c)) ≡ ((a || b) || c)
or_turn true true c = refl
or_turn true false c = refl
or_turn false b c = refl

has-insertion : (rs : List Run) (z : Run) → are_maximal rs ≡ true → Bounds z → (n : ℕ) → has (insertion rs z) n ≡ (has rs n || spans z n)
has-insertion [] z max c n = or_none (spans z n)
has-insertion (r ∷ rs) z max c n =
    let p = run_parts r rs max in
    elim (ltb (stop r + 1) (start z)) as (λ t. ltb (stop r + 1) (start z) ≡ t → has (cond t (r ∷ insertion rs z) (cond (ltb (stop z + 1) (start r)) (z ∷ r ∷ rs) (insertion rs (hull r z)))) n ≡ (has (r ∷ rs) n || spans z n)) [
      | true ↦ λ _. ap (λ x. spans r n || x) (has-insertion rs z p.rest c n) ∙ sym (or_assoc (spans r n) (has rs n) (spans z n))
      | false ↦ λ low. elim (ltb (stop z + 1) (start r)) as (λ u. ltb (stop z + 1) (start r) ≡ u → has (cond u (z ∷ r ∷ rs) (insertion rs (hull r z))) n ≡ (has (r ∷ rs) n || spans z n)) [
        | true ↦ λ _. or_back (spans r n) (has rs n) (spans z n)
        | false ↦ λ high.
            has-insertion rs (hull r z) p.rest (bounds-hull r z p.bounds c) n
            ∙ ap (λ x. has rs n || x) (spans-hull r z p.bounds c (ge_of (stop r + 1) (start z) low) (ge_of (stop z + 1) (start r) high) n)
            ∙ or_turn (spans r n) (has rs n) (spans z n)
      ] refl
    ] refl

-- a run inserted among runs is a union with it
pub inserted_union : (rs : List Run) (z : Run) → are_maximal rs ≡ true → Bounds z → IsUnion rs (z ∷ []) (insertion rs z)
inserted_union rs z max c = record { maximal = maximal-insertion rs z max c; same = λ n. has-insertion rs z max c n ∙ or_last (has rs n) (spans z n) }

-- inserted in or left as they were, the runs are maximal
pub either_inserted : {T E : Type 0} (r : Result T E) (old new : List Run) (z : Run) → OnOk r (new ≡ insertion old z) → OnErr r (new ≡ old) → are_maximal old ≡ true → Bounds z → are_maximal new ≡ true
either_inserted (Ok x) old new z a b om c = ap are_maximal a ∙ (inserted_union old z om c).maximal
either_inserted (Err x) old new z a b om c = ap are_maximal b ∙ om
