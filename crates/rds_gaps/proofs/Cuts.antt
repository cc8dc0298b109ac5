-- The steps of a difference of runs.
use Rattle.std.proofs.Common.{◌≡◌, ℕ, ◌+◌, ◌-◌, ◌<◌, ◌≤◌, Bool, true, false, cond, not, ◌&&◌, ◌||◌, List, [], ◌∷◌, ◌++◌}
use Rattle.std.proofs.Common.{refl, sym, ◌∙◌, ap, arith, leb, ltb, append_assoc}
use Rattle.std.proofs.lemmas.Bool.Decides.{nat_tests}
use Rattle.std.proofs.lemmas.List.Folds.{list_any-append}
use Rattle.rds_dots.specs.declared.dot.Run.{Run}
use Rattle.rds_dots.specs.Runs.{start, stop, is_run, begins_past, are_maximal}
use Rattle.rds_dots.specs.RunFacts.{Bounds, run_parts, is_run_by, maximal_by, spans, has, lt_of, lt_by, start_stop}
use Rattle.rds_dots.specs.RunFacts.{begins_later, has_past}
use Rattle.rds_gaps.specs.Added.{begins_from}
use Rattle.rds_gaps.specs.Cut.{before_cut, after_cut}
use Rattle.rds_gaps.specs.Operations.{IsDifference}
use Rattle.rds_gaps.proofs.Facts.{ge_of, touching, le_of, le_by, from_true, or_none}

-- runs made so far, the run in hand, what is left of both lists, and both as they were
pub record Cutting (out : List Run) (run : Run) (rest right l0 r0 : List Run) : Type 0 where
  pub are : are_maximal (out ++ run ∷ rest) ≡ true
  pub right_are : are_maximal right ≡ true
  pub same : (n : ℕ) → (has out n || (has (run ∷ rest) n && not (has right n))) ≡ (has l0 n && not (has r0 n))

pub begin_cutting : (left right : List Run) (x : Run) (xs : List Run) → left ≡ x ∷ xs → are_maximal left ≡ true → are_maximal right ≡ true → Cutting [] x xs right left right
begin_cutting left right x xs e l r = record { are = ap are_maximal (sym e) ∙ l; right_are = r; same = λ n. ap (λ rs. has rs n && not (has right n)) (sym e) }

pub nothing_to_cut : (left right out : List Run) → left ≡ [] → out ≡ [] → IsDifference left right out
nothing_to_cut left right out e o = record { maximal = ap are_maximal o; same = λ n. ap (λ rs. has rs n) o ∙ ap (λ rs. has rs n && not (has right n)) (sym e) }

suffix : (out ys : List Run) → are_maximal (out ++ ys) ≡ true → are_maximal ys ≡ true
suffix [] ys h = h
suffix (o ∷ out) ys h = suffix out ys (run_parts o (out ++ ys) h).rest

begins_on : (m n : ℕ) (zs : List Run) → m < n → begins_from n zs ≡ true → begins_past m zs ≡ true
begins_on m n [] lt h = refl
begins_on m n (z ∷ zs) lt h = let le = le_of n (start z) h in lt_by m (start z) (omega arith)

-- what follows maximal runs may be changed for maximal runs that begin no earlier
instead : (out : List Run) (r : Run) (rest zs : List Run) → are_maximal (out ++ r ∷ rest) ≡ true → are_maximal zs ≡ true → begins_from (start r) zs ≡ true → are_maximal (out ++ zs) ≡ true
instead [] r rest zs h z b = z
instead (o ∷ []) r rest zs h z b =
    let p = run_parts o (r ∷ rest) h in
    maximal_by o zs p.bounds (begins_on (stop o + 1) (start r) zs (lt_of (stop o + 1) (start r) p.apart) b) z
instead (o ∷ q ∷ out) r rest zs h z b =
    let p = run_parts o (q ∷ (out ++ r ∷ rest)) h in
    maximal_by o (q ∷ (out ++ zs)) p.bounds p.apart (instead (q ∷ out) r rest zs p.rest z b)

-- ---- a run that the cut doesn't reach

drop_is : (o x l c r : Bool) → (c ≡ true → x ≡ false) → (c ≡ true → l ≡ false) → (o || ((x || l) && not r)) ≡ (o || ((x || l) && not (c || r)))
drop_is o x l true r p q = rw (p refl) (rw (q refl) refl)
drop_is o x l false r p q = refl

miss : (sr er sc ec n : ℕ) → ec < sr → (leb sc n && leb n ec) ≡ true → (leb sr n && leb n er) ≡ false
miss sr er sc ec n lt h = grind (arith, nat_tests)

end_of : (sc ec n : ℕ) → (leb sc n && leb n ec) ≡ true → n ≤ ec
end_of sc ec n h = grind (arith, nat_tests)

pub cut_missed : (out : List Run) (run : Run) (rest right l0 r0 : List Run) (cut : Run) (later : List Run) → Cutting out run rest right l0 r0 → right ≡ cut ∷ later → ltb (stop cut) (start run) ≡ true → Cutting out run rest later l0 r0
cut_missed out run rest right l0 r0 cut later m e is =
    let lt = lt_of (stop cut) (start run) is in
    let p = run_parts run rest (suffix out (run ∷ rest) m.are) in
    let rise = start_stop run p.bounds in
    record {
      are = m.are;
      right_are = (run_parts cut later (ap are_maximal (sym e) ∙ m.right_are)).rest;
      same = λ n. drop_is (has out n) (spans run n) (has rest n) (spans cut n) (has later n) (miss (start run) (stop run) (start cut) (stop cut) n lt)
          (λ c. from_true (has rest n) (λ h. let a = has_past rest p.rest (stop run + 1) n p.apart h in let b = end_of (start cut) (stop cut) n c in absurd (omega arith)))
          ∙ ap (λ rs. has out n || (has (run ∷ rest) n && not (has rs n))) (sym e) ∙ m.same n;
    }

-- ---- what is before the cut

all_before : (sr er sc n : ℕ) → er < sc → ((leb sr n && leb n er) || false) ≡ ((leb sr n && leb n er) && ltb n sc)
all_before sr er sc n lt = grind (arith, nat_tests)

part_before : (sr er sc n : ℕ) → sr < sc → sc ≤ er → ((leb sr n && leb n (sc - 1)) || false) ≡ ((leb sr n && leb n er) && ltb n sc)
part_before sr er sc n lt le = grind (arith, nat_tests)

none_before : (sr er sc n : ℕ) → sc ≤ sr → false ≡ ((leb sr n && leb n er) && ltb n sc)
none_before sr er sc n le = grind (arith, nat_tests)

abbrev piece : Run → Run → Run
piece r cut = record { replica = r.replica; lo = r.lo; hi = cut.lo - 1 }

stop-piece : (r cut : Run) → Bounds cut → r.replica ≡ cut.replica → stop (piece r cut) ≡ start cut - 1
stop-piece r cut d rep = let one = d.one in omega arith

has-before : (r cut : Run) → Bounds r → Bounds cut → start r ≤ stop cut → (n : ℕ) → has (before_cut r cut) n ≡ (spans r n && ltb n (start cut))
has-before r cut b d reach n =
    elim (ltb (stop r) (start cut)) as (λ t. ltb (stop r) (start cut) ≡ t → has (cond t (r ∷ []) (cond (ltb (start r) (start cut)) (piece r cut ∷ []) [])) n ≡ (spans r n && ltb n (start cut))) [
      | true ↦ λ t. all_before (start r) (stop r) (start cut) n (lt_of (stop r) (start cut) t)
      | false ↦ λ t. (
          let over = ge_of (stop r) (start cut) t in
          elim (ltb (start r) (start cut)) as (λ u. ltb (start r) (start cut) ≡ u → has (cond u (piece r cut ∷ []) []) n ≡ (spans r n && ltb n (start cut))) [
            | true ↦ λ u. ap (λ e. (leb (start r) n && leb n e) || false) (stop-piece r cut d (touching r cut b d (omega arith) (omega arith))) ∙ part_before (start r) (stop r) (start cut) n (lt_of (start r) (start cut) u) over
            | false ↦ λ u. none_before (start r) (stop r) (start cut) n (ge_of (start r) (start cut) u)
          ] refl)
    ] refl

bounds-piece : (r cut : Run) → Bounds r → Bounds cut → r.replica ≡ cut.replica → start r < start cut → Bounds (piece r cut)
bounds-piece r cut b d rep lt = let one = d.one in let most = d.most in let rises = d.rises in record { small = b.small; one = b.one; rises = omega arith; most = omega arith }

-- what is before the cut, and maximal runs after it
maximal-before : (r cut : Run) (zs : List Run) → Bounds r → Bounds cut → start r ≤ stop cut → are_maximal zs ≡ true → (stop r < start cut → begins_past (stop r + 1) zs ≡ true) → (start cut ≤ stop r → begins_past (start cut) zs ≡ true) → are_maximal (before_cut r cut ++ zs) ≡ true
maximal-before r cut zs b d reach max whole part =
    elim (ltb (stop r) (start cut)) as (λ t. ltb (stop r) (start cut) ≡ t → are_maximal (cond t (r ∷ []) (cond (ltb (start r) (start cut)) (piece r cut ∷ []) []) ++ zs) ≡ true) [
      | true ↦ λ t. maximal_by r zs b (whole (lt_of (stop r) (start cut) t)) max
      | false ↦ λ t. (
          let over = ge_of (stop r) (start cut) t in
          let rep = touching r cut b d (omega arith) (omega arith) in
          elim (ltb (start r) (start cut)) as (λ u. ltb (start r) (start cut) ≡ u → are_maximal (cond u (piece r cut ∷ []) [] ++ zs) ≡ true) [
            | true ↦ λ u. (
                let e = stop-piece r cut d rep in
                let lt = lt_of (start r) (start cut) u in
                let one = d.one in
                maximal_by (piece r cut) zs (bounds-piece r cut b d rep lt) (begins_later zs (stop (piece r cut) + 1) (start cut) (omega arith) (part over)) max)
            | false ↦ λ u. max
          ] refl)
    ] refl

begins-before : (r cut : Run) (zs : List Run) → begins_from (start r) zs ≡ true → begins_from (start r) (before_cut r cut ++ zs) ≡ true
begins-before r cut zs h =
    elim (ltb (stop r) (start cut)) as (λ t. begins_from (start r) (cond t (r ∷ []) (cond (ltb (start r) (start cut)) (piece r cut ∷ []) []) ++ zs) ≡ true) [
      | true ↦ le_by (start r) (start r) (omega arith)
      | false ↦ elim (ltb (start r) (start cut)) as (λ u. begins_from (start r) (cond u (piece r cut ∷ []) [] ++ zs) ≡ true) [ true ↦ le_by (start r) (start r) (omega arith) | false ↦ h ]
    ]

from_past : (n m : ℕ) (zs : List Run) → n ≤ m → begins_past m zs ≡ true → begins_from n zs ≡ true
from_past n m [] le h = refl
from_past n m (z ∷ zs) le h = let lt = lt_of m (start z) h in le_by n (start z) (omega arith)

-- ---- the run goes on past the cut

past_no : (o : Bool) (sr er sc ec n : ℕ) → sr ≤ ec → ec < er → sc ≤ ec → ((o || ((leb sr n && leb n er) && ltb n sc)) || (((leb (ec + 1) n && leb n er) || false) && not false)) ≡ (o || (((leb sr n && leb n er) || false) && not ((leb sc n && leb n ec) || false)))
past_no true sr er sc ec n p q r = refl
past_no false sr er sc ec n p q r = grind (arith, nat_tests)

past_rest : (o r : Bool) (sr er sc ec n : ℕ) → er + 1 < n → sc ≤ ec → ec < er → ((o || ((leb sr n && leb n er) && ltb n sc)) || (((leb (ec + 1) n && leb n er) || true) && not r)) ≡ (o || (((leb sr n && leb n er) || true) && not ((leb sc n && leb n ec) || r)))
past_rest true r sr er sc ec n p q s = refl
past_rest false true sr er sc ec n p q s = grind (arith, nat_tests)
past_rest false false sr er sc ec n p q s = grind (arith, nat_tests)

past_right : (o l : Bool) (sr er sc ec n : ℕ) → ec + 1 < n → sc ≤ ec → ((o || ((leb sr n && leb n er) && ltb n sc)) || (((leb (ec + 1) n && leb n er) || l) && not true)) ≡ (o || (((leb sr n && leb n er) || l) && not ((leb sc n && leb n ec) || true)))
past_right true l sr er sc ec n p q = refl
past_right false true sr er sc ec n p q = grind (arith, nat_tests)
past_right false false sr er sc ec n p q = grind (arith, nat_tests)

past_is : (o l r : Bool) (sr er sc ec n : ℕ) → sr ≤ ec → ec < er → sc ≤ ec → (l ≡ true → er + 1 < n) → (r ≡ true → ec + 1 < n) → ((o || ((leb sr n && leb n er) && ltb n sc)) || (((leb (ec + 1) n && leb n er) || l) && not r)) ≡ (o || (((leb sr n && leb n er) || l) && not ((leb sc n && leb n ec) || r)))
past_is o false false sr er sc ec n p q s hl hr = past_no o sr er sc ec n p q s
past_is o l true sr er sc ec n p q s hl hr = past_right o l sr er sc ec n (hr refl) s
past_is o true r sr er sc ec n p q s hl hr = past_rest o r sr er sc ec n (hl refl) s q

pub cut_past : (out : List Run) (run : Run) (rest right l0 r0 : List Run) (cut : Run) (later out' : List Run) → Cutting out run rest right l0 r0 → right ≡ cut ∷ later → ltb (stop cut) (start run) ≡ false → ltb (stop cut) (stop run) ≡ true → out' ≡ out ++ before_cut run cut → Cutting out' (after_cut run cut) rest later l0 r0
cut_past out run rest right l0 r0 cut later out' m e missed past o =
    let reach = ge_of (stop cut) (start run) missed in
    let lt = lt_of (stop cut) (stop run) past in
    let p = run_parts run rest (suffix out (run ∷ rest) m.are) in
    let q = run_parts cut later (ap are_maximal (sym e) ∙ m.right_are) in
    let b = p.bounds in
    let d = q.bounds in
    let rise = start_stop cut d in
    let rep = touching run cut b d (omega arith) (omega arith) in
    let d1 = d.rises in let d2 = d.one in let d3 = d.most in
    let on : Bounds (after_cut run cut) = record { small = b.small; one = omega arith; rises = omega arith; most = b.most } in
    let starts : start (after_cut run cut) ≡ stop cut + 1 = omega arith in
    let left : are_maximal (after_cut run cut ∷ rest) ≡ true = maximal_by (after_cut run cut) rest on p.apart p.rest in
    let zs = maximal-before run cut (after_cut run cut ∷ rest) b d reach left (λ l. absurd (omega arith)) (λ _. lt_by (start cut) (start (after_cut run cut)) (omega arith)) in
    record {
      are = ap (λ l. are_maximal (l ++ after_cut run cut ∷ rest)) o ∙ ap are_maximal (append_assoc out (before_cut run cut) (after_cut run cut ∷ rest)) ∙ instead out run rest (before_cut run cut ++ after_cut run cut ∷ rest) m.are zs (begins-before run cut (after_cut run cut ∷ rest) (le_by (start run) (start (after_cut run cut)) (omega arith)));
      right_are = q.rest;
      same = λ n. ap (λ l. has l n || (has (after_cut run cut ∷ rest) n && not (has later n))) o
          ∙ ap (λ b. b || (has (after_cut run cut ∷ rest) n && not (has later n))) (list_any-append (λ r. spans r n) out (before_cut run cut) ∙ ap (λ b. has out n || b) (has-before run cut b d reach n))
          ∙ ap (λ s. (has out n || (spans run n && ltb n (start cut))) || (((leb s n && leb n (stop run)) || has rest n) && not (has later n))) starts
          ∙ past_is (has out n) (has rest n) (has later n) (start run) (stop run) (start cut) (stop cut) n reach lt rise (has_past rest p.rest (stop run + 1) n p.apart) (has_past later q.rest (stop cut + 1) n q.apart)
          ∙ ap (λ rs. has out n || (has (run ∷ rest) n && not (has rs n))) (sym e) ∙ m.same n;
    }

-- ---- the run ends with the cut or before it

ends_no : (o l r : Bool) (sr er sc ec n : ℕ) → er ≤ ec → sc ≤ ec → (r ≡ true → ec + 1 < n) → ((o || ((leb sr n && leb n er) && ltb n sc)) || (l && not ((leb sc n && leb n ec) || r))) ≡ (o || (((leb sr n && leb n er) || l) && not ((leb sc n && leb n ec) || r)))
ends_no true l r sr er sc ec n p q h = refl
ends_no false true true sr er sc ec n p q h = let k = h refl in grind (arith, nat_tests)
ends_no false false true sr er sc ec n p q h = let k = h refl in grind (arith, nat_tests)
ends_no false true false sr er sc ec n p q h = grind (arith, nat_tests)
ends_no false false false sr er sc ec n p q h = grind (arith, nat_tests)

-- runs made so far and what is left, with no run in hand
record Between (out rest right l0 r0 : List Run) : Type 0 where
  pub are : are_maximal (out ++ rest) ≡ true
  pub same : (n : ℕ) → (has out n || (has rest n && not (has right n))) ≡ (has l0 n && not (has r0 n))

cut_ends : (out : List Run) (run : Run) (rest right l0 r0 : List Run) (cut : Run) (later out' : List Run) → Cutting out run rest right l0 r0 → right ≡ cut ∷ later → ltb (stop cut) (start run) ≡ false → ltb (stop cut) (stop run) ≡ false → out' ≡ out ++ before_cut run cut → Between out' rest right l0 r0
cut_ends out run rest right l0 r0 cut later out' m e missed past o =
    let reach = ge_of (stop cut) (start run) missed in
    let le = ge_of (stop cut) (stop run) past in
    let p = run_parts run rest (suffix out (run ∷ rest) m.are) in
    let q = run_parts cut later (ap are_maximal (sym e) ∙ m.right_are) in
    let b = p.bounds in
    let d = q.bounds in
    let rise = start_stop cut d in
    let goes = start_stop run b in
    let zs = maximal-before run cut rest b d reach p.rest (λ _. p.apart) (λ over. begins_later rest (start cut) (stop run + 1) (omega arith) p.apart) in
    record {
      are = ap (λ l. are_maximal (l ++ rest)) o ∙ ap are_maximal (append_assoc out (before_cut run cut) rest) ∙ instead out run rest (before_cut run cut ++ rest) m.are zs (begins-before run cut rest (from_past (start run) (stop run + 1) rest (omega arith) p.apart));
      same = λ n. ap (λ l. has l n || (has rest n && not (has right n))) o
          ∙ ap (λ b. b || (has rest n && not (has right n))) (list_any-append (λ r. spans r n) out (before_cut run cut) ∙ ap (λ b. has out n || b) (has-before run cut b d reach n))
          ∙ ap (λ rs. (has out n || (spans run n && ltb n (start cut))) || (has rest n && not (has rs n))) e
          ∙ ends_no (has out n) (has rest n) (has later n) (start run) (stop run) (start cut) (stop cut) n le rise (has_past later q.rest (stop cut + 1) n q.apart)
          ∙ ap (λ rs. has out n || (has (run ∷ rest) n && not (has rs n))) (sym e) ∙ m.same n;
    }

pub cut_next : (out : List Run) (run : Run) (rest right l0 r0 : List Run) (cut : Run) (later out' : List Run) (x : Run) (xs : List Run) → Cutting out run rest right l0 r0 → right ≡ cut ∷ later → ltb (stop cut) (start run) ≡ false → ltb (stop cut) (stop run) ≡ false → out' ≡ out ++ before_cut run cut → rest ≡ x ∷ xs → Cutting out' x xs right l0 r0
cut_next out run rest right l0 r0 cut later out' x xs m e missed past o f =
    let w = cut_ends out run rest right l0 r0 cut later out' m e missed past o in
    record { are = ap (λ l. are_maximal (out' ++ l)) (sym f) ∙ w.are; right_are = m.right_are; same = λ n. ap (λ l. has out' n || (has l n && not (has right n))) (sym f) ∙ w.same n }

append-none : (rs : List Run) → rs ≡ rs ++ []
append-none [] = refl
append-none (r ∷ rs) = ap (λ l. r ∷ l) (append-none rs)

pub cut_last : (out : List Run) (run : Run) (rest right l0 r0 : List Run) (cut : Run) (later out' : List Run) → Cutting out run rest right l0 r0 → right ≡ cut ∷ later → ltb (stop cut) (start run) ≡ false → ltb (stop cut) (stop run) ≡ false → out' ≡ out ++ before_cut run cut → rest ≡ [] → IsDifference l0 r0 out'
cut_last out run rest right l0 r0 cut later out' m e missed past o f =
    let w = cut_ends out run rest right l0 r0 cut later out' m e missed past o in
    record { maximal = ap are_maximal (append-none out') ∙ ap (λ l. are_maximal (out' ++ l)) (sym f) ∙ w.are; same = λ n. sym (or_none (has out' n)) ∙ ap (λ l. has out' n || (has l n && not (has right n))) (sym f) ∙ w.same n }

and_all : (a : Bool) → a ≡ (a && true)
and_all true = refl
and_all false = refl

pub no_more_cuts : (out : List Run) (run : Run) (rest right l0 r0 out' : List Run) → Cutting out run rest right l0 r0 → right ≡ [] → out' ≡ (out ++ run ∷ []) ++ rest → IsDifference l0 r0 out'
no_more_cuts out run rest right l0 r0 out' m e o =
    let all : out' ≡ out ++ run ∷ rest = o ∙ append_assoc out (run ∷ []) rest in
    record {
      maximal = ap are_maximal all ∙ m.are;
      same = λ n. ap (λ l. has l n) all ∙ list_any-append (λ r. spans r n) out (run ∷ rest) ∙ ap (λ b. has out n || b) (and_all (has (run ∷ rest) n)) ∙ ap (λ rs. has out n || (has (run ∷ rest) n && not (has rs n))) (sym e) ∙ m.same n;
    }

pub run_in_hand : (out : List Run) (run : Run) (rest right l0 r0 : List Run) → Cutting out run rest right l0 r0 → is_run run ≡ true
run_in_hand out run rest right l0 r0 m = is_run_by run (run_parts run rest (suffix out (run ∷ rest) m.are)).bounds
