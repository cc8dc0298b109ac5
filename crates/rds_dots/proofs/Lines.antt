-- Dots that rise, each the next of the one before it, found by how far apart two of them are.
use Rattle.std.proofs.Common.{◌≡◌, ℕ, suc, zero, ◌+◌, ◌<◌, ◌≤◌, true, false, cond, ◌&&◌, List, [], ◌∷◌, ◌++◌, length}
use Rattle.std.proofs.Common.{get_or, take, drop, Some, slice_get, refl, sym, ◌∙◌, ap, arith, eqb, inl, inr}
use Rattle.std.specs.List.{list_all}
use Rattle.std.specs.Ordering.{is_lt, nat_cmp, ordering_then}
use Rattle.std.proofs.Math.Seq.{drop-cons, drop-length}
use Rattle.std.proofs.lemmas.Bool.{cases_lt}
use Rattle.std.proofs.lemmas.Bool.Decides.{nat_tests}
use Rattle.std.proofs.lemmas.List.{take-append-drop}
use Rattle.rds_dots.specs.declared.dot.Dot.{Dot}
use Rattle.rds_dots.specs.declared.dot.Run.{Run}
use Rattle.rds_dots.specs.Ascending.{is_above, ascends}
use Rattle.rds_dots.specs.Dots.{first_of, last_of, leads_to}
use Rattle.rds_dots.specs.Drawn.{put_run, leads_by}
use Rattle.rds_dots.specs.Lacking.{dot_of}
use Rattle.rds_dots.specs.Listed.{dots_from}
use Rattle.rds_names.specs.Conditions.{and_left, and_right}
use Rattle.rds_dots.specs.Runs.{put_dot, runs_of_dots}
use Rattle.rds_dots.proofs.Search.{all_at}

past : (a p b q : ℕ) → is_lt (ordering_then (nat_cmp a b) (nat_cmp p q)) ≡ true → b ≡ a → p < q
past a p b q h same = grind (arith, nat_tests)

between : (a p b q t : ℕ) → is_lt (ordering_then (nat_cmp a b) (nat_cmp p q)) ≡ true → is_lt (ordering_then (nat_cmp b a) (nat_cmp q t)) ≡ true → b ≡ a
between a p b q t h k = grind (arith, nat_tests)

-- the first of dots that come after a dot, where a later one is of that one's replica
module _ (r h : ℕ) (d : Dot) (ds : List Dot) (rise : ascends (dot_of r h ∷ d ∷ ds) ≡ true) where
  first_above : is_above (dot_of r h) d ≡ true
  first_above = and_left (is_above (dot_of r h) d) _ (and_left _ (ascends (d ∷ ds)) rise)

  rest_rises : ascends (d ∷ ds) ≡ true
  rest_rises = and_right (list_all (is_above (dot_of r h)) (d ∷ ds)) _ rise

  same_replica : (m s : ℕ) (e : Dot) → m < length ds → get_or ds m e ≡ dot_of r s → d.replica ≡ r
  same_replica m s e lt is = between r h d.replica d.seq s first_above (ap (is_above d) (sym is) ∙ ap is_lt (all_at d e ds (and_left _ (ascends ds) rest_rises) m lt))

  rises_from : d.replica ≡ r → ascends (dot_of r d.seq ∷ ds) ≡ true
  rises_from same = ap (λ n. ascends (dot_of n d.seq ∷ ds)) (sym same) ∙ rest_rises

-- a dot is past another by more than there are dots between
past_by : (r h s : ℕ) (ds : List Dot) (m : ℕ) (e : Dot) → ascends (dot_of r h ∷ ds) ≡ true → m < length ds → get_or ds m e ≡ dot_of r s → h + m < s
past_by r h s [] m e rise lt is = absurd (omega arith)
past_by r h s (d ∷ ds) zero e rise lt is =
    let less = past r h r s (ap (is_above (dot_of r h)) (sym is) ∙ first_above r h d ds rise) refl in omega arith
past_by r h s (d ∷ ds) (suc m) e rise lt is =
    let same = same_replica r h d ds rise m s e (omega arith) is in
    let less = past r h d.replica d.seq (first_above r h d ds rise) same in
    let again = past_by r d.seq s ds m e (rises_from r h d ds rise same) (omega arith) is in
    omega arith

pub same_dot : (d : Dot) (r s : ℕ) → d.replica ≡ r → d.seq ≡ s → d ≡ dot_of r s
same_dot d r s p q i = record { replica = p i; seq = q i }

-- where one is past by just so much, the first is the next
first_next : (r h : ℕ) (d : Dot) (ds : List Dot) (m : ℕ) (e : Dot) → ascends (dot_of r h ∷ d ∷ ds) ≡ true → m < length (d ∷ ds) → get_or (d ∷ ds) m e ≡ dot_of r (h + suc m) → d ≡ dot_of r (h + 1)
first_next r h d ds zero e rise lt is = is
first_next r h d ds (suc m) e rise lt is =
    let same = same_replica r h d ds rise m (h + suc (suc m)) e (omega arith) is in
    let less = past r h d.replica d.seq (first_above r h d ds rise) same in
    let more = past_by r d.seq (h + suc (suc m)) ds m e (rises_from r h d ds rise same) (omega arith) is in
    same_dot d r (h + 1) same (omega arith)

-- and all up to it are one run
pub in_line : (k r h : ℕ) (ds : List Dot) (m : ℕ) (e : Dot) → ascends (dot_of r h ∷ ds) ≡ true → m < length ds → get_or ds m e ≡ dot_of r (h + suc m) → k ≤ suc m → take k ds ≡ dots_from r (h + 1) k
in_line zero r h ds m e rise lt is le = refl
in_line (suc k) r h [] m e rise lt is le = absurd (omega arith)
in_line (suc zero) r h (d ∷ ds) m e rise lt is le = ap (λ x. x ∷ []) (first_next r h d ds m e rise lt is)
in_line (suc (suc k)) r h (d ∷ ds) zero e rise lt is le = absurd (omega arith)
in_line (suc (suc k)) r h (d ∷ ds) (suc m) e rise lt is le =
    let first = first_next r h d ds (suc m) e rise lt is in
    let more : h + suc (suc m) ≡ (h + 1) + suc m = omega arith in
    let later : ascends (dot_of r (h + 1) ∷ ds) ≡ true = ap (λ x. ascends (x ∷ ds)) (sym first) ∙ rest_rises r h d ds rise in
    ap (λ x. x ∷ take (suc k) ds) first ∙ ap (λ l. dot_of r (h + 1) ∷ l) (in_line (suc k) r (h + 1) ds m e later (omega arith) (is ∙ ap (dot_of r) more) (omega arith))

pub leads_next : (r s : ℕ) → (eqb r r && eqb (s + 1) (s + 1)) ≡ true
leads_next r s = grind (arith, nat_tests)

-- a run drawn on through one dot, and through many
draw_one : (r : Run) (rs : List Run) → let more : Run = record { replica = r.replica; lo = r.lo; hi = r.hi + 1 } in put_run r (put_dot (dot_of r.replica (r.hi + 1)) rs) ≡ put_run more rs
draw_one r [] =
    let more : Run = record { replica = r.replica; lo = r.lo; hi = r.hi + 1 } in
    let one : Run = record { replica = r.replica; lo = r.hi + 1; hi = r.hi + 1 } in
    ap (λ t. cond t (more ∷ []) (r ∷ one ∷ [])) (leads_next r.replica r.hi)
draw_one r (s ∷ rs) =
    let more : Run = record { replica = r.replica; lo = r.lo; hi = r.hi + 1 } in
    let one : Run = record { replica = r.replica; lo = r.hi + 1; hi = r.hi + 1 } in
    let long : Run = record { replica = r.replica; lo = r.hi + 1; hi = s.hi } in
    let whole : Run = record { replica = r.replica; lo = r.lo; hi = s.hi } in
    let next = leads_next r.replica r.hi in
    elim (leads_to (dot_of r.replica (r.hi + 1)) (first_of s)) as (λ t. put_run r (cond t (long ∷ rs) (one ∷ s ∷ rs)) ≡ cond t (whole ∷ rs) (more ∷ s ∷ rs)) [
      | true ↦ ap (λ t. cond t (whole ∷ rs) (r ∷ long ∷ rs)) next
      | false ↦ ap (λ t. cond t (more ∷ s ∷ rs) (r ∷ one ∷ s ∷ rs)) next
    ]

draw_line : (n : ℕ) (r : Run) (ds : List Dot) → let more : Run = record { replica = r.replica; lo = r.lo; hi = r.hi + n } in put_run r (runs_of_dots (dots_from r.replica (r.hi + 1) n ++ ds)) ≡ put_run more (runs_of_dots ds)
draw_line zero r ds =
    let upto : ℕ → Run = λ hi. record { replica = r.replica; lo = r.lo; hi = hi } in
    let none : r.hi ≡ r.hi + 0 = omega arith in
    ap (λ hi. put_run (upto hi) (runs_of_dots ds)) none
draw_line (suc n) r ds =
    let upto : ℕ → Run = λ hi. record { replica = r.replica; lo = r.lo; hi = hi } in
    let one : (r.hi + 1) + n ≡ r.hi + suc n = omega arith in
    draw_one r (runs_of_dots (dots_from r.replica (r.hi + 1 + 1) n ++ ds)) ∙ draw_line n (upto (r.hi + 1)) ds ∙ ap (λ hi. put_run (upto hi) (runs_of_dots ds)) one

pub of_one : (a b p q : ℕ) → (eqb a b && eqb p q) ≡ true → b ≡ a
of_one a b p q h = grind (arith, nat_tests)

pub so_far : (a b p q : ℕ) → (eqb a b && eqb p q) ≡ true → q ≡ p
so_far a b p q h = grind (arith, nat_tests)

-- a run drawn on to a dot that is as far past its last as it comes later in the list
pub draw_to : (r : Run) (ds : List Dot) (m : ℕ) (e : Dot) (rise : ascends (last_of r ∷ ds) ≡ true) → m < length ds → leads_by (m + 1) (last_of r) (get_or ds m e) ≡ true
    → (let more : Run = record { replica = r.replica; lo = r.lo; hi = (get_or ds m e).seq } in ((get_or ds m e).seq ≡ r.hi + (m + 1)) × (put_run more (runs_of_dots (drop (m + 1) ds)) ≡ put_run r (runs_of_dots ds)))
draw_to r ds m e rise lt leads =
    let upto : ℕ → Run = λ hi. record { replica = r.replica; lo = r.lo; hi = hi } in
    let same = of_one r.replica (get_or ds m e).replica (r.hi + (m + 1)) (get_or ds m e).seq leads in
    let far = so_far r.replica (get_or ds m e).replica (r.hi + (m + 1)) (get_or ds m e).seq leads in
    let steps : (get_or ds m e).seq ≡ r.hi + suc m = omega (arith, far) in
    let here : get_or ds m e ≡ dot_of r.replica (r.hi + suc m) = same_dot (get_or ds m e) r.replica (r.hi + suc m) same steps in
    let line = in_line (m + 1) r.replica r.hi ds m e rise lt here (omega arith) in
    (far, ap (λ hi. put_run (upto hi) (runs_of_dots (drop (m + 1) ds))) far ∙ sym (draw_line (m + 1) r (drop (m + 1) ds)) ∙ ap (λ l. put_run r (runs_of_dots (l ++ drop (m + 1) ds))) (sym line) ∙ ap (λ l. put_run r (runs_of_dots l)) (take-append-drop (m + 1) ds))

stops : (r : Run) (d : Dot) (rs : List Run) → leads_to (last_of r) d ≡ false → slice_get (put_run r (put_dot d rs)) 0 ≡ Some r
stops r d [] isn't =
    let one : Run = record { replica = d.replica; lo = d.seq; hi = d.seq } in
    let both : Run = record { replica = r.replica; lo = r.lo; hi = d.seq } in
    ap (λ t. slice_get (cond t (both ∷ []) (r ∷ one ∷ [])) 0) isn't
stops r d (s ∷ rs) isn't =
    let one : Run = record { replica = d.replica; lo = d.seq; hi = d.seq } in
    let long : Run = record { replica = d.replica; lo = d.seq; hi = s.hi } in
    let upto : ℕ → Run = λ hi. record { replica = r.replica; lo = r.lo; hi = hi } in
    elim (leads_to d (first_of s)) as (λ t. slice_get (put_run r (cond t (long ∷ rs) (one ∷ s ∷ rs))) 0 ≡ Some r) [
      | true ↦ ap (λ t. slice_get (cond t (upto s.hi ∷ rs) (r ∷ long ∷ rs)) 0) isn't
      | false ↦ ap (λ t. slice_get (cond t (upto d.seq ∷ s ∷ rs) (r ∷ one ∷ s ∷ rs)) 0) isn't
    ]

-- a run that the next of the dots doesn't follow is drawn on no further
pub draw_end : (r : Run) (ds : List Dot) (m : ℕ) (e : Dot) → m ≤ length ds → (m < length ds → leads_to (last_of r) (get_or ds m e) ≡ false) → slice_get (put_run r (runs_of_dots (drop m ds))) 0 ≡ Some r
draw_end r ds m e le apart = elim (cases_lt m (length ds)) [
  | inl lt ↦ ap (λ l. slice_get (put_run r (runs_of_dots l)) 0) (drop-cons ds m e lt) ∙ stops r (get_or ds m e) (runs_of_dots (drop (suc m) ds)) (apart lt)
  | inr ge ↦ (let all : m ≡ length ds = omega arith in ap (λ k. slice_get (put_run r (runs_of_dots (drop k ds))) 0) all ∙ ap (λ l. slice_get (put_run r (runs_of_dots l)) 0) (drop-length ds))
]

-- and so a run that was drawn on to where the dots are no more in line
pub drawn_whole : (r s : Run) (ds : List Dot) (low high : ℕ) → first_of s ≡ first_of r → s.hi ≡ r.hi + low → put_run s (runs_of_dots (drop low ds)) ≡ put_run r (runs_of_dots ds) → low ≤ high → high ≤ low → high ≤ length ds
    → (high < length ds → (d : Dot) → leads_by (high + 1) (last_of r) (get_or ds high d) ≡ false) → slice_get (put_run r (runs_of_dots ds)) 0 ≡ Some s
drawn_whole r s ds low high first last whole le ge within apart =
    let at : high ≡ low = omega arith in
    let e : Dot = first_of r in
    let same : s.replica ≡ r.replica = ap (λ (d : Dot). d.replica) first in
    let steps : s.hi + 1 ≡ r.hi + (high + 1) = omega arith in
    ap (λ rs. slice_get rs 0) (sym whole) ∙ draw_end s ds low e (omega arith) (λ lt. ap (λ k. leads_to (last_of s) (get_or ds k e)) (sym at) ∙ ap (λ n. eqb n (get_or ds high e).replica && eqb (s.hi + 1) (get_or ds high e).seq) same ∙ ap (λ n. eqb r.replica (get_or ds high e).replica && eqb n (get_or ds high e).seq) steps ∙ apart (omega (arith, lt)) e)
