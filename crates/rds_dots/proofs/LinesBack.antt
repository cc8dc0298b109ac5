-- Dots that rise and lead up to a run, found by how far before it they are.
use Rattle.std.proofs.Common.{◌≡◌, ℕ, suc, zero, ◌+◌, ◌-◌, ◌<◌, ◌≤◌, Bool, true, false, cond, not, ◌&&◌, List, [], ◌∷◌}
use Rattle.std.proofs.Common.{◌++◌, length, get_or, take, drop, Option, Some, refl, sym, ◌∙◌, ap, arith, eqb}
use Rattle.std.specs.List.{list_all}
use Rattle.std.proofs.Math.Seq.{take-append_seam, take-suc, get_or-append_seam}
use Rattle.std.proofs.lemmas.Bool.Decides.{nat_tests}
use Rattle.std.proofs.lemmas.List.{take-append-drop}
use Rattle.rds_dots.specs.declared.dot.Dot.{Dot}
use Rattle.rds_dots.specs.declared.dot.Run.{Run}
use Rattle.rds_dots.specs.Ascending.{is_above, ascends}
use Rattle.rds_dots.specs.Dots.{first_of, last_of, comes_after, leads_to}
use Rattle.rds_dots.specs.Drawn.{leads_by, put_dots}
use Rattle.rds_dots.specs.Lacking.{dot_of}
use Rattle.rds_dots.specs.Listed.{dots_from}
use Rattle.rds_names.specs.Conditions.{and_right}
use Rattle.rds_dots.specs.Runs.{first_after}
use Rattle.rds_dots.proofs.Draws.{stop_back, find_first, put_dots-append}
use Rattle.rds_dots.proofs.Lines.{in_line, same_dot, leads_next, of_one, so_far}
use Rattle.rds_dots.proofs.Parts.{all_front}

longer : (ds : List Dot) (d : Dot) → length ds < length (ds ++ d ∷ [])
longer [] d = omega arith
longer (e ∷ ds) d = let le = longer ds d in omega arith

-- dots that are as far before a dot as they come earlier in the list are one run
line_back : (r lo s : ℕ) (ds : List Dot) (m n : ℕ) (e : Dot) → ascends (ds ++ dot_of r lo ∷ []) ≡ true → n + m ≡ length ds → 1 ≤ n → get_or ds m e ≡ dot_of r s → s + n ≡ lo → drop m ds ≡ dots_from r s n
line_back r lo s [] m n e rise many some is far = absurd (omega arith)
line_back r lo s (d ∷ ds) zero n e rise many some is far =
    let first : Dot = dot_of r lo in
    let count : suc (length ds) ≡ n = omega arith in
    let last : get_or (ds ++ first ∷ []) (length ds) e ≡ dot_of r (s + suc (length ds)) = get_or-append_seam ds first [] e ∙ ap (dot_of r) (omega arith) in
    let later = in_line (length ds) r s (ds ++ first ∷ []) (length ds) e (ap (λ x. ascends (x ∷ (ds ++ first ∷ []))) (sym is) ∙ rise) (longer ds first) last (omega arith) in
    ap (λ x. x ∷ ds) is ∙ ap (λ l. dot_of r s ∷ l) (sym (take-append_seam ds (first ∷ [])) ∙ later) ∙ ap (dots_from r s) count
line_back r lo s (d ∷ ds) (suc m) n e rise many some is far =
    line_back r lo s ds m n e (and_right (list_all (is_above d) (ds ++ dot_of r lo ∷ [])) _ rise) (omega arith) some is far

-- a run drawn back through such dots
put_line : (n s : ℕ) (r : Run) (rs : List Run) → s + n ≡ r.lo → let more : Run = record { replica = r.replica; lo = s; hi = r.hi } in put_dots (dots_from r.replica s n) (r ∷ rs) ≡ more ∷ rs
put_line zero s r rs far =
    let from : ℕ → Run = λ lo. record { replica = r.replica; lo = lo; hi = r.hi } in
    let same : r.lo ≡ s = omega arith in
    ap (λ lo. from lo ∷ rs) same
put_line (suc n) s r rs far =
    let from : ℕ → Run = λ lo. record { replica = r.replica; lo = lo; hi = r.hi } in
    let one : Run = record { replica = r.replica; lo = s; hi = s } in
    ap (put_dots (dot_of r.replica s ∷ [])) (put_line n (s + 1) r rs (omega arith)) ∙ ap (λ t. cond t (from s ∷ rs) (one ∷ from (s + 1) ∷ rs)) (leads_next r.replica s)

-- a run drawn back to a dot that is as far before its first as it comes earlier in the list
pub put_to : (r : Run) (ds : List Dot) (m : ℕ) (e : Dot) → ascends (ds ++ first_of r ∷ []) ≡ true → m < length ds → leads_by (length ds - m) (get_or ds m e) (first_of r) ≡ true
    → (let more : Run = record { replica = r.replica; lo = (get_or ds m e).seq; hi = r.hi } in ((get_or ds m e).seq + (length ds - m) ≡ r.lo) × ((rs : List Run) → put_dots (take m ds) (more ∷ rs) ≡ put_dots ds (r ∷ rs)))
put_to r ds m e rise lt leads =
    let s = (get_or ds m e).seq in
    let n = length ds - m in
    let same = of_one (get_or ds m e).replica r.replica (s + n) r.lo leads in
    let far : s + n ≡ r.lo = sym (so_far (get_or ds m e).replica r.replica (s + n) r.lo leads) in
    let line = line_back r.replica r.lo s ds m n e rise (omega (arith, lt)) (omega (arith, lt)) (same_dot _ _ _ (sym same) refl) far in
    (far, λ rs. ap (put_dots (take m ds)) (sym (put_line n s r rs far)) ∙ ap (λ l. put_dots (take m ds) (put_dots l (r ∷ rs))) (sym line) ∙ sym (put_dots-append (take m ds) (drop m ds) (r ∷ rs)) ∙ ap (λ l. put_dots l (r ∷ rs)) (take-append-drop m ds))

all_taken : (p : Dot → Bool) (ds : List Dot) (m : ℕ) → list_all p ds ≡ true → list_all p (take m ds) ≡ true
all_taken p ds m all = all_front p (take m ds) (drop m ds) (ap (list_all p) (take-append-drop m ds) ∙ all)

-- a run that the dot before it doesn't lead up to is drawn back no further
put_end : (after : Option Dot) (ds : List Dot) (m : ℕ) (e : Dot) (r : Run) (rs : List Run) → m ≤ length ds → list_all (λ d. not (comes_after after d)) ds ≡ true → comes_after after (last_of r) ≡ true → (1 ≤ m → leads_to (get_or ds (m - 1) e) (first_of r) ≡ false) → first_after after (put_dots (take m ds) (r ∷ rs)) ≡ Some r
put_end after ds zero e r rs le early ends apart = sym (find_first after r rs (r ∷ rs) refl ends)
put_end after ds (suc m) e r rs le early ends apart =
    let lt : m < length ds = omega arith in
    let before : m ≡ suc m - 1 = omega arith in
    let one = take-suc ds m e lt in
    ap (λ l. first_after after (put_dots l (r ∷ rs))) one ∙ stop_back after (take m ds) (get_or ds m e) r rs (ap (list_all _) (sym one) ∙ all_taken _ ds (suc m) early) ends (ap (λ k. leads_to (get_or ds k e) (first_of r)) before ∙ apart (omega arith))

-- and so a run that was drawn back to where the dots are no more in line
pub drawn_first : (after : Option Dot) (r s : Run) (ds : List Dot) (low high : ℕ) (rs : List Run) → last_of s ≡ last_of r → s.lo + (length ds - high) ≡ r.lo → put_dots (take high ds) (s ∷ rs) ≡ put_dots ds (r ∷ rs) → low ≤ high → high ≤ low → high ≤ length ds
    → (1 ≤ low → (d : Dot) → leads_by (length ds - (low - 1)) (get_or ds (low - 1) d) (first_of r) ≡ false) → list_all (λ d. not (comes_after after d)) ds ≡ true → comes_after after (last_of r) ≡ true → first_after after (put_dots ds (r ∷ rs)) ≡ Some s
drawn_first after r s ds low high rs last far whole le ge within apart early ends =
    let at : high ≡ low = omega arith in
    let e : Dot = first_of r in
    let d : Dot = get_or ds (low - 1) e in
    let same : s.replica ≡ r.replica = ap (λ (x : Dot). x.replica) last in
    ap (first_after after) (sym whole) ∙ put_end after ds high e s rs within early (ap (comes_after after) last ∙ ends) (λ one.
    ap (λ k. leads_to (get_or ds (k - 1) e) (first_of s)) at ∙ ap (λ n. eqb d.replica n && eqb (d.seq + 1) s.lo) same
    ∙ ap (λ b. eqb d.replica r.replica && b) (as_far d.seq (length ds - high) (length ds - (low - 1)) s.lo r.lo far (omega (arith, one)))
    ∙ apart (omega (arith, one)) e)
  where
    as_far : (a n k lo first : ℕ) → lo + n ≡ first → k ≡ n + 1 → eqb (a + 1) lo ≡ eqb (a + k) first
    as_far a n k lo first p q = grind (arith, nat_tests)
