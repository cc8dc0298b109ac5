-- How many dots runs have.
use Rattle.std.proofs.Common.{◌≡◌, ℕ, suc, zero, ◌+◌, ◌-◌, ◌<◌, ◌≤◌, Bool, true, false, cond, ◌&&◌, ◌||◌, List, [], ◌∷◌}
use Rattle.std.proofs.Common.{◌++◌, length, get_or, take, sum_by, refl, sym, ◌∙◌, ap, arith, eqb, leb, ltb}
use Rattle.std.specs.FinSet as set
use Rattle.std.specs.Ordering.{eq_by_cmp}
use Rattle.std.proofs.lemmas.Bool.Decides.{nat_tests}
use Rattle.std.proofs.lemmas.List.Folds.{list_any-append}
use Rattle.std.proofs.lemmas.List.Sums.{sum_by-cons}
use Rattle.rds_dots.specs.declared.dot.Dot.{Dot}
use Rattle.rds_dots.specs.declared.dot.Run.{Run}
use Rattle.rds_dots.specs.Dots.{dot_cmp, is_dot}
use Rattle.rds_dots.specs.Order.{dots_total}
use Rattle.rds_dots.specs.Listed.{lists, dots_from}
use Rattle.rds_dots.specs.Sets.{contains_list, lists-dots_from}
use Rattle.rds_dots.specs.Runs.{dot_place, start, stop, begins_past, are_maximal}
use Rattle.rds_dots.specs.RunFacts.{run_parts, lt_of, has_none, covers_is}
use Rattle.rds_gaps.specs.RunSets.{dots_in_runs, set_of, lists-dots_of}

abbrev pub total : List Run → ℕ
total rs = sum_by (λ (r : Run). r.hi + 1 - r.lo) rs

not_below : (a lo n : ℕ) → (eqb a a && (leb (lo + 1) lo && leb (lo + 1) ((lo + 1) + n))) ≡ false
not_below a lo n = grind (arith, nat_tests)

len_from : (replica lo n : ℕ) (ds : List Dot) → ((s : ℕ) → lo ≤ s → s < lo + n → (let d : Dot = record { replica = replica; seq = s } in lists ds d ≡ false)) → set.len (set.from_list {R = dot_cmp} (dots_from replica lo n ++ ds)) ≡ n + set.len (set.from_list {R = dot_cmp} ds)
len_from replica lo zero ds none = omega arith
len_from replica lo (suc n) ds none =
    let d : Dot = record { replica = replica; seq = lo } in
    let later = dots_from replica (lo + 1) n ++ ds in
    let again = len_from replica (lo + 1) n ds (λ s le lt. none s (omega arith) (omega arith)) in
    let new : set.contains (set.from_list {R = dot_cmp} later) d ≡ false =
    contains_list later d ∙ list_any-append (eq_by_cmp dot_cmp d) (dots_from replica (lo + 1) n) ds
    ∙ ap (λ b. b || lists ds d) (lists-dots_from replica (lo + 1) n d ∙ not_below replica lo n) ∙ none lo (omega arith) (omega arith) in
    set.len-insert dots_total (set.from_list {R = dot_cmp} later) d
    ∙ ap (λ b. cond b (set.len (set.from_list {R = dot_cmp} later)) (set.len (set.from_list {R = dot_cmp} later) + 1)) new
    ∙ (let more : set.len (set.from_list {R = dot_cmp} later) + 1 ≡ suc n + set.len (set.from_list {R = dot_cmp} ds) = omega arith in more)

and_no : (a : Bool) → (a && false) ≡ false
and_no true = refl
and_no false = refl

len_of : (rs : List Run) → are_maximal rs ≡ true → set.len (set.from_list {R = dot_cmp} (dots_in_runs rs)) ≡ total rs
unfolding dots_in_runs
len_of [] max = set.len-empty dot_cmp
len_of (r ∷ rs) max =
    let p = run_parts r rs max in
    let rises = p.bounds.rises in
    len_from r.replica r.lo (r.hi + 1 - r.lo) (dots_in_runs rs) (λ s le lt.
    let d : Dot = record { replica = r.replica; seq = s } in
    lists-dots_of rs d ∙ covers_is rs p.rest d ∙ ap (λ b. is_dot d && b) (has_none rs p.rest (stop r + 1) (dot_place r.replica s) p.apart (omega arith)) ∙ and_no (is_dot d))
    ∙ ap (λ n. (r.hi + 1 - r.lo) + n) (len_of rs p.rest)
    ∙ sym (sum_by-cons (λ (q : Run). q.hi + 1 - q.lo) r rs)

pub len-set_of : (rs : List Run) → are_maximal rs ≡ true → set.len (set_of rs) ≡ total rs
unfolding set_of
len-set_of rs max = len_of rs max

-- the dots of runs past a place are no more than what is left
total_fits : (rs : List Run) → are_maximal rs ≡ true → (m : ℕ) → m ≤ 72057594037927936 → begins_past m rs ≡ true → m + total rs ≤ 72057594037927936
total_fits [] max m le begins = omega arith
total_fits (r ∷ rs) max m le begins =
    let p = run_parts r rs max in
    let b = p.bounds in
    let small = b.small in let rises = b.rises in let most = b.most in
    let lt = lt_of m (start r) begins in
    let again = total_fits rs p.rest (stop r + 1) (omega arith) p.apart in
    let parts : total (r ∷ rs) ≡ (r.hi + 1 - r.lo) + total rs = sum_by-cons (λ (q : Run). q.hi + 1 - q.lo) r rs in
    omega arith

prefix_fits : (rs : List Run) (i : ℕ) (d : Run) → i < length rs → total (take i rs) + ((get_or rs i d).hi + 1 - (get_or rs i d).lo) ≤ total rs
prefix_fits [] i d lt = absurd (omega arith)
prefix_fits (r ∷ rs) zero d lt = let parts : total (r ∷ rs) ≡ (r.hi + 1 - r.lo) + total rs = sum_by-cons (λ (q : Run). q.hi + 1 - q.lo) r rs in omega arith
prefix_fits (r ∷ rs) (suc i) d lt =
    let again = prefix_fits rs i d (omega arith) in
    let parts : total (r ∷ rs) ≡ (r.hi + 1 - r.lo) + total rs = sum_by-cons (λ (q : Run). q.hi + 1 - q.lo) r rs in
    let front : total (r ∷ take i rs) ≡ (r.hi + 1 - r.lo) + total (take i rs) = sum_by-cons (λ (q : Run). q.hi + 1 - q.lo) r (take i rs) in
    omega arith

begins_past_zero : (rs : List Run) → are_maximal rs ≡ true → begins_past 0 rs ≡ true
begins_past_zero [] max = refl
begins_past_zero (r ∷ rs) max = let one = (run_parts r rs max).bounds.one in zero_lt (start r) (omega arith)
  where
    zero_lt : (n : ℕ) → 0 < n → ltb 0 n ≡ true
    zero_lt n h = grind (arith, nat_tests)

pub counted_fits : (rs : List Run) → are_maximal rs ≡ true → (i : ℕ) (d : Run) → i < length rs → total (take i rs) + ((get_or rs i d).hi + 1 - (get_or rs i d).lo) ≤ 72057594037927936
counted_fits rs max i d lt =
    let a = prefix_fits rs i d lt in
    let b = total_fits rs max 0 (omega arith) (begins_past_zero rs max) in
    omega arith
