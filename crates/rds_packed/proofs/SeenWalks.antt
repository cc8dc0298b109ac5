-- Walking the maximal runs of a set, one after the other, to measure and write its rows.
use Rattle.std.proofs.Common.{◌≡◌, ℕ, ◌+◌, ◌-◌, ◌*◌, ◌<◌, ◌≤◌, ◌≢◌, ◌^◌, Bool, true, false, cond, eqb, ltb, List, [], ◌∷◌, ◌++◌, length, Option, Some, None, refl, sym, ap, subst, ◌∙◌, arith, inl, inr, append_assoc, length-append}
use Rattle.std.specs.List.{flat_map}
use Rattle.std.specs.Bool.{then_some}
use Rattle.std.specs.Option.{MatchOption}
use Rattle.std.specs.Ordering.{is_lt, nat_cmp, ordering_then}
use Rattle.std.proofs.lemmas.Bool.Decides.{nat_tests, eqb_tells}
use Rattle.std.proofs.lemmas.List.{append-nil}
use Rattle.std.proofs.lemmas.List.Concat.{flat_map-cons}
use Rattle.std.specs.FinSet as set
use Rattle.rds_dots.specs.declared.dot.Dot.{Dot}
use Rattle.rds_dots.specs.declared.dot.Run.{Run}
use Rattle.rds_dots.specs.Dots.{Dots, IsRun, is_dot, last_of, comes_after}
use Rattle.rds_dots.specs.RunFacts.{Bounds, run_parts}
use Rattle.rds_dots.specs.Runs.{are_maximal, first_after, runs_of}
use Rattle.rds_dots.specs.RunsAfter.{runs_left}
use Rattle.rds_dots.specs.RunsOf.{are_runs}
use Rattle.rds_dots.proofs.RunWalks.{all_left, none_left, one_left}
use Rattle.rds_bytes.specs.declared.dots.Gap.{Gap}
use Rattle.rds_bytes.specs.declared.dots.DotRow.{DotRow}
use Rattle.rds_bytes.specs.DotRows.{gap_before, gaps_in, top_in, rows_from, row_of_run, row_end, next_of, IsNext, Follows}
use Rattle.rds_bytes.specs.Packed.{packed_text}
use Rattle.rds_packed.specs.SeenTexts.{packed_gap_text, packed_gaps_text, row_head_of, packed_head_text, packed_dot_row_text, end_before}
use Rattle.rds_packed.proofs.RowAlgebra.{ne_eqb, rows_skip, rows_open, gaps_same, gaps_other, top_same, top_other}

-- what is found is in the list, and passes
found_bounds : (after : Option Dot) (rs : List Run) → are_maximal rs ≡ true → (r : Run) → first_after after rs ≡ Some r → Bounds r
found_bounds after [] max r is = absurd (let none : ⊥ = cc in none)
found_bounds after (t ∷ ts) max r is =
    let p = run_parts t ts max in
    elim (comes_after after (last_of t)) as (λ b. cond b (Some t) (first_after after ts) ≡ Some r → Bounds r) [
      | true ↦ λ e. (let same : t ≡ r = cc in subst Bounds same p.bounds)
      | false ↦ λ e. found_bounds after ts p.rest r e
    ] is

found_passes : (after : Option Dot) (rs : List Run) (r : Run) → first_after after rs ≡ Some r → comes_after after (last_of r) ≡ true
found_passes after [] r is = absurd (let none : ⊥ = cc in none)
found_passes after (t ∷ ts) r is =
    elim (comes_after after (last_of t)) as (λ b. comes_after after (last_of t) ≡ b → cond b (Some t) (first_after after ts) ≡ Some r → comes_after after (last_of r) ≡ true) [
      | true ↦ λ h e. (let same : t ≡ r = cc in ap (λ (x : Run). comes_after after (last_of x)) (sym same) ∙ h)
      | false ↦ λ h e. found_passes after ts r e
    ] refl is

higher : (a s b t : ℕ) → b ≡ a → is_lt (ordering_then (nat_cmp a b) (nat_cmp s t)) ≡ true → s < t
higher a s b t e h = grind (arith, nat_tests)

abbrev pub AreOnlyDots : Dots → Type 0
AreOnlyDots s = (d : Dot) → set.contains s d ≡ true → is_dot d ≡ true

-- the runs that are left after a dot
abbrev pub left : Dots → Option Dot → List Run
left s after = runs_left after (runs_of s)

module _ (s : Dots) (dots : AreOnlyDots s) where
  maximal : are_maximal (runs_of s) ≡ true
  maximal = (are_runs s dots).maximal

  pub step : (after : Option Dot) (r : Run) → first_after after (runs_of s) ≡ Some r → left s after ≡ r ∷ left s (Some (last_of r))
  step after r is = one_left after (runs_of s) maximal r is

  pub stop_at : (after : Option Dot) → first_after after (runs_of s) ≡ None → left s after ≡ []
  stop_at after is = none_left after (runs_of s) is

  pub is_run : (after : Option Dot) (r : Run) → first_after after (runs_of s) ≡ Some r → IsRun r
  is_run after r is = let b = found_bounds after (runs_of s) maximal r is in record { from_one = b.one; rises = b.rises; within = b.most }

  pub is_small : (after : Option Dot) (r : Run) → first_after after (runs_of s) ≡ Some r → r.replica < 256
  is_small after r is = let small = (found_bounds after (runs_of s) maximal r is).small in omega arith

  -- the next run, where it is of the same replica
  pub follows_some : (q next : Run) → first_after (Some (last_of q)) (runs_of s) ≡ Some next → next.replica ≡ q.replica → IsNext s q next
  follows_some q next is same = record {
    is_run = is_run (Some (last_of q)) next is;
    same = same;
    higher = higher q.replica q.hi next.replica next.hi same (found_passes (Some (last_of q)) (runs_of s) next is);
    left = step (Some (last_of q)) next is;
  }

  pub follows_other : (q next : Run) → first_after (Some (last_of q)) (runs_of s) ≡ Some next → next.replica ≢ q.replica → next_of q.replica (left s (Some (last_of q))) ≡ None
  follows_other q next is other =
      let out = ne_eqb next.replica q.replica other in
      ap (next_of q.replica) (step (Some (last_of q)) next is) ∙ ap (λ b. cond b (Some next) None) out

  pub follows_none : (q : Run) → first_after (Some (last_of q)) (runs_of s) ≡ None → next_of q.replica (left s (Some (last_of q))) ≡ None
  follows_none q is = ap (next_of q.replica) (stop_at (Some (last_of q)) is)

  -- what is kept of the run that comes next by a test of its replica
  pub follows_kept : (q : Run) (found kept : Option Run) → found ≡ first_after (Some (last_of q)) (runs_of s) → (Gives : Run → Bool → Type 0) → ((x : Run) (b : Bool) → Gives x b → b ≡ eqb x.replica q.replica)
      → MatchOption found (kept ≡ None) (λ x. (b : Bool) × Gives x b × (kept ≡ then_some b x)) → Follows s q kept
  follows_kept q None kept is Gives tells none = rw none (follows_none q (sym is))
  follows_kept q (Some x) kept is Gives tells (b, gives, kept_is) =
      let test = tells x b gives in
      elim (eqb_tells x.replica q.replica) [
        | inl e ↦ (let all : kept ≡ Some x = kept_is ∙ ap (λ b. then_some b x) (test ∙ e.0) in rw all (follows_some q x (sym is) e.1))
        | inr ne ↦ (let all : kept ≡ None = kept_is ∙ ap (λ b. then_some b x) (test ∙ ne.0) in rw all (follows_other q x (sym is) ne.1))
      ]

-- where no run of the replica comes next, its row is at its end
no_gaps : (ρ : ℕ) (rs : List Run) → next_of ρ rs ≡ None → (least : ℕ) → gaps_in ρ least rs ≡ []
no_gaps ρ [] none least = refl
no_gaps ρ (r ∷ rs) none least = elim (eqb_tells r.replica ρ) [
  | inl e ↦ absurd (let bad : ◌≡◌ {A = Option Run} (Some r) None = sym (ap (λ b. cond b (Some r) None) e.0) ∙ none in cc)
  | inr ne ↦ gaps_other ρ least r rs ne.1
]

no_top : (ρ : ℕ) (rs : List Run) → next_of ρ rs ≡ None → (top : ℕ) → top_in ρ top rs ≡ top
no_top ρ [] none top = refl
no_top ρ (r ∷ rs) none top = elim (eqb_tells r.replica ρ) [
  | inl e ↦ absurd (let bad : ◌≡◌ {A = Option Run} (Some r) None = sym (ap (λ b. cond b (Some r) None) e.0) ∙ none in cc)
  | inr ne ↦ top_other ρ top r rs ne.1
]

before-some : (least lo : ℕ) (gs : List Gap) → gap_before least lo gs ≡ gap_before least lo [] ++ gs
before-some least lo gs = elim (ltb least lo) as (λ b. let g : Gap = record { lo = least; hi = lo - 1 } in cond b (g ∷ gs) gs ≡ cond b (g ∷ []) [] ++ gs) [ true ↦ refl | false ↦ refl ]

-- the gaps of a replica's row after a run of it
abbrev pub gaps_after : Dots → ℕ → Run → List Gap
gaps_after s ρ r = gaps_in ρ (r.hi + 1) (left s (Some (last_of r)))

-- the gap from a least number on, before a run, and those after it
gaps_from : (s : Dots) (ρ least : ℕ) (r : Run) → r.replica ≡ ρ → gaps_in ρ least (r ∷ left s (Some (last_of r))) ≡ gap_before least r.lo [] ++ gaps_after s ρ r
gaps_from s ρ least r e = gaps_same ρ least r (left s (Some (last_of r))) e ∙ before-some least r.lo (gaps_after s ρ r)

row_gaps : (s : Dots) (first : Run) → (row_of_run s first).gaps ≡ gap_before 1 first.lo [] ++ gaps_after s first.replica first
row_gaps s first = gaps_from s first.replica 1 first refl

next_gaps : (s : Dots) (ρ : ℕ) (run next : Run) → run.replica ≡ ρ → IsNext s run next → gaps_after s ρ run ≡ gap_before (run.hi + 1) next.lo [] ++ gaps_after s ρ next
next_gaps s ρ run next e n = ap (gaps_in ρ (run.hi + 1)) n.left ∙ gaps_from s ρ (run.hi + 1) next (n.same ∙ e)

last_gaps : (s : Dots) (ρ : ℕ) (run : Run) → run.replica ≡ ρ → next_of run.replica (left s (Some (last_of run))) ≡ None → gaps_after s ρ run ≡ []
last_gaps s ρ run e none = no_gaps ρ (left s (Some (last_of run))) (ap (λ n. next_of n (left s (Some (last_of run)))) (sym e) ∙ none) (run.hi + 1)

-- ---- the text of gaps

split_by : (from least lo : ℕ) (gs : List Gap) (b : Bool) → (let g : Gap = record { lo = least; hi = lo - 1 } in
    packed_gaps_text from (cond b (g ∷ []) [] ++ gs) ≡ packed_gaps_text from (cond b (g ∷ []) []) ++ packed_gaps_text (cond b (lo - 1) from) gs)
split_by from least lo gs true =
    let g : Gap = record { lo = least; hi = lo - 1 } in
    ap (λ (t : List ℕ). t ++ packed_gaps_text (lo - 1) gs) (sym (append-nil (packed_gap_text from g)))
split_by from least lo gs false = refl

-- the gap before a run, and those after it
gaps_split : (from least lo : ℕ) (gs : List Gap) → packed_gaps_text from (gap_before least lo [] ++ gs) ≡ packed_gaps_text from (gap_before least lo []) ++ packed_gaps_text (end_before from least lo) gs
gaps_split from least lo gs = split_by from least lo gs (ltb least lo)

end_by : (from lo hi : ℕ) (b : Bool) → from ≤ hi → lo ≤ hi → cond b (lo - 1) from ≤ hi
end_by from lo hi true p q = omega (arith, q)
end_by from lo hi false p q = p

end_most : (from least lo hi : ℕ) → from ≤ hi → lo ≤ hi → end_before from least lo ≤ hi
end_most from least lo hi p q = end_by from lo hi (ltb least lo) p q

-- ---- measuring the gaps of a row

pub record IsSizing (s : Dots) (first run : Run) (from gaps bytes : ℕ) : Type 0 where
  pub run_is : IsRun run
  pub same : run.replica ≡ first.replica
  pub below : from ≤ run.hi
  pub few : gaps ≤ run.hi
  pub most : bytes ≤ 14 * run.hi
  pub counted : gaps + length (gaps_after s first.replica run) ≡ length (row_of_run s first).gaps
  pub measured : bytes + length (packed_gaps_text from (gaps_after s first.replica run)) ≡ length (packed_gaps_text 0 (row_of_run s first).gaps)
  pub top : top_in first.replica run.hi (left s (Some (last_of run))) ≡ (row_of_run s first).top

pub sizing_begins : (s : Dots) (first : Run) (from gaps bytes : ℕ) → IsRun first → from ≡ end_before 0 1 first.lo → gaps ≡ length (gap_before 1 first.lo []) → gaps ≤ 1
    → bytes ≡ length (packed_gaps_text 0 (gap_before 1 first.lo [])) → bytes ≤ 14 → IsSizing s first first from gaps bytes
sizing_begins s first from gaps bytes is is_from is_gaps one is_bytes most =
    let from_one = is.from_one in
    let rises = is.rises in
    let later = gaps_after s first.replica first in
    let e = ap length (row_gaps s first) ∙ length-append (gap_before 1 first.lo []) later in
    let low = end_most 0 1 first.lo first.hi (omega arith) rises in
    let t = ap (λ (gs : List Gap). length (packed_gaps_text 0 gs)) (row_gaps s first) ∙ ap length (gaps_split 0 1 first.lo later) ∙ length-append (packed_gaps_text 0 (gap_before 1 first.lo [])) (packed_gaps_text (end_before 0 1 first.lo) later) in
    let u = ap (λ (n : ℕ). length (packed_gaps_text n later)) is_from in
    record { run_is = is; same = refl; below = omega (arith, is_from, low); few = omega arith; most = omega arith; counted = omega arith; measured = omega (arith, t, u, is_bytes); top = refl }

module _ (s : Dots) (first run : Run) (from gaps bytes : ℕ) (i : IsSizing s first run from gaps bytes) where
  pub sizing_goes_on : (next : Run) (more long : ℕ) → IsNext s run next → more ≡ length (gap_before (run.hi + 1) next.lo []) → more ≤ 1
      → long ≡ length (packed_gaps_text from (gap_before (run.hi + 1) next.lo [])) → long ≤ 14 → IsSizing s first next (end_before from (run.hi + 1) next.lo) (gaps + more) (bytes + long)
  sizing_goes_on next more long n is_more one is_long most =
      let few = i.few in
      let small = i.most in
      let below = i.below in
      let higher = n.higher in
      let rises = n.is_run.rises in
      let counted = i.counted in
      let measured = i.measured in
      let later = gaps_after s first.replica next in
      let gap = gap_before (run.hi + 1) next.lo [] in
      let all = next_gaps s first.replica run next i.same n in
      let e = ap length all ∙ length-append gap later in
      let t = ap (λ (gs : List Gap). length (packed_gaps_text from gs)) all ∙ ap length (gaps_split from (run.hi + 1) next.lo later) ∙ length-append (packed_gaps_text from gap) (packed_gaps_text (end_before from (run.hi + 1) next.lo) later) in
      record {
        run_is = n.is_run;
        same = n.same ∙ i.same;
        below = end_most from (run.hi + 1) next.lo next.hi (omega (arith, below, higher)) rises;
        few = omega (arith, few, higher, one);
        most = omega (arith, small, higher, most);
        counted = omega (arith, e, counted, is_more);
        measured = omega (arith, t, measured, is_long);
        top = sym (top_same first.replica run.hi next (left s (Some (last_of next))) (n.same ∙ i.same)) ∙ ap (top_in first.replica run.hi) (sym n.left) ∙ i.top;
      }

  pub gaps_end : next_of run.replica (left s (Some (last_of run))) ≡ None → gaps ≡ length (row_of_run s first).gaps
  gaps_end none =
      let e = ap length (last_gaps s first.replica run i.same none) in
      let counted = i.counted in omega (arith, e, counted)

  pub bytes_end : next_of run.replica (left s (Some (last_of run))) ≡ None → bytes ≡ length (packed_gaps_text 0 (row_of_run s first).gaps)
  bytes_end none =
      let e = ap (λ (gs : List Gap). length (packed_gaps_text from gs)) (last_gaps s first.replica run i.same none) in
      let measured = i.measured in omega (arith, e, measured)

  pub top_ends : next_of run.replica (left s (Some (last_of run))) ≡ None → run.hi ≡ (row_of_run s first).top
  top_ends none = sym (no_top first.replica (left s (Some (last_of run))) (ap (λ n. next_of n (left s (Some (last_of run)))) (sym i.same) ∙ none) run.hi) ∙ i.top

-- ---- writing the gaps of a row

pub record IsWritingGaps (s : Dots) (first run : Run) (from : ℕ) (out all : List ℕ) : Type 0 where
  pub run_is : IsRun run
  pub same : run.replica ≡ first.replica
  pub below : from ≤ run.hi
  pub written : out ++ packed_gaps_text from (gaps_after s first.replica run) ≡ all

-- a gap that was written, and those that are to come
one_written : (from least lo : ℕ) (out next_out : List ℕ) (after all : List Gap) → next_out ≡ out ++ packed_gaps_text from (gap_before least lo []) → all ≡ gap_before least lo [] ++ after
    → next_out ++ packed_gaps_text (end_before from least lo) after ≡ out ++ packed_gaps_text from all
one_written from least lo out next_out after all more is =
    let later = packed_gaps_text (end_before from least lo) after in
    ap (λ (t : List ℕ). t ++ later) more ∙ append_assoc out (packed_gaps_text from (gap_before least lo [])) later
    ∙ ap (λ (t : List ℕ). out ++ t) (sym (gaps_split from least lo after)) ∙ ap (λ (gs : List Gap). out ++ packed_gaps_text from gs) (sym is)

pub writing_begins : (s : Dots) (first : Run) (from : ℕ) (out next_out : List ℕ) → IsRun first → from ≡ end_before 0 1 first.lo → next_out ≡ out ++ packed_gaps_text 0 (gap_before 1 first.lo [])
    → IsWritingGaps s first first from next_out (out ++ packed_gaps_text 0 (row_of_run s first).gaps)
writing_begins s first from out next_out is is_from more =
    let low = end_most 0 1 first.lo first.hi (omega arith) is.rises in
    record {
      run_is = is;
      same = refl;
      below = omega (arith, is_from, low);
      written = ap (λ (n : ℕ). next_out ++ packed_gaps_text n (gaps_after s first.replica first)) is_from
          ∙ one_written 0 1 first.lo out next_out (gaps_after s first.replica first) (row_of_run s first).gaps more (row_gaps s first);
    }

module _ (s : Dots) (first run : Run) (from : ℕ) (out all : List ℕ) (i : IsWritingGaps s first run from out all) where
  pub writing_goes_on : (next : Run) (next_out : List ℕ) → IsNext s run next → next_out ≡ out ++ packed_gaps_text from (gap_before (run.hi + 1) next.lo [])
      → IsWritingGaps s first next (end_before from (run.hi + 1) next.lo) next_out all
  writing_goes_on next next_out n more =
      let below = i.below in
      let higher = n.higher in
      record {
        run_is = n.is_run;
        same = n.same ∙ i.same;
        below = end_most from (run.hi + 1) next.lo next.hi (omega (arith, below, higher)) n.is_run.rises;
        written = one_written from (run.hi + 1) next.lo out next_out (gaps_after s first.replica next) (gaps_after s first.replica run) more (next_gaps s first.replica run next i.same n) ∙ i.written;
      }

  pub writing_ends : next_of run.replica (left s (Some (last_of run))) ≡ None → out ≡ all
  writing_ends none = sym (append-nil out) ∙ ap (λ (gs : List Gap). out ++ packed_gaps_text from gs) (sym (last_gaps s first.replica run i.same none)) ∙ i.written

-- ---- the length of a row

pub row_length : (r : DotRow) → length (packed_dot_row_text r) ≡ 1 + length (packed_text r.top) + length (packed_text (length r.gaps)) + length (packed_gaps_text 0 r.gaps)
row_length r =
    let a = length-append (packed_head_text (row_head_of r)) (packed_gaps_text 0 r.gaps) in
    let b = length-append (packed_text r.top) (packed_text (length r.gaps)) in
    omega (arith, a, b)

-- ---- from the last dot of a row on

-- which replica's row may begin after a dot
abbrev pub next_replica : Option Dot → ℕ
next_replica None = 0
next_replica (Some d) = d.replica + 1

-- no run of the dot's own replica comes after it
abbrev pub IsAtEnd : Dots → Option Dot → Type 0
IsAtEnd s None = Unit {0}
IsAtEnd s (Some d) = next_of d.replica (left s (Some d)) ≡ None

-- the rows that are left after a dot
abbrev pub rows_left : Dots → Option Dot → List DotRow
rows_left s after = rows_from (next_replica after) (left s after)

abbrev pub a_dot : ℕ → ℕ → Dot
a_dot replica seq = record { replica = replica; seq = seq }

-- past the runs of a replica: what comes after the last of its dots is what comes after the others
pub record Leaps (s : Dots) (ρ top : ℕ) (rs : List Run) : Type 0 where
  pub ended : IsAtEnd s (Some (a_dot ρ top))
  pub same : rows_left s (Some (a_dot ρ top)) ≡ rows_from (ρ + 1) rs
  pub fewer : length (left s (Some (a_dot ρ top))) ≤ length rs

not_before : (a s b t : ℕ) → is_lt (ordering_then (nat_cmp a b) (nat_cmp s t)) ≡ true → a ≤ b
not_before a s b t h = grind (arith, nat_tests)

module _ (s : Dots) (dots : AreOnlyDots s) where
  -- the first that is left is the first that is found
  found_first : (after : Option Dot) (t : Run) (ts : List Run) → left s after ≡ t ∷ ts → first_after after (runs_of s) ≡ Some t
  found_first after t ts is =
      elim (first_after after (runs_of s)) as (λ (o : Option Run). first_after after (runs_of s) ≡ o → o ≡ Some t) [
        | None ↦ λ h. absurd (let none : ◌≡◌ {A = List Run} [] (t ∷ ts) = sym (stop_at s dots after h) ∙ is in cc)
        | Some r ↦ λ h. (let one : ◌≡◌ {A = List Run} (r ∷ left s (Some (last_of r))) (t ∷ ts) = sym (step s dots after r h) ∙ is in cc)
      ] refl

  leaps : (rs : List Run) (q : Run) → left s (Some (last_of q)) ≡ rs → Leaps s q.replica (top_in q.replica q.hi rs) rs
  leaps [] q is = record {
    ended = ap (next_of q.replica) is;
    same = ap (rows_from (q.replica + 1)) is;
    fewer = (let e = ap length is in omega arith);
  }
  leaps (t ∷ ts) q is =
      let found = found_first (Some (last_of q)) t ts is in
      let later : left s (Some (last_of t)) ≡ ts = (let one : ◌≡◌ {A = List Run} (t ∷ left s (Some (last_of t))) (t ∷ ts) = sym (step s dots (Some (last_of q)) t found) ∙ is in cc) in
      elim (eqb_tells t.replica q.replica) [
        | inl e ↦ (
            let l = leaps ts t later in
            let fewer = l.fewer in
            let made : Leaps s t.replica (top_in t.replica t.hi ts) (t ∷ ts) =
            record { ended = l.ended; same = l.same ∙ sym (rows_skip (t.replica + 1) t ts (omega arith)); fewer = omega arith } in
            let top-is : top_in t.replica t.hi ts ≡ top_in q.replica q.hi (t ∷ ts) = ap (λ n. top_in n t.hi ts) e.1 ∙ sym (top_same q.replica q.hi t ts e.1) in
            subst (λ n. Leaps s q.replica n (t ∷ ts)) top-is (subst (λ n. Leaps s n (top_in t.replica t.hi ts) (t ∷ ts)) e.1 made))
        | inr other ↦ (
            let made : Leaps s q.replica q.hi (t ∷ ts) = record {
              ended = ap (next_of q.replica) is ∙ ap (λ b. cond b (Some t) None) other.0;
              same = ap (rows_from (q.replica + 1)) is;
              fewer = (let e = ap length is in omega arith);
            } in
            subst (λ n. Leaps s q.replica n (t ∷ ts)) (sym (top_other q.replica q.hi t ts other.1)) made)
      ]

  -- a run that is found at the end of a replica's runs is of a later one
  found_later : (after : Option Dot) (r : Run) → IsAtEnd s after → first_after after (runs_of s) ≡ Some r → next_replica after ≤ r.replica
  found_later None r ended is = omega arith
  found_later (Some d) r ended is =
      let le = not_before d.replica d.seq r.replica r.hi (found_passes (Some d) (runs_of s) r is) in
      elim (eqb_tells r.replica d.replica) [
        | inl e ↦ absurd (let bad : ◌≡◌ {A = Option Run} (Some r) None = sym (ap (next_of d.replica) (step s dots (Some d) r is) ∙ ap (λ b. cond b (Some r) None) e.0) ∙ ended in cc)
        | inr ne ↦ omega (arith, ne.1, le)
      ]

  -- one row, from the first of its runs to the last of its dots
  pub record IsOneRow (after : Option Dot) (r : Run) (last : Dot) : Type 0 where
    pub ended : IsAtEnd s (Some last)
    pub later : next_replica after ≤ r.replica
    pub opened : rows_left s after ≡ row_of_run s r ∷ rows_left s (Some last)
    pub fewer : length (left s (Some last)) < length (left s after)

  pub one_row : (after : Option Dot) (r : Run) (last : Dot) → IsAtEnd s after → first_after after (runs_of s) ≡ Some r → last ≡ row_end (row_of_run s r) → IsOneRow after r last
  one_row after r last ended is end =
      let rs : List Run = left s (Some (last_of r)) in
      let one = step s dots after r is in
      let later = found_later after r ended is in
      let l = leaps rs r refl in
      let fewer = l.fewer in
      let e = ap length one in
      let made : IsOneRow after r (row_end (row_of_run s r)) = record {
        ended = l.ended;
        later = later;
        opened = ap (rows_from (next_replica after)) one ∙ rows_open (next_replica after) r rs later ∙ ap (λ (rows : List DotRow). row_of_run s r ∷ rows) (sym l.same);
        fewer = omega arith;
      } in
      subst (λ (d : Dot). IsOneRow after r d) (sym end) made

  pub rows_ended : (after : Option Dot) → first_after after (runs_of s) ≡ None → rows_left s after ≡ []
  rows_ended after is = ap (rows_from (next_replica after)) (stop_at s dots after is)

pub rows_at_none : (s : Dots) → rows_left s None ≡ rows_from 0 (runs_of s)
rows_at_none s = ap (rows_from 0) (all_left (runs_of s))

pub record IsMeasuring (s : Dots) (after : Option Dot) (rows len : ℕ) : Type 0 where
  pub ended : IsAtEnd s after
  pub counted : rows + length (rows_left s after) ≡ length (rows_from 0 (runs_of s))
  pub measured : len + length (flat_map packed_dot_row_text (rows_left s after)) ≡ length (flat_map packed_dot_row_text (rows_from 0 (runs_of s)))
  pub few : rows ≤ next_replica after
  pub byte : next_replica after ≤ 256
  pub small : len ≤ 2 ^ 53 * next_replica after

pub measuring_begins : (s : Dots) → IsMeasuring s None 0 0
measuring_begins s =
    let e = ap length (rows_at_none s) in
    let f = ap (λ (rows : List DotRow). length (flat_map packed_dot_row_text rows)) (rows_at_none s) in
    record { ended = tt; counted = omega (arith, e); measured = omega (arith, f); few = omega arith; byte = omega arith; small = omega arith }

-- the size of a row that was measured
pub record IsSized (row : DotRow) (top gaps bytes len : ℕ) : Type 0 where
  pub top_is : top ≡ row.top
  pub gaps_are : gaps ≡ length row.gaps
  pub bytes_are : bytes ≡ length (packed_gaps_text 0 row.gaps)
  pub all : len ≡ 1 + length (packed_text top) + length (packed_text gaps) + bytes
  pub most : len ≤ 2 ^ 53

sized : (row : DotRow) (top gaps bytes len : ℕ) → IsSized row top gaps bytes len → len ≡ length (packed_dot_row_text row)
sized row top gaps bytes len i =
    i.all ∙ (λ j. 1 + length (packed_text (i.top_is j)) + length (packed_text (i.gaps_are j)) + i.bytes_are j) ∙ sym (row_length row)

pub measuring_goes_on : (s : Dots) (after : Option Dot) (rows len : ℕ) (r : Run) (top gaps bytes more : ℕ) → (dots : AreOnlyDots s) → IsMeasuring s after rows len → IsOneRow s dots after r (a_dot r.replica top) → r.replica < 256
    → IsSized (row_of_run s r) top gaps bytes more → IsMeasuring s (Some (a_dot r.replica top)) (rows + 1) (len + more)
measuring_goes_on s after rows len r top gaps bytes more dots i o byte size =
    let row = row_of_run s r in
    let later_rows = rows_left s (Some (a_dot r.replica top)) in
    let a = ap length o.opened in
    let b = ap (λ (x : List DotRow). length (flat_map packed_dot_row_text x)) o.opened ∙ ap length (flat_map-cons packed_dot_row_text row later_rows) ∙ length-append (packed_dot_row_text row) (flat_map packed_dot_row_text later_rows) in
    let c = sized row top gaps bytes more size in
    let later = o.later in
    let counted = i.counted in
    let measured = i.measured in
    let few = i.few in
    let small = i.small in
    let most = size.most in
    record { ended = o.ended; counted = omega (arith, a, counted); measured = omega (arith, b, c, measured); few = omega (arith, few, later); byte = omega (arith, byte); small = omega (arith, small, most, later) }

pub record IsWritingRows (s : Dots) (after : Option Dot) (out all : List ℕ) : Type 0 where
  pub ended : IsAtEnd s after
  pub written : out ++ flat_map packed_dot_row_text (rows_left s after) ≡ all

pub rows_writing_begins : (s : Dots) (out : List ℕ) → IsWritingRows s None out (out ++ flat_map packed_dot_row_text (rows_from 0 (runs_of s)))
rows_writing_begins s out = record { ended = tt; written = ap (λ (x : List DotRow). out ++ flat_map packed_dot_row_text x) (rows_at_none s) }

module _ (s : Dots) (dots : AreOnlyDots s) (after : Option Dot) (out all : List ℕ) (i : IsWritingRows s after out all) where
  pub rows_writing_goes_on : (r : Run) (last : Dot) (next_out : List ℕ) → IsOneRow s dots after r last → next_out ≡ out ++ packed_dot_row_text (row_of_run s r) → IsWritingRows s (Some last) next_out all
  rows_writing_goes_on r last next_out o more =
      let row = row_of_run s r in
      let later = rows_left s (Some last) in
      record {
        ended = o.ended;
        written = ap (λ (t : List ℕ). t ++ flat_map packed_dot_row_text later) more ∙ append_assoc out (packed_dot_row_text row) (flat_map packed_dot_row_text later)
            ∙ ap (λ (t : List ℕ). out ++ t) (sym (flat_map-cons packed_dot_row_text row later)) ∙ ap (λ (x : List DotRow). out ++ flat_map packed_dot_row_text x) (sym o.opened) ∙ i.written;
      }

  pub rows_writing_ends : first_after after (runs_of s) ≡ None → out ≡ all
  rows_writing_ends is = sym (append-nil out) ∙ ap (λ (x : List DotRow). out ++ flat_map packed_dot_row_text x) (sym (rows_ended s dots after is)) ∙ i.written
