-- Walking the maximal runs of a set, one after the other.
use Rattle.std.proofs.Common.{◌≡◌, ℕ, ◌+◌, ◌-◌, ◌*◌, ◌<◌, ◌≤◌, ◌≢◌, ◌^◌, Bool, true, false, cond, eqb, ltb, List, [], ◌∷◌, ◌++◌, length, Option, Some, None, refl, sym, ap, subst, ◌∙◌, arith, inl, inr, append_assoc, length-append}
use Rattle.std.specs.List.{flat_map}
use Rattle.std.specs.Bool.{then_some}
use Rattle.std.specs.Option.{MatchOption}
use Rattle.std.specs.Ordering.{is_lt, nat_cmp, ordering_then}
use Rattle.std.proofs.lemmas.Bool.Decides.{nat_tests, eqb_tells}
use Rattle.std.proofs.lemmas.List.{append-nil}
use Rattle.std.proofs.lemmas.List.Concat.{flat_map-cons}
use Rattle.std.proofs.lemmas.Grind.{flat_map-append}
use Rattle.std.specs.FinSet as set
use Rattle.rds_dots.specs.declared.dot.Dot.{Dot}
use Rattle.rds_dots.specs.declared.dot.Run.{Run}
use Rattle.rds_dots.specs.Dots.{Dots, IsRun, is_dot, last_of, comes_after}
use Rattle.rds_dots.specs.RunFacts.{Bounds, run_parts}
use Rattle.rds_dots.specs.Runs.{are_maximal, first_after, runs_of}
use Rattle.rds_dots.specs.RunsAfter.{runs_left}
use Rattle.rds_dots.specs.RunsOf.{are_runs}
use Rattle.rds_dots.proofs.RunWalks.{all_left, none_left, one_left}
use Rattle.rds_bytes.specs.declared.dots.Gap.{Gap}
use Rattle.rds_bytes.specs.declared.dots.DotRow.{DotRow}
use Rattle.rds_bytes.specs.DotRows.{gap_before, gaps_in, top_in, rows_from, row_of_run, row_end, CanCountAll, next_of, IsNext, Follows}
use Rattle.rds_bytes.specs.Spelling.{gap_text, dot_row_text}
use Rattle.rds_bytes.proofs.RowAlgebra.{ne_eqb, rows_skip, rows_open, gaps_same, gaps_other, top_same, top_other}

-- what is found is in the list, and passes
found_bounds : (after : Option Dot) (rs : List Run) → are_maximal rs ≡ true → (r : Run) → first_after after rs ≡ Some r → Bounds r
found_bounds after [] max r is = absurd (let none : ⊥ = cc in none)
found_bounds after (t ∷ ts) max r is =
    let p = run_parts t ts max in
    elim (comes_after after (last_of t)) as (λ b. cond b (Some t) (first_after after ts) ≡ Some r → Bounds r) [
      | true ↦ λ e. (let same : t ≡ r = cc in subst Bounds same p.bounds)
      | false ↦ λ e. found_bounds after ts p.rest r e
    ] is

found_passes : (after : Option Dot) (rs : List Run) (r : Run) → first_after after rs ≡ Some r → comes_after after (last_of r) ≡ true
found_passes after [] r is = absurd (let none : ⊥ = cc in none)
found_passes after (t ∷ ts) r is =
    elim (comes_after after (last_of t)) as (λ b. comes_after after (last_of t) ≡ b → cond b (Some t) (first_after after ts) ≡ Some r → comes_after after (last_of r) ≡ true) [
      | true ↦ λ h e. (let same : t ≡ r = cc in ap (λ (x : Run). comes_after after (last_of x)) (sym same) ∙ h)
      | false ↦ λ h e. found_passes after ts r e
    ] refl is

higher : (a s b t : ℕ) → b ≡ a → is_lt (ordering_then (nat_cmp a b) (nat_cmp s t)) ≡ true → s < t
higher a s b t e h = grind (arith, nat_tests)

abbrev pub AreOnlyDots : Dots → Type 0
AreOnlyDots s = (d : Dot) → set.contains s d ≡ true → is_dot d ≡ true

-- the runs that are left after a dot
abbrev pub left : Dots → Option Dot → List Run
left s after = runs_left after (runs_of s)

module _ (s : Dots) (dots : AreOnlyDots s) where
  maximal : are_maximal (runs_of s) ≡ true
  maximal = (are_runs s dots).maximal

  pub step : (after : Option Dot) (r : Run) → first_after after (runs_of s) ≡ Some r → left s after ≡ r ∷ left s (Some (last_of r))
  step after r is = one_left after (runs_of s) maximal r is

  pub stop_at : (after : Option Dot) → first_after after (runs_of s) ≡ None → left s after ≡ []
  stop_at after is = none_left after (runs_of s) is

  pub is_run : (after : Option Dot) (r : Run) → first_after after (runs_of s) ≡ Some r → IsRun r
  is_run after r is = let b = found_bounds after (runs_of s) maximal r is in record { from_one = b.one; rises = b.rises; within = b.most }

  pub is_small : (after : Option Dot) (r : Run) → first_after after (runs_of s) ≡ Some r → r.replica < 256
  is_small after r is = let small = (found_bounds after (runs_of s) maximal r is).small in omega arith

  -- the next run, where it is of the same replica
  pub follows_some : (q next : Run) → first_after (Some (last_of q)) (runs_of s) ≡ Some next → next.replica ≡ q.replica → IsNext s q next
  follows_some q next is same = record {
    is_run = is_run (Some (last_of q)) next is;
    same = same;
    higher = higher q.replica q.hi next.replica next.hi same (found_passes (Some (last_of q)) (runs_of s) next is);
    left = step (Some (last_of q)) next is;
  }

  pub follows_other : (q next : Run) → first_after (Some (last_of q)) (runs_of s) ≡ Some next → next.replica ≢ q.replica → next_of q.replica (left s (Some (last_of q))) ≡ None
  follows_other q next is other =
      let out = ne_eqb next.replica q.replica other in
      ap (next_of q.replica) (step (Some (last_of q)) next is) ∙ ap (λ b. cond b (Some next) None) out

  pub follows_none : (q : Run) → first_after (Some (last_of q)) (runs_of s) ≡ None → next_of q.replica (left s (Some (last_of q))) ≡ None
  follows_none q is = ap (next_of q.replica) (stop_at (Some (last_of q)) is)

  -- what is kept of the run that comes next by a test of its replica
  pub follows_kept : (q : Run) (found kept : Option Run) → found ≡ first_after (Some (last_of q)) (runs_of s) → (Gives : Run → Bool → Type 0) → ((x : Run) (b : Bool) → Gives x b → b ≡ eqb x.replica q.replica)
      → MatchOption found (kept ≡ None) (λ x. (b : Bool) × Gives x b × (kept ≡ then_some b x)) → Follows s q kept
  follows_kept q None kept is Gives tells none = rw none (follows_none q (sym is))
  follows_kept q (Some x) kept is Gives tells (b, gives, kept_is) =
      let test = tells x b gives in
      elim (eqb_tells x.replica q.replica) [
        | inl e ↦ (let all : kept ≡ Some x = kept_is ∙ ap (λ b. then_some b x) (test ∙ e.0) in rw all (follows_some q x (sym is) e.1))
        | inr ne ↦ (let all : kept ≡ None = kept_is ∙ ap (λ b. then_some b x) (test ∙ ne.0) in rw all (follows_other q x (sym is) ne.1))
      ]

-- where no run of the replica comes next, its row is at its end
no_gaps : (ρ : ℕ) (rs : List Run) → next_of ρ rs ≡ None → (least : ℕ) → gaps_in ρ least rs ≡ []
no_gaps ρ [] none least = refl
no_gaps ρ (r ∷ rs) none least = elim (eqb_tells r.replica ρ) [
  | inl e ↦ absurd (let bad : ◌≡◌ {A = Option Run} (Some r) None = sym (ap (λ b. cond b (Some r) None) e.0) ∙ none in cc)
  | inr ne ↦ gaps_other ρ least r rs ne.1
]

no_top : (ρ : ℕ) (rs : List Run) → next_of ρ rs ≡ None → (top : ℕ) → top_in ρ top rs ≡ top
no_top ρ [] none top = refl
no_top ρ (r ∷ rs) none top = elim (eqb_tells r.replica ρ) [
  | inl e ↦ absurd (let bad : ◌≡◌ {A = Option Run} (Some r) None = sym (ap (λ b. cond b (Some r) None) e.0) ∙ none in cc)
  | inr ne ↦ top_other ρ top r rs ne.1
]

before-some : (least lo : ℕ) (gs : List Gap) → gap_before least lo gs ≡ gap_before least lo [] ++ gs
before-some least lo gs = elim (ltb least lo) as (λ b. let g : Gap = record { lo = least; hi = lo - 1 } in cond b (g ∷ gs) gs ≡ cond b (g ∷ []) [] ++ gs) [ true ↦ refl | false ↦ refl ]

-- the gaps of a replica's row after a run of it
abbrev pub gaps_after : Dots → ℕ → Run → List Gap
gaps_after s ρ r = gaps_in ρ (r.hi + 1) (left s (Some (last_of r)))

-- the gap from a least number on, before a run, and those after it
gaps_from : (s : Dots) (ρ least : ℕ) (r : Run) → r.replica ≡ ρ → gaps_in ρ least (r ∷ left s (Some (last_of r))) ≡ gap_before least r.lo [] ++ gaps_after s ρ r
gaps_from s ρ least r e = gaps_same ρ least r (left s (Some (last_of r))) e ∙ before-some least r.lo (gaps_after s ρ r)

row_gaps : (s : Dots) (first : Run) → (row_of_run s first).gaps ≡ gap_before 1 first.lo [] ++ gaps_after s first.replica first
row_gaps s first = gaps_from s first.replica 1 first refl

next_gaps : (s : Dots) (ρ : ℕ) (run next : Run) → run.replica ≡ ρ → IsNext s run next → gaps_after s ρ run ≡ gap_before (run.hi + 1) next.lo [] ++ gaps_after s ρ next
next_gaps s ρ run next e n = ap (gaps_in ρ (run.hi + 1)) n.left ∙ gaps_from s ρ (run.hi + 1) next (n.same ∙ e)

last_gaps : (s : Dots) (ρ : ℕ) (run : Run) → run.replica ≡ ρ → next_of run.replica (left s (Some (last_of run))) ≡ None → gaps_after s ρ run ≡ []
last_gaps s ρ run e none = no_gaps ρ (left s (Some (last_of run))) (ap (λ n. next_of n (left s (Some (last_of run)))) (sym e) ∙ none) (run.hi + 1)

-- ---- counting the gaps of a row

pub record IsCountingGaps (s : Dots) (first run : Run) (gaps : ℕ) : Type 0 where
  pub run_is : IsRun run
  pub same : run.replica ≡ first.replica
  pub few : gaps ≤ run.hi
  pub counted : gaps + length (gaps_after s first.replica run) ≡ length (row_of_run s first).gaps
  pub top : top_in first.replica run.hi (left s (Some (last_of run))) ≡ (row_of_run s first).top

pub gaps_begin : (s : Dots) (first : Run) (gaps : ℕ) → IsRun first → gaps ≡ length (gap_before 1 first.lo []) → gaps ≤ 1 → IsCountingGaps s first first gaps
gaps_begin s first gaps is is_gaps one =
    let from_one = is.from_one in
    let rises = is.rises in
    let e = ap length (row_gaps s first) ∙ length-append (gap_before 1 first.lo []) (gaps_after s first.replica first) in
    record { run_is = is; same = refl; few = omega arith; counted = omega arith; top = refl }

module _ (s : Dots) (first run : Run) (gaps : ℕ) (i : IsCountingGaps s first run gaps) where
  pub gaps_go_on : (next : Run) (more : ℕ) → IsNext s run next → more ≡ length (gap_before (run.hi + 1) next.lo []) → more ≤ 1 → IsCountingGaps s first next (gaps + more)
  gaps_go_on next more n is_more one =
      let few = i.few in
      let higher = n.higher in
      let counted = i.counted in
      let e = ap length (next_gaps s first.replica run next i.same n) ∙ length-append (gap_before (run.hi + 1) next.lo []) (gaps_after s first.replica next) in
      record {
        run_is = n.is_run;
        same = n.same ∙ i.same;
        few = omega arith;
        counted = omega arith;
        top = sym (top_same first.replica run.hi next (left s (Some (last_of next))) (n.same ∙ i.same)) ∙ ap (top_in first.replica run.hi) (sym n.left) ∙ i.top;
      }

  pub gaps_end : next_of run.replica (left s (Some (last_of run))) ≡ None → gaps ≡ length (row_of_run s first).gaps
  gaps_end none =
      let e = ap length (last_gaps s first.replica run i.same none) in
      let counted = i.counted in omega arith

  pub top_ends : next_of run.replica (left s (Some (last_of run))) ≡ None → run.hi ≡ (row_of_run s first).top
  top_ends none = sym (no_top first.replica (left s (Some (last_of run))) (ap (λ n. next_of n (left s (Some (last_of run)))) (sym i.same) ∙ none) run.hi) ∙ i.top

-- ---- writing the gaps of a row

pub record IsWritingGaps (s : Dots) (first run : Run) (out all : List ℕ) : Type 0 where
  pub run_is : IsRun run
  pub same : run.replica ≡ first.replica
  pub written : out ++ flat_map gap_text (gaps_after s first.replica run) ≡ all

-- a gap that was written, and those that are to come
one_written : (out next_out : List ℕ) (before after all : List Gap) → next_out ≡ out ++ flat_map gap_text before → all ≡ before ++ after → next_out ++ flat_map gap_text after ≡ out ++ flat_map gap_text all
one_written out next_out before after all more is =
    ap (λ (t : List ℕ). t ++ flat_map gap_text after) more ∙ append_assoc out (flat_map gap_text before) (flat_map gap_text after)
    ∙ ap (λ (t : List ℕ). out ++ t) (sym (flat_map-append gap_text before after)) ∙ ap (λ (gs : List Gap). out ++ flat_map gap_text gs) (sym is)

pub writing_begins : (s : Dots) (first : Run) (out next_out : List ℕ) → IsRun first → next_out ≡ out ++ flat_map gap_text (gap_before 1 first.lo [])
    → IsWritingGaps s first first next_out (out ++ flat_map gap_text (row_of_run s first).gaps)
writing_begins s first out next_out is more =
    record { run_is = is; same = refl; written = one_written out next_out (gap_before 1 first.lo []) (gaps_after s first.replica first) (row_of_run s first).gaps more (row_gaps s first) }

module _ (s : Dots) (first run : Run) (out all : List ℕ) (i : IsWritingGaps s first run out all) where
  pub writing_goes_on : (next : Run) (next_out : List ℕ) → IsNext s run next → next_out ≡ out ++ flat_map gap_text (gap_before (run.hi + 1) next.lo []) → IsWritingGaps s first next next_out all
  writing_goes_on next next_out n more = record {
    run_is = n.is_run;
    same = n.same ∙ i.same;
    written = one_written out next_out (gap_before (run.hi + 1) next.lo []) (gaps_after s first.replica next) (gaps_after s first.replica run) more (next_gaps s first.replica run next i.same n) ∙ i.written;
  }

  pub writing_ends : next_of run.replica (left s (Some (last_of run))) ≡ None → out ≡ all
  writing_ends none = sym (append-nil out) ∙ ap (λ (gs : List Gap). out ++ flat_map gap_text gs) (sym (last_gaps s first.replica run i.same none)) ∙ i.written

-- ---- measuring and writing the rows

length-gaps : (gs : List Gap) → length (flat_map gap_text gs) ≡ 16 * length gs
length-gaps [] = refl
length-gaps (g ∷ gs) = let e = ap length (flat_map-cons gap_text g gs) ∙ length-append (gap_text g) (flat_map gap_text gs) in let again = length-gaps gs in omega arith

pub row_length : (r : DotRow) → length (dot_row_text r) ≡ 13 + 16 * length r.gaps
row_length r = let e = length-gaps r.gaps in omega arith

-- ---- from the last dot of a row on

-- which replica's row may begin after a dot
abbrev pub next_replica : Option Dot → ℕ
next_replica None = 0
next_replica (Some d) = d.replica + 1

-- no run of the dot's own replica comes after it
abbrev pub IsAtEnd : Dots → Option Dot → Type 0
IsAtEnd s None = Unit {0}
IsAtEnd s (Some d) = next_of d.replica (left s (Some d)) ≡ None

-- the rows that are left after a dot
abbrev pub rows_left : Dots → Option Dot → List DotRow
rows_left s after = rows_from (next_replica after) (left s after)

abbrev pub a_dot : ℕ → ℕ → Dot
a_dot replica seq = record { replica = replica; seq = seq }

-- past the runs of a replica: what comes after the last of its dots is what comes after the others
pub record Leaps (s : Dots) (ρ top : ℕ) (rs : List Run) : Type 0 where
  pub ended : IsAtEnd s (Some (a_dot ρ top))
  pub same : rows_left s (Some (a_dot ρ top)) ≡ rows_from (ρ + 1) rs
  pub fewer : length (left s (Some (a_dot ρ top))) ≤ length rs

not_before : (a s b t : ℕ) → is_lt (ordering_then (nat_cmp a b) (nat_cmp s t)) ≡ true → a ≤ b
not_before a s b t h = grind (arith, nat_tests)

module _ (s : Dots) (dots : AreOnlyDots s) where
  -- the first that is left is the first that is found
  found_first : (after : Option Dot) (t : Run) (ts : List Run) → left s after ≡ t ∷ ts → first_after after (runs_of s) ≡ Some t
  found_first after t ts is =
      elim (first_after after (runs_of s)) as (λ (o : Option Run). first_after after (runs_of s) ≡ o → o ≡ Some t) [
        | None ↦ λ h. absurd (let none : ◌≡◌ {A = List Run} [] (t ∷ ts) = sym (stop_at s dots after h) ∙ is in cc)
        | Some r ↦ λ h. (let one : ◌≡◌ {A = List Run} (r ∷ left s (Some (last_of r))) (t ∷ ts) = sym (step s dots after r h) ∙ is in cc)
      ] refl

  leaps : (rs : List Run) (q : Run) → left s (Some (last_of q)) ≡ rs → Leaps s q.replica (top_in q.replica q.hi rs) rs
  leaps [] q is = record {
    ended = ap (next_of q.replica) is;
    same = ap (rows_from (q.replica + 1)) is;
    fewer = (let e = ap length is in omega arith);
  }
  leaps (t ∷ ts) q is =
      let found = found_first (Some (last_of q)) t ts is in
      let later : left s (Some (last_of t)) ≡ ts = (let one : ◌≡◌ {A = List Run} (t ∷ left s (Some (last_of t))) (t ∷ ts) = sym (step s dots (Some (last_of q)) t found) ∙ is in cc) in
      elim (eqb_tells t.replica q.replica) [
        | inl e ↦ (
            let l = leaps ts t later in
            let fewer = l.fewer in
            let made : Leaps s t.replica (top_in t.replica t.hi ts) (t ∷ ts) =
            record { ended = l.ended; same = l.same ∙ sym (rows_skip (t.replica + 1) t ts (omega arith)); fewer = omega arith } in
            let top-is : top_in t.replica t.hi ts ≡ top_in q.replica q.hi (t ∷ ts) = ap (λ n. top_in n t.hi ts) e.1 ∙ sym (top_same q.replica q.hi t ts e.1) in
            subst (λ n. Leaps s q.replica n (t ∷ ts)) top-is (subst (λ n. Leaps s n (top_in t.replica t.hi ts) (t ∷ ts)) e.1 made))
        | inr other ↦ (
            let made : Leaps s q.replica q.hi (t ∷ ts) = record {
              ended = ap (next_of q.replica) is ∙ ap (λ b. cond b (Some t) None) other.0;
              same = ap (rows_from (q.replica + 1)) is;
              fewer = (let e = ap length is in omega arith);
            } in
            subst (λ n. Leaps s q.replica n (t ∷ ts)) (sym (top_other q.replica q.hi t ts other.1)) made)
      ]

  -- a run that is found at the end of a replica's runs is of a later one
  found_later : (after : Option Dot) (r : Run) → IsAtEnd s after → first_after after (runs_of s) ≡ Some r → next_replica after ≤ r.replica
  found_later None r ended is = omega arith
  found_later (Some d) r ended is =
      let le = not_before d.replica d.seq r.replica r.hi (found_passes (Some d) (runs_of s) r is) in
      elim (eqb_tells r.replica d.replica) [
        | inl e ↦ absurd (let bad : ◌≡◌ {A = Option Run} (Some r) None = sym (ap (next_of d.replica) (step s dots (Some d) r is) ∙ ap (λ b. cond b (Some r) None) e.0) ∙ ended in cc)
        | inr ne ↦ omega (arith, ne.1, le)
      ]

  -- one row, from the first of its runs to the last of its dots
  pub record IsOneRow (after : Option Dot) (r : Run) (last : Dot) : Type 0 where
    pub ended : IsAtEnd s (Some last)
    pub later : next_replica after ≤ r.replica
    pub opened : rows_left s after ≡ row_of_run s r ∷ rows_left s (Some last)
    pub fewer : length (left s (Some last)) < length (left s after)

  pub one_row : (after : Option Dot) (r : Run) (last : Dot) → IsAtEnd s after → first_after after (runs_of s) ≡ Some r → last ≡ row_end (row_of_run s r) → IsOneRow after r last
  one_row after r last ended is end =
      let rs : List Run = left s (Some (last_of r)) in
      let one = step s dots after r is in
      let later = found_later after r ended is in
      let l = leaps rs r refl in
      let fewer = l.fewer in
      let e = ap length one in
      let made : IsOneRow after r (row_end (row_of_run s r)) = record {
        ended = l.ended;
        later = later;
        opened = ap (rows_from (next_replica after)) one ∙ rows_open (next_replica after) r rs later ∙ ap (λ (rows : List DotRow). row_of_run s r ∷ rows) (sym l.same);
        fewer = omega arith;
      } in
      subst (λ (d : Dot). IsOneRow after r d) (sym end) made

  pub rows_ended : (after : Option Dot) → first_after after (runs_of s) ≡ None → rows_left s after ≡ []
  rows_ended after is = ap (rows_from (next_replica after)) (stop_at s dots after is)

pub rows_at_none : (s : Dots) → rows_left s None ≡ rows_from 0 (runs_of s)
rows_at_none s = ap (rows_from 0) (all_left (runs_of s))

pub record IsMeasuring (s : Dots) (after : Option Dot) (rows len : ℕ) : Type 0 where
  pub ended : IsAtEnd s after
  pub counted : rows + length (rows_left s after) ≡ length (rows_from 0 (runs_of s))
  pub measured : len + length (flat_map dot_row_text (rows_left s after)) ≡ length (flat_map dot_row_text (rows_from 0 (runs_of s)))
  pub few : rows ≤ next_replica after
  pub byte : next_replica after ≤ 256
  pub small : len ≤ 2 ^ 60 * next_replica after

pub measuring_begins : (s : Dots) → IsMeasuring s None 0 0
measuring_begins s =
    let e = ap length (rows_at_none s) in
    let f = ap (λ (rows : List DotRow). length (flat_map dot_row_text rows)) (rows_at_none s) in
    record { ended = tt; counted = omega arith; measured = omega arith; few = omega arith; byte = omega arith; small = omega arith }

pub measuring_goes_on : (s : Dots) (after : Option Dot) (rows len gaps : ℕ) (r : Run) (top : ℕ) → (dots : AreOnlyDots s) → IsMeasuring s after rows len → IsOneRow s dots after r (a_dot r.replica top) → r.replica < 256
    → gaps ≡ length (row_of_run s r).gaps → gaps < 2 ^ 48 → IsMeasuring s (Some (a_dot r.replica top)) (rows + 1) (len + (13 + 16 * gaps))
measuring_goes_on s after rows len gaps r top dots i o byte e lt =
    let row = row_of_run s r in
    let more = rows_left s (Some (a_dot r.replica top)) in
    let a = ap length o.opened in
    let b = ap (λ (x : List DotRow). length (flat_map dot_row_text x)) o.opened ∙ ap length (flat_map-cons dot_row_text row more) ∙ length-append (dot_row_text row) (flat_map dot_row_text more) in
    let c = row_length row in
    let later = o.later in
    let counted = i.counted in
    let measured = i.measured in
    let few = i.few in
    let small = i.small in
    record { ended = o.ended; counted = omega arith; measured = omega arith; few = omega arith; byte = omega arith; small = omega arith }

pub record IsWritingRows (s : Dots) (after : Option Dot) (out all : List ℕ) : Type 0 where
  pub ended : IsAtEnd s after
  pub can_count : CanCountAll (rows_left s after)
  pub written : out ++ flat_map dot_row_text (rows_left s after) ≡ all

pub rows_writing_begins : (s : Dots) (out : List ℕ) → CanCountAll (rows_from 0 (runs_of s)) → IsWritingRows s None out (out ++ flat_map dot_row_text (rows_from 0 (runs_of s)))
rows_writing_begins s out can = record {
  ended = tt;
  can_count = subst CanCountAll (sym (rows_at_none s)) can;
  written = ap (λ (x : List DotRow). out ++ flat_map dot_row_text x) (rows_at_none s);
}

module _ (s : Dots) (dots : AreOnlyDots s) (after : Option Dot) (out all : List ℕ) (i : IsWritingRows s after out all) where
  pub row_can_count : (r : Run) → first_after after (runs_of s) ≡ Some r → length (row_of_run s r).gaps < 2 ^ 32
  row_can_count r is = (subst CanCountAll (one_row s dots after r (row_end (row_of_run s r)) i.ended is refl).opened i.can_count).0

  pub rows_writing_goes_on : (r : Run) (last : Dot) (next_out : List ℕ) → IsOneRow s dots after r last → next_out ≡ out ++ dot_row_text (row_of_run s r) → IsWritingRows s (Some last) next_out all
  rows_writing_goes_on r last next_out o more =
      let row = row_of_run s r in
      let later = rows_left s (Some last) in
      record {
        ended = o.ended;
        can_count = (subst CanCountAll o.opened i.can_count).1;
        written = ap (λ (t : List ℕ). t ++ flat_map dot_row_text later) more ∙ append_assoc out (dot_row_text row) (flat_map dot_row_text later)
            ∙ ap (λ (t : List ℕ). out ++ t) (sym (flat_map-cons dot_row_text row later)) ∙ ap (λ (x : List DotRow). out ++ flat_map dot_row_text x) (sym o.opened) ∙ i.written;
      }

  pub rows_writing_ends : first_after after (runs_of s) ≡ None → out ≡ all
  rows_writing_ends is = sym (append-nil out) ∙ ap (λ (x : List DotRow). out ++ flat_map dot_row_text x) (sym (rows_ended s dots after is)) ∙ i.written
