-- Sets with the dots of runs.
use Rattle.std.proofs.Common.{◌≡◌, ℕ, ◌+◌, ◌-◌, ◌<◌, ◌≤◌, Bool, true, false, ◌||◌, List, [], ◌∷◌, ◌++◌, Option, Some, None, refl, sym, ap, ◌∙◌, arith}
use Rattle.std.specs.List.{flat_map}
use Rattle.std.specs.FinSet as set
use Rattle.std.specs.Ordering.{eq_by_cmp}
use Rattle.std.proofs.lemmas.List.{append-nil}
use Rattle.std.proofs.lemmas.List.Folds.{list_any-append}
use Rattle.std.proofs.lemmas.Grind.{flat_map-append}
use Rattle.std.proofs.lemmas.List.Concat.{flat_map-cons}
use Rattle.std.proofs.lemmas.Bool.{lt-ltb, le-ltb}
use Rattle.std.specs.Prelude.{nat_lt}
use Rattle.rds_dots.specs.declared.dot.TheConstants.{MAX_SEQ}
use Rattle.rds_dots.specs.declared.dot.Dot.{Dot}
use Rattle.rds_dots.specs.declared.dot.Run.{Run}
use Rattle.rds_dots.specs.Dots.{Dots, IsRun, dot_cmp, in_run}
use Rattle.rds_dots.specs.Listed.{lists, dots_of}
use Rattle.rds_dots.specs.Order.{dots_total, dots_exact}
use Rattle.rds_dots.specs.Sets.{contains_list, lists-run}
use Rattle.rds_bytes.specs.declared.dots.Gap.{Gap}
use Rattle.rds_bytes.specs.RowDots.{first_after_gap, run_before, dots_of_runs}
use Rattle.rds_feeds.specs.SeenDots.{GapsValue, IsBelowTop, with_runs, end_row, last_run}

none_or : (a : Bool) → (a || false) ≡ a
none_or true = refl
none_or false = refl

or_turned : (a b c : Bool) → (b || (a || c)) ≡ ((a || b) || c)
or_turned true true c = refl
or_turned true false c = refl
or_turned false b c = refl

pub same_dots : (s t : Dots) → ((d : Dot) → set.contains s d ≡ set.contains t d) → s ≡ t
same_dots s t same = set.same_set dots_total dots_exact s t same

-- whether one of the runs has the dot among those it lists
abbrev has : List Run → Dot → Bool
has rs d = lists (flat_map dots_of rs) d

has_both : (rs ss : List Run) (d : Dot) → has (rs ++ ss) d ≡ (has rs d || has ss d)
has_both rs ss d = ap (λ (ds : List Dot). lists ds d) (flat_map-append dots_of rs ss) ∙ list_any-append (eq_by_cmp dot_cmp d) (flat_map dots_of rs) (flat_map dots_of ss)

contains_with : (rs : List Run) (s : Dots) (d : Dot) → set.contains (with_runs rs s) d ≡ (has rs d || set.contains s d)
unfolding dots_of_runs
contains_with rs s d = set.contains-union dots_total (dots_of_runs rs) s d ∙ ap (λ b. b || set.contains s d) (contains_list (flat_map dots_of rs) d)

-- one after the other
pub with_both : (rs ss : List Run) (s : Dots) → with_runs rs (with_runs ss s) ≡ with_runs (ss ++ rs) s
with_both rs ss s = same_dots _ _ (λ d.
    (contains_with rs (with_runs ss s) d ∙ ap (λ b. has rs d || b) (contains_with ss s d) ∙ or_turned (has ss d) (has rs d) (set.contains s d)
    ∙ ap (λ b. b || set.contains s d) (sym (has_both ss rs d)) ∙ sym (contains_with (ss ++ rs) s d)))

pub with_none : (s : Dots) → s ≡ with_runs [] s
with_none s = same_dots _ _ (λ d. sym (contains_with [] s d))

pub with_all : (rs : List Run) → with_runs rs set.empty ≡ dots_of_runs rs
unfolding dots_of_runs
with_all rs = same_dots _ _ (λ d. (contains_with rs set.empty d ∙ ap (λ b. has rs d || b) (set.contains-empty dot_cmp d) ∙ none_or (has rs d) ∙ sym (contains_list (flat_map dots_of rs) d)))

-- what a run's insertion makes
pub with_one : (r : Run) (old new : Dots) → IsRun r → ((d : Dot) → set.contains new d ≡ (in_run r d || set.contains old d)) → new ≡ with_runs (r ∷ []) old
with_one r old new is same = same_dots _ _ (λ d.
    (same d ∙ ap (λ b. b || set.contains old d) (sym (ap (λ (ds : List Dot). lists ds d) (flat_map-cons dots_of r [] ∙ append-nil (dots_of r)) ∙ lists-run r is d)) ∙ sym (contains_with (r ∷ []) old d)))

before_some : (ρ least lo : ℕ) → least < lo → run_before ρ least lo [] ≡ record { replica = ρ; lo = least; hi = lo - 1 } ∷ []
before_some ρ least lo lt = let e : nat_lt least lo ≡ true = lt-ltb least lo lt in rw e refl

pub before_none : (ρ least lo : ℕ) → lo ≤ least → run_before ρ least lo [] ≡ []
before_none ρ least lo le = let e : nat_lt least lo ≡ false = le-ltb least lo le in rw e refl

pub before_is : (ρ least lo : ℕ) (old new : Dots) → 1 ≤ least → lo ≤ MAX_SEQ → least < lo
    → (let r : Run = record { replica = ρ; lo = least; hi = lo - 1 } in (d : Dot) → set.contains new d ≡ (in_run r d || set.contains old d)) → new ≡ with_runs (run_before ρ least lo []) old
before_is ρ least lo old new one within lt same =
    let r : Run = record { replica = ρ; lo = least; hi = lo - 1 } in
    with_one r old new (record { from_one = one; rises = omega arith; within = omega arith }) same ∙ ap (λ (rs : List Run). with_runs rs old) (sym (before_some ρ least lo lt))

after_one : (before : Option Gap) → 1 ≤ first_after_gap before
after_one None = omega arith
after_one (Some g) = omega arith

-- the run after the last gap ends a row
pub row_ends : (g : GapsValue) (lo from : ℕ) (new : Dots) → IsBelowTop g → lo ≡ first_after_gap g.before → from ≡ g.replica
    → (let r : Run = record { replica = g.replica; lo = lo; hi = g.top } in (d : Dot) → set.contains new d ≡ (in_run r d || set.contains g.seen d))
    → end_row g ≡ record { replicas = g.replicas; least = from + 1; seen = new }
row_ends g lo from new below lo_is from_is same =
    let inserted : (d : Dot) → set.contains new d ≡ (in_run (last_run g) d || set.contains g.seen d) = λ d. same d ∙ ap (λ (l : ℕ). let r : Run = record { replica = g.replica; lo = l; hi = g.top } in in_run r d || set.contains g.seen d) lo_is in
    let seen : new ≡ with_runs (last_run g ∷ []) g.seen = with_one (last_run g) g.seen new (record { from_one = after_one g.before; rises = below.0; within = below.1 }) inserted in
    ap (λ (s : Dots). record { replicas = g.replicas; least = g.replica + 1; seen = s }) (sym seen) ∙ ap (λ (n : ℕ). record { replicas = g.replicas; least = n + 1; seen = new }) (sym from_is)
