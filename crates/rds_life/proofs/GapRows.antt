-- Rows that lie in a gap of a set are leapt.
use Rattle.std.proofs.Common.{◌≡◌, ℕ, ◌+◌, ◌-◌, ◌*◌, ◌<◌, ◌≤◌, true, false, cond, not, ◌&&◌, List, [], ◌∷◌, length}
use Rattle.std.proofs.Common.{Some, None, refl, sym, ◌∙◌, ap, arith}
use Rattle.std.proofs.lemmas.Bool.{false_from_ne_true}
use Rattle.std.specs.Prelude.{is_some}
use Rattle.std.specs.FinMap as map
use Rattle.std.specs.FinSet as set
use Rattle.std.specs.List.{list_all}
use Rattle.std.specs.Ordering.{is_lt, nat_cmp, ordering_then}
use Rattle.std.proofs.lemmas.List.Filters.{length-filter_both}
use Rattle.std.proofs.lemmas.Bool.Decides.{nat_tests}
use Rattle.rds_names.specs.declared.entry.Entry.{Entry}
use Rattle.rds_names.specs.Conditions.{and_left, and_right}
use Rattle.rds_dots.specs.declared.dot.Dot.{Dot}
use Rattle.rds_dots.specs.declared.dot.Run.{Run}
use Rattle.rds_dots.specs.Ascending.{is_above, ascends}
use Rattle.rds_dots.specs.Dots.{Dots, dot_cmp, is_dot}
use Rattle.rds_dots.specs.Lacking.{dot_of}
use Rattle.rds_dots.specs.Runs.{first_after, runs_of}
use Rattle.rds_dots.specs.RunsOf.{are_runs}
use Rattle.rds_dots.specs.Sets.{dot_limits}
use Rattle.rds_dots.proofs.NextRuns.{is_first, none_after}
use Rattle.rds_life.specs.Added.{gone_rows, is_gone, IsGapEnd}
use Rattle.rds_life.specs.Life.{keys}
use Rattle.rds_life.specs.Past.{rows_past}

-- what isn't past the dot before a run lies before the run
before_run : (ρ lo a n : ℕ) → 1 ≤ lo → n ≤ 281474976710655 → is_lt (ordering_then (nat_cmp ρ a) (nat_cmp (lo - 1) n)) ≡ false → a * 281474976710656 + n < ρ * 281474976710656 + lo
before_run ρ lo a n one most h = grind (arith, nat_tests)

module _ (s : Dots) (dots : (d : Dot) → set.contains s d ≡ true → is_dot d ≡ true) (first : Dot) where
  pub ends_before : (r : Run) → Some r ≡ first_after (Some first) (runs_of s) → IsGapEnd s first (dot_of r.replica (r.lo - 1))
  ends_before r is = λ d above upto. false_from_ne_true _ (λ h.
      let runs = are_runs s dots in
      let one = is_first (runs_of s) runs.maximal (Some first) r (sym is) in
      let from = one.first d (runs.same d ∙ h) above in
      let limits = dot_limits d (dots d h) in
      let lt = before_run r.replica r.lo d.replica d.seq one.bounds.one limits.within upto in
      absurd (omega (arith, from, lt)))

  pub begins_later : (r : Run) → Some r ≡ first_after (Some first) (runs_of s) → 1 ≤ r.lo
  begins_later r is = (is_first (runs_of s) (are_runs s dots).maximal (Some first) r (sym is)).bounds.one

  pub no_end : (last : Dot) → None ≡ first_after (Some first) (runs_of s) → IsGapEnd s first last
  no_end last is = λ d above upto. false_from_ne_true _ (λ h. none_after (runs_of s) (Some first) (sym is) d ((are_runs s dots).same d ∙ h) above)

module _ (s : Dots) (live : List (Dot × Entry)) (first last : Dot) (gap : IsGapEnd s first last) where
  abbrev pub gone : List (Dot × Entry) → List (Dot × Entry)
  gone rows = gone_rows (set.contains s) live rows

  none_gone : (d : Dot) → is_above first d ≡ true → is_above last d ≡ false → is_gone (set.contains s) live d ≡ false
  none_gone d above upto = ap (λ b. b && not (is_some (map.find dot_cmp d live))) (gap d above upto)

  -- what is gone lies past the gap
  pub gone_leapt : (rows : List (Dot × Entry)) → list_all (is_above first) (keys rows) ≡ true → gone (rows_past last rows) ≡ gone rows
  gone_leapt [] all = refl
  gone_leapt (r ∷ rows) all =
      let again = gone_leapt rows (and_right (is_above first r.0) _ all) in
      elim (is_above last r.0) as (λ b. is_above last r.0 ≡ b → gone (cond b (r ∷ rows_past last rows) (rows_past last rows)) ≡ cond (is_gone (set.contains s) live r.0) (r ∷ gone rows) (gone rows)) [
        | true ↦ λ _. ap (λ l. cond (is_gone (set.contains s) live r.0) (r ∷ l) l) again
        | false ↦ λ is. again ∙ sym (ap (λ b. cond b (r ∷ gone rows) (gone rows)) (none_gone r.0 (and_left (is_above first r.0) _ all) is))
      ] refl

pub front_rises : {X : Type 0} (d : Dot) (rows : List (Dot × X)) → ascends (d ∷ keys rows) ≡ true → list_all (is_above d) (keys rows) ≡ true
front_rises d rows rise = and_left (list_all (is_above d) (keys rows)) _ rise

pub no_more : {X : Type 0} (last : Dot) (rows : List (Dot × X)) → length (rows_past last rows) ≤ length rows
no_more last rows = let n = length-filter_both (λ r. is_above last r.0) (λ r. not (is_above last r.0)) (λ r. refl) rows in omega (arith, n)
